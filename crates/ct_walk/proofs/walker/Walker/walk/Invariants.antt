use Rattle.std.proofs.Common.{◌≡◌, ◌-◌, max}
use Rattle.ct_walk.specs.Nearness.{rounds_for}
use Rattle.ct_walk.specs.Walking.{walked_for}
use Rattle.ct_walk.proofs.walker.Walker.walk.Given as goal

abbrev pub invariant-loop-made : goal.invariant-loop-made
invariant-loop-made l =
    (walked_for l.options l.made (l.most - l.made) l.self ≡ walked_for l.options 0 l.most l.fn.self)
    × (max l.rounds (rounds_for l.options l.made (l.most - l.made) l.self) ≡ rounds_for l.options 0 l.most l.fn.self)
