use Rattle.std.specs.Prelude.{◌≡◌, take}
use Rattle.ct_walk.specs.Walking.{entries_left}
use Rattle.ct_walk.proofs.draws.Draws.most_turns.Given as goal

abbrev pub invariant-loop-script : goal.invariant-loop-script
invariant-loop-script l = (l.entries ≡ entries_left (take l.script-index l.scripts))
