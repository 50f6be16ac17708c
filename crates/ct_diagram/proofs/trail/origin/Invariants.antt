use Rattle.std.proofs.Common.{◌≡◌, None, take}
use Rattle.std.specs.Prelude.{fold}
use Rattle.ct_diagram.specs.Trail.{origin_or}
use Rattle.ct_diagram.proofs.trail.origin.Given as goal

abbrev pub invariant-loop-drawn : goal.invariant-loop-drawn
invariant-loop-drawn l = l.last ≡ fold (origin_or l.serial) None (take l.drawn-index l.trail)
