use Rattle.std.proofs.Common.{◌≡◌, drop}
use Rattle.ct_shrink.specs.Playing.{first_for}
use Rattle.ct_shrink.proofs.playing.first_for.Given as goal

abbrev pub invariant-loop-i : goal.invariant-loop-i
invariant-loop-i l =
    first_for l.stage.rehearsal l.from (drop l.from l.lines) ≡ first_for l.stage.rehearsal l.i (drop l.i l.lines)
