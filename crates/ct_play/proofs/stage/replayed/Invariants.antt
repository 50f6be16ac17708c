use Rattle.std.proofs.Common.{◌≡◌, take}
use Rattle.ct_play.specs.Played.{with_record}
use Rattle.ct_play.proofs.stage.replayed.Given as goal

abbrev pub invariant-loop-i : goal.invariant-loop-i
invariant-loop-i l = l.stage ≡ with_record l.fn.first (record l.fn.first.rehearsal { steps = take l.i l.steps })
