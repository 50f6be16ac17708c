use Rattle.std.proofs.Common.{◌≡◌, None, not, take}
use Rattle.std.specs.Prelude.{find}
use Rattle.ct_play.specs.Goals.{is_met}
use Rattle.ct_play.proofs.expecting.unmet.Given as goal

abbrev pub invariant-loop-term : goal.invariant-loop-term
invariant-loop-term l = find (λ t. not (is_met l.stage t)) (take l.term-index l.goal) ≡ None
