use Rattle.std.proofs.Common.{take}
use Rattle.ct_rehearse.proofs.PlayLemmas.{IsPlayed}
use Rattle.ct_rehearse.proofs.plays.play.Given as goal

abbrev pub invariant-loop-step : goal.invariant-loop-step
invariant-loop-step g l = IsPlayed l.initial.desk l.initial.share (take l.step-index l.steps) l.desk l.share l.played
