use Rattle.std.proofs.Common.{◌≡◌, take}
use Rattle.ct_play.specs.Goals.{looks_of}
use Rattle.ct_play.proofs.goals.looks.Given as goal

abbrev pub invariant-loop-term : goal.invariant-loop-term
invariant-loop-term l = l.looks.items ≡ looks_of l.stage (take l.term-index l.terms)
