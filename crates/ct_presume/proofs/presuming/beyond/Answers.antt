use Rattle.std.proofs.Common.{IfOk, subst}
use Rattle.ct_merge.specs.Waits.{AllBegin}
use Rattle.ct_presume.proofs.presuming.beyond.Goals as goal

pub returns-clause-begun : goal.returns-clause-begun
returns-clause-begun c =
    subst (λ l. IfOk c.go_beyond-continued.result (λ it. AllBegin l it.logs.items)) c.in_ok-merger.ensures.logs
    c.go_beyond-continued.ensures.begun
