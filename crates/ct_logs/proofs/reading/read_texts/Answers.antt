use Rattle.std.proofs.Common.{List, ℕ}
use Rattle.std.specs.Borrow.{Bor}
use Rattle.ct_logs.proofs.Files.{texts_more, too_long_at}
use Rattle.ct_logs.proofs.Telling.{no_logs_for}
use Rattle.ct_logs.proofs.reading.read_texts.Goals as goal

pub returns-in-Err-clause-fault : goal.returns-in-Err-clause-fault
returns-in-Err-clause-fault g c =
    no_logs_for _ _ c.in-Err.fault
    (λ long. too_long_at _ (λ (name : Bor (List ℕ)). name.now) c.args.names.now c.loop-name.name-index _ c.loop-name-test.true long)
    c.in-Err.ensures.fault

pub loop-name-preserved : goal.loop-name-preserved
loop-name-preserved g c =
    texts_more _ (λ (name : Bor (List ℕ)). name.now) c.args.names.now c.loop-name.name-index _ c.loop-name-test.true _ _ _
    c.loop-name.invariant c.in-Ok.ensures.ok c.in-Ok-push.ensures
