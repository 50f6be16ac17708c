use Rattle.ct_records.proofs.Common.{IsOfReplayFault, IsFaultIn, rehearsal_of}
use Rattle.ct_records.proofs.Refused.{err_seen, replay_refused}
use Rattle.ct_records.proofs.replaying.answer.Goals as goal

pub returns-in_err-world-clause-fault : goal.returns-in_err-world-clause-fault
returns-in_err-world-clause-fault c =
    err_seen c.from_residual-in_err-world.result (IsOfReplayFault c.in_err-world.field-0.0) (λ fault. IsFaultIn fault c.args.bytes.items)
    (λ fault. replay_refused c.args.bytes.items (rehearsal_of c.in_ok-script.script) c.deref-2.result.now c.in_err-world.field-0.0 fault
    (rw c.deref.ensures.value at c.in_ok-script.ensures.exact) c.deref-2.ensures.value c.in_err-world.ensures.err)
    c.from_residual-in_err-world.ensures.1
