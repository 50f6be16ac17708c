use Rattle.ct_records.specs.ProgramFault.{IsOfReplayFault}
use Rattle.ct_records.specs.View.{rehearsal_of}
use Rattle.ct_records.proofs.Refused.{err_seen}
use Rattle.ct_listing.specs.Listing.{IsRefusal}
use Rattle.ct_listing.proofs.Seen.{replay_refusal}
use Rattle.ct_listing.proofs.writing.replay.Goals as goal

pub returns-in_err-world-clause-err : goal.returns-in_err-world-clause-err
returns-in_err-world-clause-err c =
    err_seen c.from_residual.result (IsOfReplayFault c.in_err-world.field-0.0) (λ fault. IsRefusal fault (rehearsal_of c.args.script.now))
    (λ fault. replay_refusal (rehearsal_of c.args.script.now) c.deref.result.now c.in_err-world.field-0.0 fault c.deref.ensures.value
    c.in_err-world.ensures.err) c.from_residual.ensures.1
