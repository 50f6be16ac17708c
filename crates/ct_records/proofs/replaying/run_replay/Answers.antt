use Rattle.ct_records.proofs.Common.{◌≡◌, IfSome, Appends, IsFaultIn}
use Rattle.ct_streams.specs.Streams.{WritesPart}
use Rattle.ct_records.proofs.Refused.{err_seen}
use Rattle.ct_records.proofs.Answered.{told}
use Rattle.ct_records.proofs.replaying.run_replay.Goals as goal

pub returns-in_err-text-clause-fault : goal.returns-in_err-text-clause-fault
returns-in_err-text-clause-fault g c =
    let left = g.R.Source.left c.args.reader.now in
    err_seen c.from_residual.result (λ fault. fault ≡ c.in_err-text.field-0.0) (λ fault. IfSome left (IsFaultIn fault))
    (λ fault same. rw same c.in_err-text.ensures.fault) c.from_residual.ensures.1

pub returns-in-Ok-clause-ok : goal.returns-in-Ok-clause-ok
returns-in-Ok-clause-ok g c =
    told (g.R.Source.left c.args.reader.now) _ _ (Appends (g.W.Sink.written c.args.writer.now) _) c.in_ok-text.ensures.ok
    c.deref.ensures.value c.in-Ok.ensures.bytes

pub returns-clause-part : goal.returns-clause-part
returns-clause-part g c = λ _.
    told (g.R.Source.left c.args.reader.now) _ _ (WritesPart (g.W.Sink.written c.args.writer.now) _) c.in_ok-text.ensures.ok
    c.deref.ensures.value c.in-Err.ensures.part
