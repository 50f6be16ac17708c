use Rattle.ct_records.proofs.Common.{◌≡◌, Ok, ap, arith, IfSome, script, IsReadOf}
use Rattle.std.proofs.lemmas.Result.{IfErr-weaker, IfOk-weaker}
use Rattle.ct_records.proofs.Answered.{fault_in, memory_in, report_in, report_read}
use Rattle.ct_records.proofs.Sources.{input_says, input_too_long}
use Rattle.ct_records.proofs.replaying.report_of.Goals as goal

pub returns-in-Some-clause-ok : goal.returns-in-Some-clause-ok
returns-in-Some-clause-ok g c =
    let left = g.R.Source.left c.args.reader.now in
    let w = c.in-Some.stage.rehearsal in
    let whole : IsReadOf left (g.R.Source.left c.run.new.reader) w = rw c.in-Some.is at c.in_ok-stage.ensures.whole in
    IfOk-weaker c.report_after.result _ _ (λ text says. report_read left (g.R.Source.left c.run.new.reader) w text.items whole says)
    c.report_after.ensures.ok

pub returns-in-Some-clause-fault : goal.returns-in-Some-clause-fault
returns-in-Some-clause-fault g c =
    IfErr-weaker c.report_after.result _ _ (memory_in (g.R.Source.left c.args.reader.now)) c.report_after.ensures.err

pub returns-then-input-gt-MAX_LEN-clause-fault : goal.returns-then-input-gt-MAX_LEN-clause-fault
returns-then-input-gt-MAX_LEN-clause-fault g c =
    let left = g.R.Source.left c.args.reader.now in
    input_too_long left (g.R.Source.left c.run.new.reader) (g.R.Source.left c.read_up_to.new.reader) c.run.new.input
    c.read_up_to.new.self.bytes.items c.read_up_to.new.self.count (c.in_ok-stage.ensures.part (ap (λ o. Ok o) c.in_default.is))
    c.in_ok-read_up_to.ensures.read (omega (arith, c.if-input-gt-MAX_LEN.true))

pub returns-clause-ok : goal.returns-clause-ok
returns-clause-ok g c =
    let left = g.R.Source.left c.args.reader.now in
    let bytes = c.read_up_to.new.self.bytes.items in
    let says : IfSome left (λ input. script bytes ≡ script input) =
    input_says left (g.R.Source.left c.run.new.reader) (g.R.Source.left c.read_up_to.new.reader) c.run.new.input bytes
    c.read_up_to.new.self.count (c.in_ok-stage.ensures.part (ap (λ o. Ok o) c.in_default.is)) c.in_ok-read_up_to.ensures.read
    c.in_ok-read_up_to.ensures.enough (omega (arith, c.if-input-gt-MAX_LEN.false)) in
    IfOk-weaker c.answer.result _ _ (λ text h. report_in left bytes text.items says h) c.answer.ensures.ok

pub returns-clause-fault : goal.returns-clause-fault
returns-clause-fault g c =
    let left = g.R.Source.left c.args.reader.now in
    let bytes = c.read_up_to.new.self.bytes.items in
    let says : IfSome left (λ input. script bytes ≡ script input) =
    input_says left (g.R.Source.left c.run.new.reader) (g.R.Source.left c.read_up_to.new.reader) c.run.new.input bytes
    c.read_up_to.new.self.count (c.in_ok-stage.ensures.part (ap (λ o. Ok o) c.in_default.is)) c.in_ok-read_up_to.ensures.read
    c.in_ok-read_up_to.ensures.enough (omega (arith, c.if-input-gt-MAX_LEN.false)) in
    IfErr-weaker c.answer.result _ _ (λ fault h. fault_in fault left bytes says h) c.answer.ensures.fault
