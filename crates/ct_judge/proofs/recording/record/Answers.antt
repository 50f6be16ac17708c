use Rattle.std.proofs.Common.{rules, ◌≡◌, ◌≤◌, length, Err}
use Rattle.ct_judge.specs.declared.record_fault.RecordFault.TheVariants.{TooLong}
use Rattle.ct_judge.specs.declared.recording.TheConstants.{MAX_LEN}
use Rattle.ct_judge.proofs.Lines.{long_input, short_input}
use Rattle.ct_judge.proofs.recording.record.Goals as goal

pub returns-in_err-text-clause-long : goal.returns-in_err-text-clause-long
returns-in_err-text-clause-long g c = λ e.
    let same : c.deref.result.now ≡ c.in_ok-bytes.bytes.items = search rules in
    let failed : c.recorded.result ≡ Err TooLong = search (rules, e) in
    long_input (g.R.Source.left c.args.reader.now) c.in_ok-bytes.bytes.items c.deref.result.now same c.in_ok-bytes.ensures.bytes
    (c.recorded.ensures.long failed)

pub returns-in-Ok-clause-within : goal.returns-in-Ok-clause-within
returns-in-Ok-clause-within g c =
    let same : c.deref.result.now ≡ c.in_ok-bytes.bytes.items = search rules in
    let short : length c.deref.result.now ≤ MAX_LEN = c.in_ok-text.ensures.within (search rules) in
    short_input (g.R.Source.left c.args.reader.now) c.in_ok-bytes.bytes.items c.deref.result.now same c.in_ok-bytes.ensures.bytes short
