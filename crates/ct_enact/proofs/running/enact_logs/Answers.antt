use Rattle.std.proofs.Common.{subst, string_bytes}
use Rattle.std.specs.Io.KnownBytes.{Appends}
use Rattle.ct_streams.specs.Streams.{WritesPart}
use Rattle.ct_enact.proofs.Written.{is_schedule, unless}
use Rattle.ct_enact.proofs.running.enact_logs.Goals as goal

pub returns-in-Ok-write_all-clause-ok : goal.returns-in-Ok-write_all-clause-ok
returns-in-Ok-write_all-clause-ok g c =
    unless c.args.pace _ _
    (λ accepted texts are. (
      string_bytes c.in-Ok-made.text,
      is_schedule texts c.in-Ok.judged (string_bytes c.in-Ok-made.text) (accepted texts are) c.in-Ok-made.ensures.ok,
      subst (Appends _ _) c.as_bytes.ensures.value c.in-Ok-write_all.ensures.bytes,
    )) c.in-Ok.ensures.ok

pub returns-in-Ok-made-clause-part : goal.returns-in-Ok-made-clause-part
returns-in-Ok-made-clause-part g c = λ _.
    unless c.args.pace _ _
    (λ accepted texts are. (
      string_bytes c.in-Ok-made.text,
      is_schedule texts c.in-Ok.judged (string_bytes c.in-Ok-made.text) (accepted texts are) c.in-Ok-made.ensures.ok,
      subst (WritesPart _ _) c.as_bytes.ensures.value c.in-Err-write_all.ensures.part,
    )) c.in-Ok.ensures.ok
