use Rattle.std.proofs.Common.{arith}
use Rattle.ct_logs.proofs.Files.{read_long, read_whole}
use Rattle.ct_logs.proofs.Telling.{no_logs_for}
use Rattle.ct_logs.proofs.reading.read_text.Goals as goal

pub returns-in-Ok-bytes_of-clause-fault : goal.returns-in-Ok-bytes_of-clause-fault
returns-in-Ok-bytes_of-clause-fault g c =
    no_logs_for _ _ c.too_long.result
    (λ _. read_long _ _ c.in-Ok-bytes_of.bytes.items c.in-Ok.ensures.bytes c.in-Ok-bytes_of.ensures (omega arith)) c.too_long.ensures

pub returns-in-Ok-2-clause-ok : goal.returns-in-Ok-2-clause-ok
returns-in-Ok-2-clause-ok g c =
    read_whole _ _ c.in-Ok-bytes_of.bytes.items c.in-Ok.ensures.bytes c.in-Ok-bytes_of.ensures (omega arith)
