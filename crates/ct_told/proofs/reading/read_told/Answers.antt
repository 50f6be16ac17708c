use Rattle.ct_records.specs.View.{rehearsal_of}
use Rattle.ct_told.proofs.Seen.{read_seen}
use Rattle.ct_told.proofs.reading.read_told.Goals as goal

pub returns-in-Ok-clause-ok : goal.returns-in-Ok-clause-ok
returns-in-Ok-clause-ok g c =
    read_seen _ c.in_ok-bytes.bytes.items c.deref.result.now (rehearsal_of c.in-Ok.script) c.in_ok-bytes.ensures.bytes c.deref.ensures.value
    c.in-Ok.ensures.exact
