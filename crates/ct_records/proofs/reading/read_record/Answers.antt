use Rattle.ct_records.proofs.Whole.{script_bad, script_read, not_true}
use Rattle.ct_records.proofs.reading.read_record.Goals as goal

pub returns-in-Ok-clause-exact : goal.returns-in-Ok-clause-exact
returns-in-Ok-clause-exact c = rw (script_read c.args.bytes.now _ c.if-bytes-gt-MAX_LEN.false c.in-Ok.ensures.ok.0 c.in-Ok.ensures.ok.1)
    c.value_script.ensures

pub returns-else-is_memory-clause-exact : goal.returns-else-is_memory-clause-exact
returns-else-is_memory-clause-exact c = script_bad c.args.bytes.now c.if-bytes-gt-MAX_LEN.false
    (c.in-Err.ensures.err (λ m. not_true (c.if-is_memory.ensures.1 m)))
