use Rattle.ct_records.proofs.Whole.{not_true}
use Rattle.ct_told.proofs.Inputs.{value_read, value_none}
use Rattle.ct_told.proofs.no_record.json_of.Goals as goal

pub returns-in-Ok : goal.returns-in-Ok
returns-in-Ok c = value_read c.args.bytes.now _ c.in-Ok.ensures.ok.0 c.in-Ok.ensures.ok.1

pub returns-else-is_memory : goal.returns-else-is_memory
returns-else-is_memory c = value_none c.args.bytes.now (c.in-Err.ensures.err (λ m. not_true (c.if-is_memory.ensures.1 m)))
