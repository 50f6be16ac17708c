use Rattle.ct_order.proofs.Ending.{of_lines}
use Rattle.ct_order.proofs.running.order_logs.Goals as goal

pub returns-in-Err-write_json-clause-names : goal.returns-in-Err-write_json-clause-names
returns-in-Err-write_json-clause-names g c = of_lines _ c.in-Err.fault c.in-Err-write_json.ensures.wrong c.in-Err.ensures.names
