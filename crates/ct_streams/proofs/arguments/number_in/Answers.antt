use Rattle.std.proofs.Common.{arith}
use Rattle.ct_streams.proofs.Numbers.{whole_above, whole_below, whole_none, whole_within}
use Rattle.ct_streams.proofs.arguments.number_in.Goals as goal

pub returns-in-Ok-clause-value : goal.returns-in-Ok-clause-value
returns-in-Ok-clause-value c = whole_within c.parse.result _ _ _ _ c.in-Ok.is c.parse.ensures.value.0 c.if-low-n.true c.if-n-high.true

pub returns-in_default-clause-value : goal.returns-in_default-clause-value
returns-in_default-clause-value c = whole_above c.parse.result _ _ _ _ c.in-Ok.is c.parse.ensures.value.0 c.if-n-high.false

pub returns-in_default-2-clause-value : goal.returns-in_default-2-clause-value
returns-in_default-2-clause-value c = whole_below c.parse.result _ _ _ _ c.in-Ok.is c.parse.ensures.value.0 c.if-low-n.false

pub returns-in_default-3-clause-value : goal.returns-in_default-3-clause-value
returns-in_default-3-clause-value c = whole_none _ _ _ c.in_default.field-0 c.in_default.ensures.value.0 (omega arith)
