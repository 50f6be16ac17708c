use Rattle.ct_records.proofs.Keys.{adds_batch, adds_cells, adds_n, adds_version}
use Rattle.ct_records.proofs.numbers.Numbers.with.Goals as goal

pub returns-then-is : goal.returns-then-is
returns-then-is c = λ _. adds_batch _ _ _ _ _ _ _ (c.is.ensures c.if-is.true)

pub returns-then-is-2 : goal.returns-then-is-2
returns-then-is-2 c = λ _. adds_cells _ _ _ _ _ _ _ (c.is-else-is.ensures c.if-is-2.true)

pub returns-then-is-3 : goal.returns-then-is-3
returns-then-is-3 c = λ _. adds_n _ _ _ _ _ _ _ (c.is-else-is-2.ensures c.if-is-3.true)

pub returns-then-is-4 : goal.returns-then-is-4
returns-then-is-4 c = λ _. adds_version _ _ _ _ _ _ _ (c.is-else-is-3.ensures c.if-is-4.true)
