use Rattle.std.proofs.Common.{arith}
use Rattle.std.specs.List.{each_same}
use Rattle.ct_abcast.specs.Batches.{joined}
use Rattle.ct_abcast.proofs.Feeding.{fed-none}
use Rattle.ct_abcast.proofs.caster.Caster.copy.Goals as goal

pub invariant_of-result : goal.invariant_of-result
invariant_of-result c = (
  λ m. grind (arith, c.self.invariant.0 m, each_same _ _ c.in_ok-clone.ensures.cases),
  fed-none c.new.result c.in_ok-from_slice.field-0.items (joined c.in_ok-copy.field-0.batches) c.new.ensures.fed c.new.ensures.messages,
)
