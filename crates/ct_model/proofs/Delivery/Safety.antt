-- Every state of a run is safe.
use Rattle.std.proofs.Common.{◌≡◌, List, Some}
use Rattle.ct_model.specs.declared.step.Step.{Step}
use Rattle.ct_model.specs.Run.{run}
use Rattle.ct_model.specs.Safe.{IsSafe}
use Rattle.ct_model.specs.Setting.{Setting}
use Rattle.ct_model.specs.State.{State}
use Rattle.ct_model.proofs.Consensus.Locking.{agreed-run}
use Rattle.ct_model.proofs.Delivery.Proposals.{batches-few}
use Rattle.ct_model.proofs.Delivery.Prefixes.{batches-prefix, delivered-prefix, delivered-once, delivered-submitted}

pub safe-run : (s : Setting) (steps : List Step) (g : State) → run s steps ≡ Some g → IsSafe s g
safe-run s steps g e = record {
  decisions = agreed-run s steps g e;
  one_order = delivered-prefix s steps g e (agreed-run s steps g e);
  batches = batches-prefix s steps g e (agreed-run s steps g e);
  once = λ p is. delivered-once s steps g e p;
  submitted = delivered-submitted s steps g e (agreed-run s steps g e);
  bounded = batches-few s steps g e (agreed-run s steps g e);
}
