-- What relaying gives a member whom all that another sent has reached.
use Rattle.std.specs.Prelude.{◌≡◌, ℕ, List, Some}
use Rattle.ct_names.specs.Membership.{IsIn}
use Rattle.ct_names.specs.Message.{Message}
use Rattle.ct_names.specs.Value.{Value}
use Rattle.ct_model.specs.declared.step.Step.{Step}
use Rattle.ct_model.specs.declared.step.Step.TheVariants.{Receive}
use Rattle.ct_model.specs.AtValue.{Envelope}
use Rattle.ct_model.specs.Setting.{Setting}
use Rattle.ct_model.specs.State.{State, at_serial}
use Rattle.ct_model.specs.Received.{HasDecided, received_by}
use Rattle.ct_model.specs.Senders.{senders}

-- each serial that a step of p sent to q is named by a Receive of q
abbrev pub IsArrived : Setting → List Step → State → ℕ → ℕ → Type 0
IsArrived s steps g p q = (k : ℕ) (e : Envelope) → at_serial (senders s steps) k ≡ Some p → at_serial g.sent k ≡ Some e → e.to ≡ q →
    IsIn (Receive q k) steps

-- q received what p received, and has a decision where p has one
pub record HasCaughtUp (g : State) (p q : ℕ) : Type 0 where
  pub messages : (m : Message) → IsIn m (received_by g p) → IsIn m (received_by g q)
  pub decisions : (instance : ℕ) (v : Value) → HasDecided g p instance v → (w : Value) × HasDecided g q instance w
