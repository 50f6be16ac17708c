-- The steps that a member may take by itself, and what a driver tries next.
use Rattle.std.specs.Prelude.{ℕ, zero, suc, List, [], ◌∷◌, ◌++◌, Bool, true, false, if◌then◌else◌}
use Rattle.std.specs.Prelude.{filter, is_none, Option, Some, None, option_and_then}
use Rattle.std.specs.Option.{option_to_list}
use Rattle.ct_names.specs.declared.refusal.Refusal.{Refusal}
use Rattle.ct_names.specs.declared.refusal.Refusal.TheVariants.{Crashed, Busy, Idle, WrongPhase, NotLargest}
use Rattle.ct_model.specs.Cause.{cause}
use Rattle.ct_model.specs.declared.step.Step.{Step}
use Rattle.ct_model.specs.declared.step.Step.TheVariants.{Receive, Begin, Enter, Choose, Adopt, Suspect, Conclude, Deliver, Follow}
use Rattle.ct_model.specs.Rehearsal.{Rehearsal}

-- Choose with each of the first members
abbrev pub first_choices : ℕ → ℕ → List Step
first_choices p zero = []
first_choices p (suc k) = first_choices p k ++ Choose p (suc k) ∷ []

-- its own steps in the order in which a driver tries them, with these choices
abbrev pub own_steps : ℕ → List Step → List Step
own_steps p choices = (Deliver p ∷ Follow p ∷ Begin p ∷ []) ++ choices ++ (Adopt p ∷ Conclude p ∷ Enter p ∷ Suspect p ∷ [])

-- those that it may take
unfoldable pub enabled_steps : Rehearsal → ℕ → List Step
enabled_steps w p = filter (λ step. is_none (cause w step)) (own_steps p (first_choices p w.setting.members))

-- what is refused so is none of the steps that the member could take next: it has crashed, an instance is open or none is,
-- its phase is another, or another estimate has to be chosen
abbrev pub is_apart : Refusal → Bool
is_apart Crashed = true
is_apart Busy = true
is_apart Idle = true
is_apart WrongPhase = true
is_apart NotLargest = true
is_apart _ = false

-- why a step is refused, where it is one that the member could take next
abbrev pub told_refusal : Rehearsal → Step → Option Refusal
told_refusal w step = option_and_then (λ refusal. if is_apart refusal then None else Some refusal) (cause w step)

-- the receipt of the serial at the front of its line, where it is allowed
abbrev pub first_receipt : Rehearsal → ℕ → List ℕ → Option Step
first_receipt w p [] = None
first_receipt w p (k ∷ line) = if is_none (cause w (Receive p k)) then Some (Receive p k) else None

-- the receipt is tried where no step of the member's own is allowed; or in place of a suspicion, where the failure detector doesn't
-- suspect
abbrev pub receipt_behind : Option Step → Option Step → Option Step
receipt_behind None receipt = receipt
receipt_behind (Some (Suspect p)) receipt = receipt
receipt_behind (Some step) receipt = None

-- what a driver does next: a step of the member's own, and the receipt where it is tried
abbrev pub next_steps : Option Step → Option Step → List Step
next_steps own receipt = option_to_list own ++ option_to_list (receipt_behind own receipt)
