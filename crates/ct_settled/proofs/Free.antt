-- What is refused, and not for a limit, isn't enabled.
use Rattle.std.proofs.Common.{◌≡◌, ◌⊎◌, inl, inr, ℕ, Bool, true, false, [], ◌∷◌, Option, Some, None, refl, ◌∙◌, arith}
use Rattle.std.specs.Prelude.{is_none}
use Rattle.ct_names.specs.declared.limit.Limit.{Limit}
use Rattle.ct_names.specs.declared.limit.Limit.TheVariants.{Submissions, Instances, Rounds, Envelopes, Cells, Steps}
use Rattle.ct_names.specs.declared.refusal.Refusal.{Refusal}
use Rattle.ct_names.specs.declared.refusal.Refusal.TheVariants.{NotWaiting, Full}
use Rattle.ct_model.specs.Actor.{actor}
use Rattle.ct_model.specs.Cause.{at, cause, first_fault, limit}
use Rattle.ct_model.specs.Lawful.{IsPresent, NamesWaiting, is_waiting}
use Rattle.ct_model.specs.Next.{next}
use Rattle.ct_model.specs.Rehearsal.{Rehearsal, state_of}
use Rattle.ct_model.specs.declared.step.Step.{Step}
use Rattle.ct_model.specs.declared.step.Step.TheVariants.{Receive}
use Rattle.ct_model.proofs.Basics.Options.{none-from}
use Rattle.ct_model.proofs.Record.Allowed.{row-free}
use Rattle.ct_model.proofs.Record.Causes.{own_tests}
use Rattle.ct_model.proofs.Record.Limits.{cause-limited, cause-passed}
use Rattle.ct_model.proofs.Relay.Messages.{next-is}
use Rattle.ct_settled.specs.Hindrance.{told}

-- no refusal, or one for a limit
abbrev IsOfLimit : Option Refusal → Type 0
IsOfLimit o = (o ≡ None) ⊎ ((l : Limit) × (o ≡ Some (Full l)))

first_limit : (a b c d e f : Bool) → IsOfLimit (first_fault (at (Full Submissions) a ∷ at (Full Instances) b ∷ at (Full Rounds) c
    ∷ at (Full Envelopes) d ∷ at (Full Cells) e ∷ at (Full Steps) f ∷ []))
first_limit a b c d e f = grind arith

limit_is : (w : Rehearsal) (step : Step) → IsOfLimit (limit w step)
unfolding limit
limit_is w step = grind (arith, first_limit)

module _ (w : Rehearsal) (step : Step) where
  -- no limit refuses the step
  abbrev pub IsRoomy : Type 0
  IsRoomy = (l : Limit) → cause w step ≡ Some (Full l) → ⊥

  -- what is refused, and not for a limit, is no news
  pub untold : IsRoomy → is_none (cause w step) ≡ false → told w step ≡ None
  untold roomy off = grind arith

  pub refused : told w step ≡ None → is_none (cause w step) ≡ false
  refused off = grind arith

  pub roomy : told w step ≡ None → IsRoomy
  roomy off l e = grind arith

  -- where a limit alone could refuse a step it is allowed
  unlimited : IsRoomy → cause w step ≡ limit w step → cause w step ≡ None
  unlimited room e = elim (limit_is w step) [ inl none ↦ e ∙ none | inr full ↦ absurd (room full.0 (e ∙ full.1)) ]

  -- where no test of its own fires a step is allowed
  pub tested_free : IsRoomy → IsPresent w (actor step) → first_fault (own_tests w step) ≡ None → cause w step ≡ None
  tested_free room present e = unlimited room (cause-limited w step present e)

  -- what is refused, and not for a limit, isn't enabled
  pub not_enabled : NamesWaiting w step → told w step ≡ None → next w.setting (state_of w) step ≡ None
  not_enabled names off = none-from (next w.setting (state_of w) step) (λ h is.
      let s = next-is w.setting (state_of w) step h is in
      let none = tested_free (roomy off) (record { in_group = s.in_group; up = s.up }) (row-free w step s.outcome s.row names) in
      let some = refused off in
      cc)

-- what waits at one that is up may be received
pub receipt_free : (w : Rehearsal) (p k : ℕ) → IsRoomy w (Receive p k) → IsPresent w p → is_waiting w p k ≡ true →
    cause w (Receive p k) ≡ None
receipt_free w p k room present waits =
    unlimited w (Receive p k) room (cause-passed w (Receive p k) NotWaiting (is_waiting w p k) refl present waits)
