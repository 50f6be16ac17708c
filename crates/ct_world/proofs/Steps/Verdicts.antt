-- Why a step is refused, as a call answers it.
use Rattle.std.proofs.Common.{◌≡◌, Option, Some, refl, ap, sym, ◌∙◌, subst}
use Rattle.std.specs.Prelude.{ℕ, Result, Ok, Err, IsErrAnd, IsOk, MatchResult, OnOk}
use Rattle.std.proofs.lemmas.Result.{MatchResult-weaker}
use Rattle.ct_names.specs.declared.refusal.Refusal.{Refusal}
use Rattle.ct_model.specs.declared.step.Step.{Step}
use Rattle.ct_model.specs.declared.step.Step.TheVariants.{Receive}
use Rattle.ct_model.specs.Allowed.{IsAllowed}
use Rattle.ct_model.specs.Cause.{cause}
use Rattle.ct_model.specs.Lawful.{IsLawful}
use Rattle.ct_model.specs.Rehearsal.{Rehearsal}
use Rattle.ct_model.proofs.Basics.Options.{some-none}
use Rattle.ct_model.proofs.Record.Allowed.{allowed-free, cause-allowed}
use Rattle.ct_world.specs.declared.arrival.Arrival.{Arrival}
use Rattle.ct_world.specs.declared.kept.Kept.{Kept}
use Rattle.ct_world.specs.Kept.{IsArrival, IsFound, IsVerdict, rehearsal_of}
use Rattle.ct_world.specs.World.{verdict}

-- the verdict on one refusal is that on another that is the same
pub verdict_by : {o other : Option Refusal} (r : Result (Unit {0}) Refusal) → o ≡ other → IsVerdict other r → IsVerdict o r
verdict_by r e h = subst (λ x. IsVerdict x r) (sym e) h

-- it is the answer of a call
pub verdict_is : (o : Option Refusal) (r : Result (Unit {0}) Refusal) → IsVerdict o r → r ≡ verdict o
verdict_is o (Ok t) h = sym (ap verdict h)
verdict_is o (Err refusal) h = sym (ap verdict h)

module _ {w : Rehearsal} (step : Step) (r : Result (Unit {0}) Refusal) (h : IsVerdict (cause w step) r) where
  pub verdict_allows : IsLawful w → OnOk r (IsAllowed w step)
  verdict_allows law = MatchResult-weaker r h (λ _ none. cause-allowed w step law none) (λ _ _. tt)

  pub verdict_allowed : IsAllowed w step → IsOk r
  verdict_allowed allowed = go r h
    where
      go : (r : Result (Unit {0}) Refusal) → IsVerdict (cause w step) r → IsOk r
      go (Ok t) h = refl
      go (Err refusal) h = some-none refusal (sym (allowed-free w step allowed) ∙ h)

-- a refusal that is handed on

pub refused : {o : Option Refusal} (r : Result (Unit {0}) Refusal) {refusal : Refusal} → IsErrAnd r (λ x. x ≡ refusal) → o ≡ Some refusal →
    IsVerdict o r
refused (Ok x) is h = absurd is
refused (Err x) is h = h ∙ sym (ap Some is)

pub not_found : (kept : Kept) (step : Step) (p k : ℕ) (r : Result ℕ Refusal) {refusal : Refusal} → IsErrAnd r (λ x. x ≡ refusal) →
    cause (rehearsal_of kept) step ≡ Some refusal → IsFound kept step p k r
not_found kept step p k (Ok x) is h = absurd is
not_found kept step p k (Err x) is h = h ∙ sym (ap Some is)

pub not_arrived : (kept : Kept) (p k : ℕ) (r : Result Arrival Refusal) {refusal : Refusal} → IsErrAnd r (λ x. x ≡ refusal) →
    cause (rehearsal_of kept) (Receive p k) ≡ Some refusal →
    MatchResult r (IsArrival kept p k) (λ x. cause (rehearsal_of kept) (Receive p k) ≡ Some x)
not_arrived kept p k (Ok x) is h = absurd is
not_arrived kept p k (Err x) is h = h ∙ sym (ap Some is)
