-- What is gone was received or lost.
use Rattle.std.proofs.Common.{◌≡◌, ℕ, zero, suc, ◌<◌, Bool, true, false, List, [], ◌∷◌, Some, sym}
use Rattle.std.proofs.Common.{◌⊎◌, inl, inr, arith}
use Rattle.std.specs.Prelude.{slice_get}
use Rattle.std.proofs.lemmas.Bool.Decides.{nat_tests}
use Rattle.ct_names.specs.Membership.{IsIn}
use Rattle.ct_model.specs.Lawful.{IsLawful, is_waiting}
use Rattle.ct_model.specs.Rehearsal.{Rehearsal, state_of}
use Rattle.ct_model.specs.Stamps.{last_passing, is_step, removes, is_gone}
use Rattle.ct_model.specs.Waiting.{has_serial, serials_to}
use Rattle.ct_model.specs.declared.step.Step.{Step}
use Rattle.ct_model.specs.declared.step.Step.TheVariants.{Receive, Lose}
use Rattle.ct_model.proofs.Basics.Options.{some-none, some-same}

passing : (test : ℕ → Bool) (n : ℕ) → 0 < last_passing test n → (k : ℕ) × (test k ≡ true)
passing test zero some = absurd (omega arith)
passing test (suc n) some = grind (arith, passing test n)

got_in : {A : Type 0} (xs : List A) (i : ℕ) (x : A) → slice_get xs i ≡ Some x → IsIn x xs
got_in [] i x e = some-none x e
got_in (y ∷ xs) zero x e = inl (sym (some-same y x e))
got_in (y ∷ xs) (suc i) x e = inr (got_in xs i x e)

step_in : (test : Step → Bool) (steps : List Step) (n : ℕ) → is_step test steps n ≡ true →
    (step : Step) × IsIn step steps × (test step ≡ true)
step_in test steps n e = grind (arith, got_in)

removal : (p k : ℕ) (step : Step) → removes p k step ≡ true → (step ≡ Receive p k) ⊎ (step ≡ Lose p k)
removal p k step e = grind (arith, nat_tests)

pub gone : (w : Rehearsal) (p k : ℕ) → is_gone w p k ≡ true → IsIn (Receive p k) w.steps ⊎ IsIn (Lose p k) w.steps
unfolding is_gone
gone w p k e = grind (arith, nat_tests, passing, step_in, removal)

-- what was sent there, and doesn't wait, was received or lost
pub arrived_or_lost : (w : Rehearsal) (p k : ℕ) → IsLawful w → has_serial k (serials_to p 0 (state_of w).sent) ≡ true →
    is_waiting w p k ≡ false → IsIn (Receive p k) w.steps ⊎ IsIn (Lose p k) w.steps
arrived_or_lost w p k law sent away = grind (arith, gone w p k, law.waits p k)
