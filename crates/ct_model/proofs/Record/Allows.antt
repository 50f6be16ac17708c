-- Records each step of which was allowed where it stands.
use Rattle.std.proofs.Common.{◌≡◌, ℕ, ◌+◌, ◌<◌, List, [], ◌∷◌, ◌++◌, length, Some, None, inl, inr, sym, ap, ◌∙◌, subst, arith}
use Rattle.std.specs.Prelude.{slice_get}
use Rattle.std.proofs.lemmas.Bool.{cases_lt}
use Rattle.std.proofs.lemmas.List.{length-append, take-append-le}
use Rattle.std.proofs.lemmas.Option.{slice_get-get_or}
use Rattle.std.proofs.Math.ListN.{get_or-append}
use Rattle.std.proofs.Math.Seq.{get_or-append_seam, take-append_seam}
use Rattle.ct_model.specs.declared.step.Step.{Step}
use Rattle.ct_model.specs.Cause.{cause}
use Rattle.ct_model.specs.Lawful.{AllowsFirst}
use Rattle.ct_model.specs.Rehearsal.{Rehearsal, first_steps}
use Rattle.ct_model.specs.Setting.{Setting}
use Rattle.ct_model.proofs.Basics.Options.{some-same}

-- one more of the steps
pub allowed-next : (s : Setting) (cells : ℕ) (steps : List Step) (i : ℕ) (here : Step) → slice_get steps i ≡ Some here →
    AllowsFirst s cells steps i → cause (first_steps s cells steps i) here ≡ None → AllowsFirst s cells steps (i + 1)
allowed-next s cells steps i here there before now j step below at = elim (cases_lt j i) [
  | inl low ↦ before j step low at
  | inr high ↦ (let same : i ≡ j = omega arith in
      let is : here ≡ step = some-same here step (sym there ∙ subst (λ m. slice_get steps m ≡ Some step) (sym same) at) in
      subst (λ m. cause (first_steps s cells steps m) step ≡ None) same
      (subst (λ t. cause (first_steps s cells steps i) t ≡ None) is now))
]

-- one more step behind a record
pub allowed-more : (w : Rehearsal) (step : Step) → AllowsFirst w.setting w.cells w.steps (length w.steps) → cause w step ≡ None →
    AllowsFirst w.setting w.cells (w.steps ++ step ∷ []) (length (w.steps ++ step ∷ []))
allowed-more w step before now =
    let all = w.steps ++ step ∷ [] in
    let total : length all ≡ length w.steps + 1 = length-append w.steps (step ∷ []) in
    let last : length w.steps < length all = omega (arith, total) in
    rw total (allowed-next w.setting w.cells all (length w.steps) step
    (slice_get-get_or all (length w.steps) step last ∙ ap (λ x. Some x) (get_or-append_seam w.steps step [] step))
    (λ k here low at.
    let within : k < length all = omega (arith, total) in
    let same : slice_get w.steps k ≡ slice_get all k =
    slice_get-get_or w.steps k here low ∙ ap (λ x. Some x) (sym (get_or-append w.steps (step ∷ []) here k low))
    ∙ sym (slice_get-get_or all k here within) in
    subst (λ l. cause (record w { steps = l }) here ≡ None) (sym (take-append-le k w.steps (step ∷ []) (omega (arith, low))))
    (before k here low (same ∙ at)))
    (subst (λ l. cause (record w { steps = l }) step ≡ None) (sym (take-append_seam w.steps (step ∷ []))) now))
