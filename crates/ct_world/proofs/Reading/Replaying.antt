-- One step more of a replay that goes step by step.
use Rattle.std.proofs.Common.{◌≡◌, ℕ, ◌+◌, ◌<◌, List, [], ◌∷◌, ◌++◌, length, take, Some, None, sym, ap, ◌∙◌, subst, arith}
use Rattle.std.proofs.Common.{inl, inr}
use Rattle.std.specs.Prelude.{slice_get}
use Rattle.std.proofs.lemmas.Bool.{cases_lt}
use Rattle.std.proofs.lemmas.List.{take_more, length-append}
use Rattle.std.proofs.lemmas.Option.{get_or_from_slice_get}
use Rattle.ct_names.specs.declared.command.Command.TheVariants.{Set}
use Rattle.ct_model.specs.declared.step.Step.{Step}
use Rattle.ct_model.specs.declared.step.Step.TheVariants.{Submit}
use Rattle.ct_model.specs.Cause.{cause}
use Rattle.ct_model.specs.Rehearsal.{Rehearsal, extended}
use Rattle.ct_model.specs.Setting.{Setting}
use Rattle.ct_model.proofs.Basics.Options.{some-same}
use Rattle.ct_world.specs.Replay.{AllowsFirst, first_steps}
use Rattle.ct_world.specs.Stage.{IsReplaying}

-- what a place past the end of the list would hold
abbrev pub no_step : Step
no_step = Submit 0 (Set 0 0)

-- the record is that of the first steps
pub first_is : (w : Rehearsal) (steps : List Step) → IsReplaying w steps → first_steps w.setting w.cells steps (length w.steps) ≡ w
first_is w steps h = ap (λ l. record w { steps = l }) (sym h.first)

-- each of the first steps, and this one, is allowed
allowed_more : (s : Setting) (cells : ℕ) (steps : List Step) (i : ℕ) (here : Step) → slice_get steps i ≡ Some here →
    AllowsFirst s cells steps i → cause (first_steps s cells steps i) here ≡ None → AllowsFirst s cells steps (i + 1)
allowed_more s cells steps i here there before now j step below at = elim (cases_lt j i) [
  | inl low ↦ before j step low at
  | inr high ↦ (let same : i ≡ j = omega arith in
      let is : here ≡ step = some-same here step (sym there ∙ subst (λ m. slice_get steps m ≡ Some step) (sym same) at) in
      subst (λ m. cause (first_steps s cells steps m) step ≡ None) same
      (subst (λ t. cause (first_steps s cells steps i) t ≡ None) is now))
]

pub one_more : (w new : Rehearsal) (steps : List Step) (here : Step) → IsReplaying w steps → length w.steps < length steps →
    slice_get steps (length w.steps) ≡ Some here → new ≡ extended w here → cause w here ≡ None → IsReplaying new steps
one_more w new steps here h left there joined allowed =
    let n = length w.steps in
    let count : length (w.steps ++ here ∷ []) ≡ n + 1 = length-append w.steps (here ∷ []) in
    let taken : take (n + 1) steps ≡ w.steps ++ here ∷ [] =
    take_more steps n no_step left ∙ ap (λ t. take n steps ++ t ∷ []) (get_or_from_slice_get steps n here no_step there)
    ∙ ap (λ l. l ++ here ∷ []) (sym h.first) in
    rw joined (record {
      within = omega (arith, count, left);
      first = sym (ap (λ k. take k steps) count ∙ taken);
      allowed = subst (AllowsFirst w.setting w.cells steps) (sym count)
          (allowed_more w.setting w.cells steps n here there h.allowed (ap (λ v. cause v here) (first_is w steps h) ∙ allowed));
    })
