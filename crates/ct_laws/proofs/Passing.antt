-- Steps that are tried one after another.
use Rattle.std.proofs.Common.{◌≡◌, Bool, true, false, List, [], ◌∷◌, ◌++◌, refl, sym, ◌∙◌}
use Rattle.std.specs.Prelude.{if◌then◌else◌, Option, Some, None, fold, is_none, option_to_list}
use Rattle.ct_model.specs.Cause.{cause}
use Rattle.ct_model.specs.Passed.{extended_by, passed}
use Rattle.ct_model.specs.Rehearsal.{Rehearsal, extended}
use Rattle.ct_model.specs.declared.step.Step.{Step}
use Rattle.ct_choices.specs.Choices.{after_try}
use Rattle.ct_laws.proofs.Deeds.{both_behind, nothing_behind}

one_by : (b : Bool) (w : Rehearsal) (step : Step) → (if b then extended w step else w) ≡ extended_by w (if b then step ∷ [] else [])
one_by true w step = refl
one_by false w step = sym (nothing_behind w)

pub one_passes : (w : Rehearsal) (step : Step) → after_try w (Some step) ≡ extended_by w (passed w (step ∷ []))
unfolding passed
one_passes w step = one_by (is_none (cause w step)) w step

first_by : (b : Bool) (w : Rehearsal) (step : Step) (steps : List Step) →
    extended_by w (if b then step ∷ passed (extended w step) steps else passed w steps)
    ≡ extended_by (if b then extended w step else w) (passed (if b then extended w step else w) steps)
first_by true w step steps = sym (both_behind w (step ∷ []) (passed (extended w step) steps))
first_by false w step steps = refl

-- the first one, if any, and then the others
pub first_passes : (w : Rehearsal) (o : Option Step) (steps : List Step) →
    extended_by w (passed w (option_to_list o ++ steps)) ≡ extended_by (after_try w o) (passed (after_try w o) steps)
unfolding passed
first_passes w None steps = refl
first_passes w (Some step) steps = first_by (is_none (cause w step)) w step steps

pub none_pass : (w : Rehearsal) → w ≡ extended_by w (passed w [])
unfolding passed
none_pass w = sym (nothing_behind w)

pub all_pass : (w : Rehearsal) (steps : List Step) → fold (λ v step. after_try v (Some step)) w steps ≡ extended_by w (passed w steps)
all_pass w [] = none_pass w
all_pass w (step ∷ steps) = all_pass (after_try w (Some step)) steps ∙ sym (first_passes w (Some step) steps)

-- the one that is tried, if any
pub tried_passes : (w : Rehearsal) (o : Option Step) → after_try w o ≡ extended_by w (passed w (option_to_list o))
tried_passes w None = none_pass w
tried_passes w (Some step) = one_passes w step
