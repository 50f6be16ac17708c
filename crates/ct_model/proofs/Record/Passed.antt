-- One more step passes after the passed ones before it, or it doesn't.
use Rattle.std.proofs.Common.{◌≡◌, true, false, cond, List, [], ◌∷◌, ◌++◌, refl, ap, append_assoc, append-nil}
use Rattle.std.specs.Prelude.{is_none, if◌then◌else◌}
use Rattle.ct_model.specs.declared.step.Step.{Step}
use Rattle.ct_model.specs.Rehearsal.{Rehearsal, extended}
use Rattle.ct_model.specs.Cause.{cause}
use Rattle.ct_model.specs.Passed.{extended_by, passed}

-- the step alone, where it has no cause of refusal
abbrev pub if_allowed : Rehearsal → Step → List Step
if_allowed w step = if is_none (cause w step) then step ∷ [] else []

pub passed-snoc : (w : Rehearsal) (steps : List Step) (step : Step) →
    passed w (steps ++ step ∷ []) ≡ passed w steps ++ if_allowed (extended_by w (passed w steps)) step
unfolding passed
passed-snoc w [] step = rw append-nil refl
passed-snoc w (first ∷ rest) step =
    let next : Rehearsal = extended w first in
    elim (is_none (cause w first)) as (λ b. cond b (first ∷ passed next (rest ++ step ∷ [])) (passed w (rest ++ step ∷ []))
    ≡ cond b (first ∷ passed next rest) (passed w rest) ++ if_allowed
    (extended_by w (cond b (first ∷ passed next rest) (passed w rest))) step) [
      | true ↦ ap (λ (list : List Step). first ∷ list) (rw (append_assoc w.steps (first ∷ []) (passed next rest)) at
          (passed-snoc next rest step))
      | false ↦ passed-snoc w rest step
    ]
