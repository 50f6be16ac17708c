-- What a step adds to the order of batches.
use Rattle.std.specs.Prelude.{◌≡◌, ◌<◌, List, [], ◌∷◌, ◌++◌, Option, Some, None, length}
use Rattle.ct_names.specs.Batch.{Batch}
use Rattle.ct_model.specs.declared.step.Step.{Step}
use Rattle.ct_model.specs.declared.step.Step.TheVariants.{Deliver, Follow}
use Rattle.ct_model.specs.Rehearsal.{Rehearsal, state_of, extended}
use Rattle.ct_model.specs.Cause.{order}

-- the batch joined the list, where there is one; else the list stayed
abbrev pub Joins : List Batch → List Batch → Option Batch → Type 0
Joins old new None = new ≡ old
Joins old new (Some batch) = new ≡ old ++ batch ∷ []

-- the step would make the order longer
abbrev pub WouldPost : Rehearsal → Step → Type 0
WouldPost w step = length (order (state_of w)) < length (order (state_of (extended w step)))

-- the step is no Deliver and no Follow
abbrev pub DeliversNothing : Step → Type 0
DeliversNothing (Deliver p) = ⊥
DeliversNothing (Follow p) = ⊥
DeliversNothing _ = Unit {0}
