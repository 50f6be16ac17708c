-- What contracts see of a stage.
use Rattle.std.specs.Prelude.{◌≡◌, ℕ, List, ◌++◌, take}
use Rattle.ct_model.specs.declared.step.Step.{Step}
use Rattle.ct_model.specs.Rehearsal.{Rehearsal, extended}

-- the record, and the sides of the members
pub record Played : Type 0 where
  pub rehearsal : Rehearsal
  pub sides : List ℕ

-- the same sides, and this record
abbrev pub with_record : Played → Rehearsal → Played
with_record s w = record s { rehearsal = w }

-- one more step
abbrev pub with_step : Played → Step → Played
with_step s step = with_record s (extended s.rehearsal step)

-- the same sides, and so many first steps of the record
abbrev pub first_part : Played → ℕ → Played
first_part s count = with_record s (record s.rehearsal { steps = take count s.rehearsal.steps })

-- the same sides, and more steps in the record
pub record IsLater (old new : Played) : Type 0 where
  pub more : List Step
  pub is : new ≡ with_record old (record old.rehearsal { steps = old.rehearsal.steps ++ more })
