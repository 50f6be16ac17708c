-- What was read up to the steps of a record, and what that makes of what is read behind it.
use Rattle.std.specs.Prelude.{ℕ, List, ◌++◌, Option}
use Rattle.ct_model.specs.Rehearsal.{Rehearsal}
use Rattle.ct_records.specs.declared.input.Input.{Input}
use Rattle.ct_records.specs.declared.start.Start.{Start}
use Rattle.ct_records.specs.Front.{IsReadAs, IsReadOf, IsSeen}
use Rattle.ct_records.specs.Members.{IsHead}
use Rattle.ct_records.specs.Reading.{IsValid}

pub record IsStart (start : Start) : Type 0 where
  pub head : IsHead start.text.items start.numbers
  pub valid : IsValid start.text.items

-- what was read in all, where the start and the input's bytes were read before
abbrev pub ReadOf : Start → Input → Option (List ℕ) → Option (List ℕ) → Rehearsal → Type 0
ReadOf start input left rest w =
    (first : Option (List ℕ)) → IsSeen first left (start.text.items ++ input.bytes.items) input.count → IsReadOf first rest w

abbrev pub ReadAs : Start → Input → Option (List ℕ) → Option (List ℕ) → Input → Type 0
ReadAs start input left rest new =
    (first : Option (List ℕ)) → IsSeen first left (start.text.items ++ input.bytes.items) input.count → IsReadAs first rest new
