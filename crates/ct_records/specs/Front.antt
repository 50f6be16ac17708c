-- What was read of a record, up to any place in it.
use Rattle.std.specs.Prelude.{◌≡◌, ◌⊎◌, ℕ, ◌+◌, ◌≤◌, Bool, false, nat_lt, List, ◌++◌, length, Option, Some, Ok}
use Rattle.std.specs.Str.{IsUtf8, is_utf8}
use Rattle.std.specs.Io.KnownBytes.{Consumes, IsAtEnd}
use Rattle.serde_json.specs.Data.{object}
use Rattle.ct_model.specs.declared.step.Step.{Step}
use Rattle.ct_model.specs.Rehearsal.{Rehearsal}
use Rattle.ct_records.specs.Lexemes.{lexemes, steps_lexemes}
use Rattle.ct_records.specs.Reading.{Says, IsValid}
use Rattle.ct_records.specs.Fits.{AllFit}
use Rattle.ct_records.specs.Members.{members_with, AreAll, IsHead}
use Rattle.ct_records.specs.Replay.{IsAllowed}
use Rattle.ct_records.specs.Script.{of_value, max_len}
use Rattle.ct_records.specs.Text.{steps_text}
use Rattle.ct_records.specs.declared.input.Input.{Input}
use Rattle.ct_records.specs.declared.numbers.Numbers.{Numbers}

-- ---- a list of steps

-- the text of the steps, with white space at any place or without
abbrev pub IsTextOf : List Step → List ℕ → Type 0
IsTextOf steps text = Says text (steps_lexemes false steps) (length (steps_text steps))

-- where some text stood before the bytes, that of these steps stands before what is left of them
pub record Joins (new : List Step) (text before after : List ℕ) : Type 0 where
  pub all : List ℕ
  pub is : IsTextOf new all
  pub split : text ++ before ≡ all ++ after

-- it took the steps of some text, which stood before what is left of the bytes
pub record Taken (new : List Step → Type 0) (text before after : List ℕ) : Type 0 where
  pub steps : List Step
  pub has : new steps
  pub joins : Joins steps text before after

-- what it took since stood at the front of the bytes
abbrev pub AreTaken : (List Step → Type 0) → (List Step → Type 0) → List ℕ → List ℕ → Type 0
AreTaken old new before after = (steps : List Step) (text : List ℕ) → old steps → IsTextOf steps text → Taken new text before after

-- it took these, which are some or none
abbrev pub IsAfter : (List Step → Type 0) → Bool → List Step → Type 0
IsAfter has later steps = has steps × (later ≡ nat_lt 0 (length steps))

-- ---- the whole

-- what stands behind the last step makes this record of the numbers before the first
pub record IsEnd (numbers : Numbers) (w : Rehearsal) (bytes : List ℕ) : Type 0 where
  pub all : Numbers
  pub are : AreAll numbers bytes all
  pub says : of_value (object (members_with all (Some w.steps))) ≡ Ok w
  pub utf8 : IsUtf8 bytes

-- the bytes are the text of the record
pub record IsWholeOf (bytes : List ℕ) (w : Rehearsal) : Type 0 where
  pub head : List ℕ
  pub numbers : Numbers
  pub text : List ℕ
  pub last : List ℕ
  pub split : bytes ≡ head ++ (text ++ last)
  pub front : IsHead head numbers
  pub valid : IsValid head
  pub steps : IsTextOf w.steps text
  pub end : IsEnd numbers w last
  pub few : length bytes ≤ max_len

-- each step is one that a text can hold, and is allowed after those before it
pub record IsBegun (w : Rehearsal) : Type 0 where
  pub fit : AllFit w.steps
  pub allowed : IsAllowed w

-- it keeps these steps, which a text can hold
pub record AreKept (list steps : List Step) : Type 0 where
  pub are : list ≡ steps
  pub fit : AllFit steps

-- it has these steps
pub record IsStaged (w : Rehearsal) (steps : List Step) : Type 0 where
  pub are : w.steps ≡ steps
  pub begun : IsBegun w

-- ---- sources

-- this text was read since the source had the first, and these are its bytes
pub record IsSeen (first now : Option (List ℕ)) (text : List ℕ) (count : ℕ) : Type 0 where
  pub consumed : Consumes first now text
  pub counted : count ≡ length text

-- what was read of the source stands behind the earlier bytes, and is counted
pub record Advances (left rest : Option (List ℕ)) (before after : List ℕ) (old new : ℕ) : Type 0 where
  pub read : List ℕ
  pub consumed : Consumes left rest read
  pub text : after ≡ before ++ read
  pub counted : new ≡ old + length read

-- where a text was read that ends so, there is one that ends otherwise now
abbrev pub Goes : Option (List ℕ) → Option (List ℕ) → List ℕ → List ℕ → ℕ → ℕ → Type 0
Goes left rest before after old new =
    (first : Option (List ℕ)) (head : List ℕ) → IsSeen first left (head ++ before) old → IsSeen first rest (head ++ after) new

-- it took the steps of some text, which stood before the input's bytes
pub record HasDone (new : List Step → Type 0) (text : List ℕ) (left rest : Option (List ℕ)) (before after : Input) : Type 0 where
  pub steps : List Step
  pub has : new steps
  pub all : List ℕ
  pub is : IsTextOf steps all
  pub goes : Goes left rest (text ++ before.bytes.items) (all ++ after.bytes.items) before.count after.count

-- what it took since stood at the front of the input's bytes and of what the source had
abbrev pub AreDone : (List Step → Type 0) → (List Step → Type 0) → Option (List ℕ) → Option (List ℕ) → Input → Input → Type 0
AreDone old new left rest before after =
    (steps : List Step) (text : List ℕ) → old steps → IsTextOf steps text → HasDone new text left rest before after

-- the text of the record is all that the source had
pub record IsReadOf (old new : Option (List ℕ)) (w : Rehearsal) : Type 0 where
  pub bytes : List ℕ
  pub consumed : Consumes old new bytes
  pub end : IsAtEnd new
  pub whole : IsWholeOf bytes w

-- whatever follows them, both texts say the same, and the second is no longer
pub record SaysSame (text other : List ℕ) : Type 0 where
  pub lexed : (next : List ℕ) → lexemes (text ++ next) ≡ lexemes (other ++ next)
  pub valid : (next : List ℕ) → is_utf8 (text ++ next) ≡ is_utf8 (other ++ next)
  pub shorter : length other ≤ length text

-- the bytes say the same as what was read
pub record IsReadAs (old new : Option (List ℕ)) (input : Input) : Type 0 where
  pub text : List ℕ
  pub seen : IsSeen old new text input.count
  pub same : SaysSame text input.bytes.items

-- so many bytes were read, or the source has no more
abbrev pub IsEnough : ℕ → Option (List ℕ) → ℕ → Type 0
IsEnough wanted left count = (wanted ≤ count) ⊎ IsAtEnd left
