-- Files and their texts.
use Rattle.std.specs.Prelude.{◌≡◌, ℕ, ◌<◌, List, Option, Some, IfSome, length, map, slice_get}
use Rattle.std.specs.Global.{Vec}
use Rattle.std.specs.List.{AllZip}
use Rattle.ct_judge.specs.declared.recording.TheConstants.{MAX_LEN}

-- what is known of each file: the bytes of the one of this name
abbrev pub Known : Type 0
Known = List ℕ → Option (List ℕ)

-- the text is what the file of this name has, where its bytes are known
abbrev pub IsTextIn : Known → List ℕ → List ℕ → Type 0
IsTextIn bytes name text = IfSome (bytes name) (λ all. text ≡ all)

-- these are the texts of the files of these names, in order
abbrev pub AreTextsIn : Known → List (List ℕ) → List (List ℕ) → Type 0
AreTextsIn bytes names texts = AllZip (IsTextIn bytes) names texts

-- one of the files has more bytes than a log may have, where they are known
pub record IsTooLong (bytes : Known) (names : List (List ℕ)) : Type 0 where
  pub place : ℕ
  pub name : List ℕ
  pub there : slice_get names place ≡ Some name
  pub long : IfSome (bytes name) (λ all. MAX_LEN < length all)

-- the bytes of each
abbrev pub texts_of : List (Vec ℕ) → List (List ℕ)
texts_of texts = map (λ text. text.items) texts
