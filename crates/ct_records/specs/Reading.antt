-- What stands at the front of some bytes, with white space at any place, whatever follows it.
use Rattle.std.specs.Prelude.{◌≡◌, ℕ, ◌+◌, ◌<◌, ◌≤◌, Bool, true, List, [], ◌∷◌, ◌++◌, codes, decimal, length, All, if◌then◌else◌}
use Rattle.std.specs.List.{concat}
use Rattle.std.specs.Str.{is_utf8}
use Rattle.json.specs.Lex.{Lexeme, token, colon}
use Rattle.json.specs.Token.{end_array, string}
use Rattle.json.specs.Word.{is_space, ends_word}
use Rattle.ct_model.specs.declared.step.Step.{Step}
use Rattle.ct_model.specs.StepText.{rest_texts, step_entry, step_text}
use Rattle.ct_records.specs.Lexemes.{lexemes, number_lexeme, entry_lexemes, rest_lexemes, step_lexemes, comma_if, Begins, IsPlain}

-- nothing but white space
abbrev pub IsWhite : List ℕ → Type 0
IsWhite bytes = All (λ b. is_space b ≡ true) bytes

-- nothing but ASCII
abbrev pub IsAscii : List ℕ → Type 0
IsAscii bytes = All (λ b. b < 128) bytes

-- ---- texts

-- what follows the text is UTF-8 where the whole is
abbrev pub IsValid : List ℕ → Type 0
IsValid text = (next : List ℕ) → is_utf8 (text ++ next) ≡ is_utf8 next

-- the lexemes of the text stand before those of what follows, and it has so many bytes at least
pub record Says (text : List ℕ) (before : List Lexeme → List Lexeme) (least : ℕ) : Type 0 where
  pub lexed : (next : List ℕ) → lexemes (text ++ next) ≡ before (lexemes next)
  pub valid : IsValid text
  pub long : least ≤ length text

-- ---- bytes

-- they begin with white space or none
pub record IsBehindWhite (bytes rest : List ℕ) : Type 0 where
  pub white : List ℕ
  pub split : bytes ≡ white ++ rest
  pub is : IsWhite white

-- they begin with a text that says this
pub record Reads (bytes : List ℕ) (before : List Lexeme → List Lexeme) (least : ℕ) (rest : List ℕ) : Type 0 where
  pub text : List ℕ
  pub split : bytes ≡ text ++ rest
  pub says : Says text before least

-- they begin with the byte
pub record ReadsMark (bytes : List ℕ) (byte : ℕ) (rest : List ℕ) : Type 0 where
  pub text : List ℕ
  pub split : bytes ≡ text ++ rest
  pub begins : (next : List ℕ) → Begins (text ++ next) byte next
  pub valid : byte < 128 → IsValid text
  pub long : 0 < length text

-- they begin with the number, where no digit follows
pub record ReadsNumber (bytes : List ℕ) (n : ℕ) (rest : List ℕ) : Type 0 where
  pub text : List ℕ
  pub split : bytes ≡ text ++ rest
  pub lexed : (next : List ℕ) → ends_word next ≡ true → lexemes (text ++ next) ≡ number_lexeme n ∷ lexemes next
  pub valid : IsValid text
  pub long : length (decimal n) ≤ length text

-- they begin with the name between quotation marks
pub record ReadsName (bytes name rest : List ℕ) : Type 0 where
  pub text : List ℕ
  pub split : bytes ≡ text ++ rest
  pub lexed : IsPlain name → (next : List ℕ) → lexemes (text ++ next) ≡ token (string name) ∷ lexemes next
  pub valid : IsAscii name → IsValid text
  pub long : 2 + length name ≤ length text

-- ---- a key

-- they begin with the key and a colon
pub record ReadsKey (bytes key rest : List ℕ) : Type 0 where
  pub text : List ℕ
  pub split : bytes ≡ text ++ rest
  pub lexed : IsPlain key → (next : List ℕ) → lexemes (text ++ next) ≡ token (string key) ∷ colon ∷ lexemes next

-- ---- a step

-- they begin with the bracket, the name, a comma and the number, where no digit follows
pub record ReadsEntry (bytes name : List ℕ) (first : ℕ) (rest : List ℕ) : Type 0 where
  pub text : List ℕ
  pub split : bytes ≡ text ++ rest
  pub lexed : IsPlain name → (next : List ℕ) → ends_word next ≡ true → lexemes (text ++ next) ≡ entry_lexemes name first (lexemes next)
  pub valid : IsAscii name → IsValid text
  pub long : 4 + length name + length (decimal first) ≤ length text

-- the step has the name and the member, and the bytes begin with what stands behind these, up to the bracket
pub record ReadsTail (name : List ℕ) (p : ℕ) (bytes : List ℕ) (s : Step) (rest : List ℕ) : Type 0 where
  pub named : (step_entry s).name ≡ name
  pub of_member : (step_entry s).first ≡ p
  pub tail : Reads bytes (λ after. rest_lexemes (step_entry s).rest (token end_array ∷ after))
      (length (concat (rest_texts (step_entry s).rest ++ codes "]" ∷ []))) rest
  pub ends : (next : List ℕ) → ends_word (tail.text ++ next) ≡ true

-- the text of a step without white space, behind a comma where another stands before it
abbrev pub next_text : Bool → Step → List ℕ
next_text later s = if later then 44 ∷ step_text s else step_text s

-- the bytes begin with the step, behind a comma where another stands before it
abbrev pub ReadsStep : Bool → List ℕ → Step → List ℕ → Type 0
ReadsStep later bytes s rest = Reads bytes (λ after. comma_if later (step_lexemes s after)) (length (next_text later s)) rest
