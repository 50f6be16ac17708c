-- Well-formed XML, of the part of it that diagrams are written in: plain ASCII, names of letters, values in single quotes, and neither
-- references, comments nor declarations.
use Rattle.std.specs.Prelude.{◌≡◌, ℕ, ◌==◌, Bool, true, false, not, ◌&&◌, ◌||◌, nat_le, List, [], ◌∷◌, ◌++◌, codes}
use Rattle.std.specs.List.{concat, list_all, list_any}
use Rattle.std.specs.Str.{bytes_eq}

-- ---- bytes

abbrev pub is_letter : ℕ → Bool
is_letter b = (nat_le 65 b && nat_le b 90) || (nat_le 97 b && nat_le b 122)

-- a line feed, or a byte of plain ASCII other than <, > and &
abbrev pub is_plain : ℕ → Bool
is_plain b = ((b == 10) || (nat_le 32 b && nat_le b 126)) && not ((b == 60) || (b == 62) || (b == 38))

-- such a byte that is no single quote
abbrev pub is_in_value : ℕ → Bool
is_in_value b = is_plain b && not (b == 39)

abbrev pub is_line_feed : ℕ → Bool
is_line_feed b = b == 10

-- ---- names and attributes

-- one letter or more
abbrev pub IsName : List ℕ → Type 0
IsName [] = ⊥
IsName (b ∷ bytes) = list_all is_letter (b ∷ bytes) ≡ true

-- attributes of a tag that has these already: each behind a space, with a name that the tag hasn't yet, and with its value in quotes
pub data AreAttributes : List (List ℕ) → List ℕ → Type 0 where
  none : {known : List (List ℕ)} → AreAttributes known []
  more : {known : List (List ℕ)} (name value rest : List ℕ) → IsName name → list_any (bytes_eq name) known ≡ false →
      list_all is_in_value value ≡ true → AreAttributes (name ∷ known) rest →
      AreAttributes known (concat (codes " " ∷ name ∷ codes "='" ∷ value ∷ codes "'" ∷ rest ∷ []))

-- ---- elements

mutual
  -- a tag alone, or one tag with what it holds and another with the same name
  pub data IsElement : List ℕ → Type 0 where
    alone : (name attributes : List ℕ) → IsName name → AreAttributes [] attributes →
        IsElement (concat (codes "<" ∷ name ∷ attributes ∷ codes "/>" ∷ []))
    around : (name attributes content : List ℕ) → IsName name → AreAttributes [] attributes → IsContent content →
        IsElement (concat (codes "<" ∷ name ∷ attributes ∷ codes ">" ∷ content ∷ codes "</" ∷ name ∷ codes ">" ∷ []))

  -- plain text and elements, in any order
  pub data IsContent : List ℕ → Type 0 where
    nothing : IsContent []
    text : {byte : ℕ} {rest : List ℕ} → is_plain byte ≡ true → IsContent rest → IsContent (byte ∷ rest)
    element : (first rest : List ℕ) → IsElement first → IsContent rest → IsContent (first ++ rest)

-- one element, and line feeds behind it
pub record IsXml (text : List ℕ) : Type 0 where
  pub root : List ℕ
  pub behind : List ℕ
  pub all : text ≡ root ++ behind
  pub is : IsElement root
  pub blank : list_all is_line_feed behind ≡ true
