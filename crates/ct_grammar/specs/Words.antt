-- The words of a line.
use Rattle.std.specs.Prelude.{ℕ, Bool, true, false, not, ◌&&◌, ◌||◌, ◌==◌, List, [], ◌∷◌, filter}
use Rattle.std.specs.List.{slice_split, take_while, join_with_byte}
use Rattle.std.specs.Char.{is_ascii_digit}

-- a word is its bytes
abbrev pub Word : Type 0
Word = List ℕ

-- a space, a tab or a carriage return
abbrev pub is_blank : ℕ → Bool
is_blank c = (c == 32) || ((c == 9) || (c == 13))

abbrev pub is_nothing : Word → Bool
is_nothing [] = true
is_nothing (c ∷ cs) = false

abbrev pub begins_with_digit : Word → Bool
begins_with_digit [] = false
begins_with_digit (c ∷ cs) = is_ascii_digit c

-- `#`, with no digit behind it
abbrev pub begins_comment : Word → Bool
begins_comment [] = false
begins_comment (c ∷ cs) = (c == 35) && not (begins_with_digit cs)

-- what stands between blanks
unfoldable pub all_words : List ℕ → List Word
all_words line = filter (λ part. not (is_nothing part)) (slice_split is_blank line)

-- the same, before the first that begins a comment
unfoldable pub words_of : List ℕ → List Word
words_of line = take_while (λ word. not (begins_comment word)) (all_words line)

-- the word begins with this byte
abbrev pub begins_with : ℕ → Word → Bool
begins_with first [] = false
begins_with first (c ∷ cs) = c == first

-- the words, with a space between each two
abbrev pub text_of : List Word → List ℕ
text_of words = join_with_byte 32 words
