-- Words that digits begin: numbers, sets of members, messages, places.
use Rattle.std.proofs.Common.{◌≡◌, ℕ, ◌<◌, ◌^◌, ◌==◌, true, false, List, [], ◌∷◌, ◌++◌, length, map, refl, sym, ◌∙◌, arith, true≢false, inl}
use Rattle.std.proofs.Common.{inr}
use Rattle.std.specs.Prelude.{decimal}
use Rattle.std.specs.Char.{is_ascii_digit}
use Rattle.std.specs.List.{list_all, join_with_byte}
use Rattle.std.specs.Str.{bytes_eq}
use Rattle.std.proofs.lemmas.Bool.Decides.{nat_tests}
use Rattle.std.proofs.lemmas.List.Folds.{list_all-append}
use Rattle.ct_names.proofs.Lists.{both-left, both-right}
use Rattle.ct_names.specs.Membership.{IsIn}
use Rattle.ct_grammar.specs.Words.{Word, begins_with_digit}
use Rattle.ct_print.proofs.Numerals.{decimal_is_number}
use Rattle.ct_print.proofs.TextWords.{is_letter, numeric_word, Reads, word_reads}

-- a digit first, and no blank
pub record IsNumeric (word : Word) : Type 0 where
  pub first : begins_with_digit word ≡ true
  pub letters : list_all is_letter word ≡ true

pub numeric_reads : (word : Word) → IsNumeric word → Reads word (word ∷ [])
numeric_reads word h = word_reads word (numeric_word word h.first h.letters)

-- it is no word that a letter begins
pub numeric_other : (word : Word) (c : ℕ) (cs : Word) → is_ascii_digit c ≡ false → IsNumeric word → bytes_eq word (c ∷ cs) ≡ false
numeric_other [] c cs e h = refl
numeric_other (d ∷ ds) c cs e h =
    let other : (d == c) ≡ false = grind (arith, nat_tests, h.first) in
    rw other refl

-- ---- numbers

digit_letter : (c : ℕ) → is_ascii_digit c ≡ true → is_letter c ≡ true
digit_letter c h = grind (arith, nat_tests)

digits_letters : (word : Word) → list_all is_ascii_digit word ≡ true → list_all is_letter word ≡ true
digits_letters [] h = refl
digits_letters (c ∷ cs) h =
    rw (digit_letter c (both-left (is_ascii_digit c) (list_all is_ascii_digit cs) h))
    (digits_letters cs (both-right (is_ascii_digit c) (list_all is_ascii_digit cs) h))

digits_first : (word : Word) → 0 < length word → list_all is_ascii_digit word ≡ true → begins_with_digit word ≡ true
digits_first [] some h = absurd (omega (arith, some))
digits_first (c ∷ cs) some h = both-left (is_ascii_digit c) (list_all is_ascii_digit cs) h

pub decimal_digits : (n : ℕ) → n < 2 ^ 64 → list_all is_ascii_digit (decimal n) ≡ true
decimal_digits n h = (decimal_is_number n h).digits

pub decimal_numeric : (n : ℕ) → n < 2 ^ 64 → IsNumeric (decimal n)
decimal_numeric n h =
    let is = decimal_is_number n h in
    record { first = digits_first (decimal n) is.some is.digits; letters = digits_letters (decimal n) is.digits }

-- ---- with more behind them

first_behind : (word behind : Word) → begins_with_digit word ≡ true → begins_with_digit (word ++ behind) ≡ true
first_behind [] behind h = absurd (true≢false (sym h))
first_behind (c ∷ cs) behind h = h

pub numeric_behind : (word behind : Word) → IsNumeric word → list_all is_letter behind ≡ true → IsNumeric (word ++ behind)
numeric_behind word behind h k = record {
  first = first_behind word behind h.first;
  letters = list_all-append is_letter word behind ∙ rw (h.letters, k) refl;
}

-- two numbers, and a byte between them that is no blank
pub two_numeric : (m n at : ℕ) → m < 2 ^ 64 → n < 2 ^ 64 → is_letter at ≡ true → IsNumeric (decimal m ++ at ∷ (decimal n ++ []))
two_numeric m n at h k e =
    numeric_behind (decimal m) (at ∷ (decimal n ++ [])) (decimal_numeric m h)
    (rw e (list_all-append is_letter (decimal n) [] ∙ rw (decimal_numeric n k).letters refl))

abbrev pub AreNumeric : List Word → Type 0
AreNumeric [] = Unit {0}
AreNumeric (word ∷ words) = IsNumeric word × AreNumeric words

pub numbers_numeric : (ps : List ℕ) → ((q : ℕ) → IsIn q ps → q < 2 ^ 64) → AreNumeric (map decimal ps)
numbers_numeric [] h = tt
numbers_numeric (p ∷ ps) h = (decimal_numeric p (h p (inl refl)), numbers_numeric ps (λ q i. h q (inr i)))

-- such words with commas between them
pub joined_numeric : (word : Word) (words : List Word) → AreNumeric (word ∷ words) → IsNumeric (join_with_byte 44 (word ∷ words))
joined_numeric word [] h = h.0
joined_numeric word (next ∷ words) h =
    numeric_behind word (44 ∷ join_with_byte 44 (next ∷ words)) h.0 (joined_numeric next words h.1).letters
