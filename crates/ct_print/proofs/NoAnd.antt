-- Words of which none is `and`.
use Rattle.std.proofs.Common.{◌≡◌, ℕ, ◌<◌, ◌^◌, false, true, not, List, [], ◌∷◌, ◌++◌, refl, ap, ◌∙◌, ◌≤◌, arith}
use Rattle.std.specs.Prelude.{codes, decimal}
use Rattle.std.specs.List.{list_all, onto_first}
use Rattle.std.proofs.lemmas.List.Folds.{list_all-append}
use Rattle.std.proofs.lemmas.List.Splits.{slice_split-cons_yes, slice_split-cons_no}
use Rattle.ct_names.proofs.Lists.{both-left, both-right, not-true}
use Rattle.ct_grammar.specs.Goals.{is_and, parts_of}
use Rattle.ct_grammar.specs.Numbers.{max_u8, max_u32, max_u64}
use Rattle.ct_grammar.specs.Words.{Word}
use Rattle.ct_print.proofs.Numeric.{IsNumeric, numeric_other, numeric_reads, decimal_numeric}
use Rattle.ct_print.proofs.TextWords.{Reads, beside, is_word, one_part, word_reads}

abbrev pub HasNoAnd : List Word → Type 0
HasNoAnd words = list_all (λ word. not (is_and word)) words ≡ true

-- ---- parts

-- words before an `and` are a part, and so are words that stand alone
pub part_before : (words others : List Word) → HasNoAnd words → parts_of (words ++ codes "and" ∷ others) ≡ words ∷ parts_of others
part_before [] others h = slice_split-cons_yes is_and (codes "and") others refl
part_before (word ∷ words) others h =
    slice_split-cons_no is_and word (words ++ codes "and" ∷ others)
    (not-true (is_and word) (both-left (not (is_and word)) (list_all (λ w. not (is_and w)) words) h))
    ∙ ap (onto_first word) (part_before words others (both-right (not (is_and word)) (list_all (λ w. not (is_and w)) words) h))

pub part_alone : (words : List Word) → HasNoAnd words → parts_of words ≡ words ∷ []
part_alone words h = one_part is_and words h

-- ---- texts that say them

-- the text has these words, and no comment
pub record Says (text : List ℕ) (words : List Word) : Type 0 where
  pub reads : Reads text words
  pub no_and : HasNoAnd words

pub said : (word : Word) → is_word word ≡ true → is_and word ≡ false → Says word (word ∷ [])
said word h k = record { reads = word_reads word h; no_and = rw k refl }

pub says_beside : (a b : List ℕ) (ws vs : List Word) → Says a ws → Says b vs → Says (a ++ 32 ∷ b) (ws ++ vs)
says_beside a b ws vs h k = record {
  reads = beside a b ws vs h.reads k.reads;
  no_and = list_all-append (λ word. not (is_and word)) ws vs ∙ rw (h.no_and, k.no_and) refl;
}

-- it has them, whether one is `and` or not
pub as_read : (text : List ℕ) (words : List Word) → Says text words → Reads text words
as_read text words h = h.reads

-- a word, and a text behind it
pub led : (word : Word) (text : List ℕ) (words : List Word) → Says word (word ∷ []) → Says text words →
    Says (word ++ 32 ∷ text) (word ∷ words)
led word text words h k = says_beside word text (word ∷ []) words h k

pub numeric_says : (word : Word) → IsNumeric word → Says word (word ∷ [])
numeric_says word h = record { reads = numeric_reads word h; no_and = rw (numeric_other word 97 _ refl h) refl }

pub number_says : (n : ℕ) → n < 2 ^ 64 → Says (decimal n) (decimal n ∷ [])
number_says n h = numeric_says (decimal n) (decimal_numeric n h)

pub member_says : (p : ℕ) → p ≤ max_u8 → Says (decimal p) (decimal p ∷ [])
member_says p h = number_says p (omega arith)

pub whole_says : (n : ℕ) → n ≤ max_u32 → Says (decimal n) (decimal n ∷ [])
whole_says n h = number_says n (omega arith)

pub value_says : (n : ℕ) → n ≤ max_u64 → Says (decimal n) (decimal n ∷ [])
value_says n h = number_says n (omega arith)

-- words and numbers
pub ruleset spoken = (led, said, member_says, whole_says, value_says)
