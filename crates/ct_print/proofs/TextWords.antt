-- Texts, and the words that they have.
use Rattle.std.proofs.Common.{◌≡◌, ℕ, ◌<◌, ◌==◌, Bool, true, false, not, cond, ◌&&◌, List, [], ◌∷◌, ◌++◌, length, refl, sym, ap, ◌∙◌, arith}
use Rattle.std.proofs.Common.{true≢false}
use Rattle.std.specs.Prelude.{filter}
use Rattle.std.specs.List.{slice_split, onto_first, list_all, take_while, join_with_byte}
use Rattle.std.proofs.lemmas.Bool.Decides.{nat_tests}
use Rattle.std.proofs.lemmas.List.Elements.{filter-append}
use Rattle.std.proofs.lemmas.List.Folds.{list_all-append}
use Rattle.std.proofs.lemmas.List.Splits.{length-slice_split, slice_split-cons_yes, slice_split-cons_no}
use Rattle.std.proofs.lemmas.List.Sums.{take_while-cons}
use Rattle.ct_names.proofs.Lists.{both-left, both-right, not-true}
use Rattle.ct_grammar.specs.Words.{Word, is_blank, is_nothing, begins_with_digit, begins_comment, all_words, words_of}

abbrev pub is_letter : ℕ → Bool
is_letter c = not (is_blank c)

abbrev pub is_plain : Word → Bool
is_plain word = not (begins_comment word)

-- letters alone, one at least, that begin no comment
abbrev pub is_word : Word → Bool
is_word word = list_all is_letter word && (not (is_nothing word) && is_plain word)

-- the text has these words, and no comment
pub record Reads (text : List ℕ) (words : List Word) : Type 0 where
  pub all : all_words text ≡ words
  pub plain : list_all is_plain words ≡ true

-- ---- two texts with a space between them

onto_first-append : (x : ℕ) (parts others : List Word) → 0 < length parts → onto_first x (parts ++ others) ≡ onto_first x parts ++ others
onto_first-append x [] others h = absurd (omega (arith, h))
onto_first-append x (part ∷ parts) others h = refl

one_part_more : (b : Bool) (x : ℕ) (parts others : List Word) → 0 < length parts →
    cond b ([] ∷ (parts ++ others)) (onto_first x (parts ++ others)) ≡ cond b ([] ∷ parts) (onto_first x parts) ++ others
one_part_more true x parts others h = refl
one_part_more false x parts others h = onto_first-append x parts others h

pub split_apart : (p : ℕ → Bool) (y : ℕ) → p y ≡ true → (xs ys : List ℕ) →
    slice_split p (xs ++ y ∷ ys) ≡ slice_split p xs ++ slice_split p ys
split_apart p y e [] ys = slice_split-cons_yes p y ys e
split_apart p y e (x ∷ xs) ys =
    ap (λ (s : List Word). cond (p x) ([] ∷ s) (onto_first x s)) (split_apart p y e xs ys)
    ∙ one_part_more (p x) x (slice_split p xs) (slice_split p ys) (omega (arith, length-slice_split p xs))

-- a list of which nothing passes is one part
pub one_part : {X : Type 0} (p : X → Bool) (xs : List X) → list_all (λ x. not (p x)) xs ≡ true → slice_split p xs ≡ xs ∷ []
one_part p [] h = refl
one_part p (x ∷ xs) h =
    slice_split-cons_no p x xs (not-true (p x) (both-left (not (p x)) (list_all (λ y. not (p y)) xs) h))
    ∙ ap (onto_first x) (one_part p xs (both-right (not (p x)) (list_all (λ y. not (p y)) xs) h))

-- words with a byte between each two that none of them has are the parts
pub joined_parts : (p : ℕ → Bool) (y : ℕ) → p y ≡ true → (word : Word) (words : List Word) →
    list_all (list_all (λ c. not (p c))) (word ∷ words) ≡ true → slice_split p (join_with_byte y (word ∷ words)) ≡ word ∷ words
joined_parts p y e word [] h = one_part p word (both-left (list_all (λ c. not (p c)) word) true h)
joined_parts p y e word (next ∷ words) h =
    let rest : list_all (list_all (λ c. not (p c))) (next ∷ words) ≡ true =
    both-right (list_all (λ c. not (p c)) word) (list_all (list_all (λ c. not (p c))) (next ∷ words)) h in
    let first : list_all (λ c. not (p c)) word ≡ true =
    both-left (list_all (λ c. not (p c)) word) (list_all (list_all (λ c. not (p c))) (next ∷ words)) h in
    split_apart p y e word (join_with_byte y (next ∷ words)) ∙ rw (one_part p word first, joined_parts p y e next words rest) refl

words_apart : (a b : List ℕ) → all_words (a ++ 32 ∷ b) ≡ all_words a ++ all_words b
unfolding all_words
words_apart a b =
    ap (filter (λ (part : Word). not (is_nothing part))) (split_apart is_blank 32 refl a b)
    ∙ filter-append (λ (part : Word). not (is_nothing part)) (slice_split is_blank a) (slice_split is_blank b)

pub beside : (a b : List ℕ) (ws vs : List Word) → Reads a ws → Reads b vs → Reads (a ++ 32 ∷ b) (ws ++ vs)
beside a b ws vs h k = record {
  all = words_apart a b ∙ rw (h.all, k.all) refl;
  plain = list_all-append is_plain ws vs ∙ rw (h.plain, k.plain) refl;
}

-- ---- one word

pub word_reads : (word : Word) → is_word word ≡ true → Reads word (word ∷ [])
unfolding all_words
word_reads [] h = absurd (true≢false (sym h))
word_reads (c ∷ cs) h =
    let letters : list_all is_letter (c ∷ cs) ≡ true =
    both-left (list_all is_letter (c ∷ cs)) (true && is_plain (c ∷ cs)) h in
    let plain : is_plain (c ∷ cs) ≡ true = both-right (list_all is_letter (c ∷ cs)) (true && is_plain (c ∷ cs)) h in
    record {
      all = ap (filter (λ (part : Word). not (is_nothing part))) (one_part is_blank (c ∷ cs) letters);
      plain = rw plain refl;
    }

-- a word, and a text behind it
pub word_before : (word : Word) (text : List ℕ) (words : List Word) → is_word word ≡ true → Reads text words →
    Reads (word ++ 32 ∷ text) (word ∷ words)
word_before word text words h k = beside word text (word ∷ []) words (word_reads word h) k

-- a word that begins with a digit begins no comment
pub numeric_word : (word : Word) → begins_with_digit word ≡ true → list_all is_letter word ≡ true → is_word word ≡ true
numeric_word [] first letters = absurd (true≢false (sym first))
numeric_word (c ∷ cs) first letters =
    let other : (c == 35) ≡ false = grind (arith, nat_tests) in
    rw (letters, other) refl

-- ---- the words of a text

taken_all : (p : Word → Bool) (words : List Word) → list_all p words ≡ true → take_while p words ≡ words
taken_all p [] h = refl
taken_all p (word ∷ words) h =
    take_while-cons p word words
    ∙ rw (both-left (p word) (list_all p words) h)
    (ap (λ (ws : List Word). word ∷ ws) (taken_all p words (both-right (p word) (list_all p words) h)))

pub words_from : (text : List ℕ) (words : List Word) → Reads text words → words_of text ≡ words
unfolding words_of
words_from text words h = ap (take_while is_plain) h.all ∙ taken_all is_plain words h.plain
