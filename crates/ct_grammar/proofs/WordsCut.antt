-- Words, cut at each `and`.
use Rattle.std.proofs.Common.{◌≡◌, ℕ, ◌<◌, zero, suc, true, false, List, [], ◌∷◌, length, map, get_or, take, drop, ap, refl, ◌∙◌}
use Rattle.std.proofs.Common.{arith, Bor}
use Rattle.std.specs.List.{onto_first}
use Rattle.std.proofs.lemmas.List.Splits.{slice_split-cons_yes, slice_split-cons_no}
use Rattle.ct_grammar.specs.Words.{Word}
use Rattle.ct_grammar.specs.Goals.{is_and, parts_of}

-- the words as they read
abbrev pub read : List (Bor Word) → List Word
read words = map (λ word. word.now) words

-- with no `and` the words are one part
pub one_part : (words : List (Bor Word)) (d : Bor Word) → ((k : ℕ) → k < length words → is_and (get_or words k d).now ≡ false) →
    parts_of (read words) ≡ read words ∷ []
one_part [] d h = refl
one_part (word ∷ words) d h =
    slice_split-cons_no is_and word.now (read words) (h 0 (omega arith))
    ∙ ap (onto_first word.now) (one_part words d (λ k l. h (suc k) (omega arith)))

-- the words before the first `and` are the first part
pub first_part : (words : List (Bor Word)) (i : ℕ) (d : Bor Word) → i < length words →
    ((k : ℕ) → k < i → is_and (get_or words k d).now ≡ false) → is_and (get_or words i d).now ≡ true →
    parts_of (read words) ≡ read (take i words) ∷ parts_of (read (drop (suc i) words))
first_part [] i d l h e = absurd (omega arith)
first_part (word ∷ words) zero d l h e = slice_split-cons_yes is_and word.now (read words) e
first_part (word ∷ words) (suc i) d l h e =
    slice_split-cons_no is_and word.now (read words) (h 0 (omega arith))
    ∙ ap (onto_first word.now) (first_part words i d (omega arith) (λ k m. h (suc k) (omega arith)) e)
