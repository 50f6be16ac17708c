-- Lines with a comment behind them.
use Rattle.std.proofs.Common.{◌≡◌, ℕ, Bool, false, not, List, [], ◌∷◌, ◌++◌, ap, refl, ◌∙◌}
use Rattle.std.specs.Prelude.{filter}
use Rattle.std.specs.List.{slice_split, take_while}
use Rattle.std.proofs.lemmas.List.Elements.{filter-append}
use Rattle.std.proofs.lemmas.List.Sums.{take_while-cons}
use Rattle.ct_grammar.specs.Words.{Word, is_blank, is_nothing, begins_comment, all_words, words_of}
use Rattle.ct_grammar.specs.Lines.{line_of}
use Rattle.ct_print.proofs.TextWords.{split_apart}

-- the words before a blank and those behind it
pub words_apart : (line rest : List ℕ) → all_words (line ++ 32 ∷ rest) ≡ all_words line ++ all_words rest
unfolding all_words
words_apart line rest =
    ap (filter (λ part. not (is_nothing part))) (split_apart is_blank 32 refl line rest)
    ∙ filter-append (λ part. not (is_nothing part)) (slice_split is_blank line) (slice_split is_blank rest)

-- ---- a comment

comment_words : (rest : List ℕ) → all_words (35 ∷ 32 ∷ rest) ≡ (35 ∷ []) ∷ all_words rest
unfolding all_words
comment_words rest = words_apart (35 ∷ []) rest

ends_at : (p : Word → Bool) (word : Word) (others : List Word) → p word ≡ false → (words : List Word) →
    take_while p (words ++ word ∷ others) ≡ take_while p words
ends_at p word others e [] = rw (take_while-cons, e) refl
ends_at p word others e (first ∷ words) = rw (take_while-cons, take_while-cons, ends_at p word others e words) refl

-- a comment behind a line changes no word of it
pub before_comment : (line rest : List ℕ) → words_of (line ++ 32 ∷ 35 ∷ 32 ∷ rest) ≡ words_of line
unfolding words_of
before_comment line rest =
    ap (take_while (λ word. not (begins_comment word))) (words_apart line (35 ∷ 32 ∷ rest)
    ∙ ap (λ (words : List Word). all_words line ++ words) (comment_words rest))
    ∙ ends_at (λ word. not (begins_comment word)) (35 ∷ []) (all_words rest) refl (all_words line)

pub line_before : (line rest : List ℕ) → line_of (line ++ 32 ∷ 35 ∷ 32 ∷ rest) ≡ line_of line
unfolding line_of
line_before line rest = rw (before_comment line rest) refl
