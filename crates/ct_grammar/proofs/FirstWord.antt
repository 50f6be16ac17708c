-- The first word of a line, and what stands behind it.
use Rattle.std.proofs.Common.{◌≡◌, ℕ, ◌+◌, ◌-◌, ◌<◌, ◌≤◌, zero, suc, true, false, not, List, [], ◌∷◌, length, get_or, take, drop, ap}
use Rattle.std.proofs.Common.{sym, refl, ◌∙◌, add-zero, arith, subst, inl, inr}
use Rattle.std.specs.Prelude.{filter}
use Rattle.std.specs.Str.{IsUtf8, IsCharBoundary}
use Rattle.std.specs.List.{slice_split, prefix_len, position_or_len, after_first, All}
use Rattle.std.proofs.lemmas.Bool.{cases_lt}
use Rattle.std.proofs.lemmas.Bool.Decides.{nat_tests}
use Rattle.std.proofs.lemmas.List.{length-drop, length-take, take_all, drop_all, get_or-drop, drop_more}
use Rattle.std.proofs.lemmas.List.Sums.{prefix_len-le-length, prefix_len_passes, prefix_len_stops, fails_before_first, passes_at_first}
use Rattle.std.proofs.lemmas.List.Sums.{take_while-cons}
use Rattle.std.proofs.lemmas.List.Splits.{slice_split_none, slice_split_first, slice_split-cons_yes}
use Rattle.std.proofs.lemmas.Str.{IsCharBoundary-after_ascii}
use Rattle.ct_grammar.specs.Words.{Word, is_blank, is_nothing, begins_comment, all_words, words_of}

-- ---- where a line may be cut

blank_small : (c : ℕ) → is_blank c ≡ true → c < 128
blank_small c e = grind (arith, nat_tests)

pub cut_behind_blanks : (line : List ℕ) → IsUtf8 line → 0 < prefix_len is_blank line → IsCharBoundary line (prefix_len is_blank line)
cut_behind_blanks line u some =
    let n : ℕ = prefix_len is_blank line in
    let within : n ≤ length line = prefix_len-le-length is_blank line in
    let last : get_or line (n - 1) 0 < 128 = blank_small _ (prefix_len_passes is_blank line (n - 1) 0 (omega arith)) in
    let same : n - 1 + 1 ≡ n = omega arith in
    subst (λ (i : ℕ). IsCharBoundary line i) same (IsCharBoundary-after_ascii line (n - 1) u (omega arith) last)

pub cut_before_blank : (line : List ℕ) → IsCharBoundary line (position_or_len is_blank line)
cut_before_blank line = (
  prefix_len-le-length (λ c. not (is_blank c)) line,
  λ l h.
      let small = blank_small (get_or line (position_or_len is_blank line) 0) (passes_at_first is_blank line 0 l) in
      absurd (omega arith),
)

-- ---- all words

-- a blank in front changes nothing
blank_first : (c : ℕ) (cs : List ℕ) → is_blank c ≡ true → all_words (c ∷ cs) ≡ all_words cs
unfolding all_words
blank_first c cs e = rw (slice_split-cons_yes is_blank c cs e) refl

skip : (line : List ℕ) (n : ℕ) → ((k : ℕ) → k < n → is_blank (get_or line k 0) ≡ true) → all_words (drop n line) ≡ all_words line
skip line zero h = refl
skip [] (suc n) h = refl
skip (c ∷ cs) (suc n) h = skip cs n (λ k l. h (suc k) (omega arith)) ∙ sym (blank_first c cs (h 0 (omega arith)))

behind_blanks : (line : List ℕ) → all_words (drop (prefix_len is_blank line) line) ≡ all_words line
behind_blanks line = skip line (prefix_len is_blank line) (λ k l. prefix_len_passes is_blank line k 0 l)

kept : (part : Word) (parts : List Word) → 0 < length part →
    filter (λ p. not (is_nothing p)) (part ∷ parts) ≡ part ∷ filter (λ p. not (is_nothing p)) parts
kept [] parts h = absurd (omega arith)
kept (c ∷ cs) parts h = refl

-- what stands before the first blank is the first word
word_first : (line : List ℕ) → 0 < position_or_len is_blank line →
    all_words line ≡ take (position_or_len is_blank line) line ∷ all_words (drop (position_or_len is_blank line) line)
unfolding all_words
word_first line some = elim (cases_lt (position_or_len is_blank line) (length line)) [
  | inl within ↦
      let n : ℕ = position_or_len is_blank line in
      let front : 0 < length (take n line) = omega (arith, length-take n line) in
      let back : drop n line ≡ get_or line n 0 ∷ drop (n + 1) line = drop_more line n 0 within in
      let behind : all_words (drop n line) ≡ all_words (after_first is_blank line) =
      ap all_words back ∙ blank_first (get_or line n 0) (after_first is_blank line) (passes_at_first is_blank line 0 within) in
      rw (slice_split_first is_blank line 0 within)
      (kept (take n line) (slice_split is_blank (after_first is_blank line)) front ∙ ap (λ (ws : List Word). take n line ∷ ws) (sym behind))
  | inr past ↦
      let n : ℕ = position_or_len is_blank line in
      let none : All (λ (c : ℕ). is_blank c ≡ false) line = λ k d l. fails_before_first is_blank line k d (omega arith) in
      let front : 0 < length line = omega (arith, prefix_len-le-length (λ c. not (is_blank c)) line) in
      rw (slice_split_none is_blank line none, take_all n line past, drop_all n line past) (kept line [] front)
]

-- behind the blanks in front stands a byte of a word, or nothing
some_word : (line : List ℕ) → is_blank (get_or line 0 0) ≡ false → 0 < length line → 0 < position_or_len is_blank line
some_word [] e l = absurd (omega arith)
some_word (c ∷ cs) e l = rw e (omega arith)

-- ---- the words before the comment

nothing_left : (rest : List ℕ) → length rest ≤ 0 → all_words rest ≡ []
unfolding all_words
nothing_left [] h = refl
nothing_left (c ∷ cs) h = absurd (omega arith)

begins_no_blank : (line rest : List ℕ) → rest ≡ drop (prefix_len is_blank line) line → 0 < length rest → is_blank (get_or rest 0 0) ≡ false
begins_no_blank line rest e some =
    let n : ℕ = prefix_len is_blank line in
    let within : n < length line = omega (arith, length-drop n line, ap length e) in
    rw (e, get_or-drop n line 0 0, add-zero) (prefix_len_stops is_blank line 0 within)

pub none_of : (line rest word : List ℕ) → rest ≡ drop (prefix_len is_blank line) line → word ≡ take (position_or_len is_blank rest) rest →
    length word ≡ 0 → words_of line ≡ []
unfolding words_of
none_of line rest word e f none = elim (cases_lt 0 (length rest)) [
  | inl some ↦
      let front = some_word rest (begins_no_blank line rest e some) some in
      absurd (omega (arith, length-take (position_or_len is_blank rest) rest, ap length f))
  | inr nothing ↦
      let words : all_words line ≡ [] = sym (behind_blanks line) ∙ sym (ap all_words e) ∙ nothing_left rest nothing in
      rw words refl
]

-- the line has words, of which the first is this
module _ (line rest word behind : List ℕ) (e : rest ≡ drop (prefix_len is_blank line) line)
    (f : word ≡ take (position_or_len is_blank rest) rest) (g : behind ≡ drop (position_or_len is_blank rest) rest)
    (some : 0 < length word) where
  words : all_words line ≡ word ∷ all_words behind
  words =
      let n : ℕ = position_or_len is_blank rest in
      let front : 0 < n = omega (arith, length-take n rest, ap length f) in
      sym (behind_blanks line) ∙ sym (ap all_words e) ∙ rw (f, g) (word_first rest front)

  pub before_comment : begins_comment word ≡ true → words_of line ≡ []
  unfolding words_of
  before_comment h = rw (words, take_while-cons, h) refl

  pub one_more : begins_comment word ≡ false → words_of line ≡ word ∷ words_of behind
  unfolding words_of
  one_more h = rw (words, take_while-cons, h) refl
