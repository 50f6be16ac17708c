-- The lines of a text, by its line feeds.
use Rattle.std.proofs.Common.{◌≡◌, ℕ, ◌+◌, ◌<◌, ◌≤◌, List, [], ◌∷◌, length, take, drop, Some, None, Bool, cond, subst, arith}
use Rattle.std.proofs.lemmas.Bool.Decides.{nat_tests}
use Rattle.std.proofs.lemmas.List.Quantifiers.{position-Some}
use Rattle.std.proofs.lemmas.List.Sums.{fails_before_first}
use Rattle.std.proofs.lemmas.List.Splits.{slice_split_first, slice_split_none}
use Rattle.std.specs.List.{position, position_or_len, slice_split}
use Rattle.std.specs.Prelude.{nat_lt}
use Rattle.ct_grammar.specs.Texts.{is_feed, lines_of}

pub place_there : (a n i : ℕ) → cond (nat_lt a n) (Some a) None ≡ Some i → (a < n) × (a ≡ i)
place_there a n i h = grind (arith, nat_tests)

pub no_place : (a n : ℕ) → cond (nat_lt a n) (Some a) None ≡ None → n ≤ a
no_place a n h = grind (arith, nat_tests)

pub within_text : (text : List ℕ) (i : ℕ) → position is_feed text ≡ Some i → i < length text
within_text text i h = (position-Some is_feed text i 0 h).0

-- a list is parted at the first one that passes the test
pub parted_at : (test : ℕ → Bool) (xs : List ℕ) (i : ℕ) → position test xs ≡ Some i →
    slice_split test xs ≡ take i xs ∷ slice_split test (drop (i + 1) xs)
parted_at test xs i h =
    let there = place_there (position_or_len test xs) (length xs) i h in
    subst (λ n. slice_split test xs ≡ take n xs ∷ slice_split test (drop (n + 1) xs)) there.1 (slice_split_first test xs 0 there.0)

pub parted_nowhere : (test : ℕ → Bool) (xs : List ℕ) → position test xs ≡ None → slice_split test xs ≡ xs ∷ []
parted_nowhere test xs h =
    let all = no_place (position_or_len test xs) (length xs) h in
    slice_split_none test xs (λ k d within. fails_before_first test xs k d (omega (arith, within, all)))

pub first_line : (text : List ℕ) (i : ℕ) → position is_feed text ≡ Some i → lines_of text ≡ take i text ∷ lines_of (drop (i + 1) text)
first_line text i h = unfold lines_of in parted_at is_feed text i h

pub only_line : (text : List ℕ) → position is_feed text ≡ None → lines_of text ≡ text ∷ []
only_line text h = unfold lines_of in parted_nowhere is_feed text h
