-- Where a text is cut at its first two points.
use Rattle.std.specs.Prelude.{◌≡◌, ◌≢◌, ◌≤◌, ◌<◌, ◌+◌, ◌++◌, ℕ, zero, suc, Bool, true, false, [], ◌∷◌, length}
use Rattle.std.specs.Prelude.{Some, None, codes, drop, take}
use Rattle.std.proofs.Common.{◌∙◌, ap, ap₂, arith, refl, sym, true≢false}
use Rattle.std.proofs.lemmas.Bool.Decides.{nat_tests}
use Rattle.clap.specs.Words.{Text}
use Rattle.std.specs.Str.Pattern.{FindsText, SplitsAroundMatch}
use Rattle.ct_streams.specs.Arguments.{whole_in}
use Rattle.ct_walk.specs.Texts.{begins_with_points, cut, seeds_of}

-- no points stand at the place
abbrev Lacks : Text → ℕ → Type 0
Lacks s i = (rest : Text) → drop i s ≢ codes ".." ++ rest

points_begin : (s : Text) → begins_with_points s ≡ true → s ≡ codes ".." ++ drop 2 s
points_begin [] h = absurd (true≢false (sym h))
points_begin (a ∷ []) h = absurd (true≢false (sym h))
points_begin (a ∷ b ∷ rest) h = grind (arith, nat_tests)

none_begin : (s : Text) → Lacks s 0 → begins_with_points s ≡ false
none_begin s lacks = go (begins_with_points s) refl
  where
    go : (b : Bool) → begins_with_points s ≡ b → begins_with_points s ≡ false
    go false h = h
    go true h = absurd (lacks (drop 2 s) (points_begin s h))

pub cut_none : (s : Text) → ((i : ℕ) → i ≤ length s → Lacks s i) → cut s ≡ None
cut_none [] lacks = refl
cut_none (c ∷ s) lacks = rw (none_begin (c ∷ s) (lacks 0 (omega arith)), cut_none s (λ i low. lacks (suc i) (omega arith))) refl

pub cut_some : (s : Text) (i j : ℕ) → ((k : ℕ) → k < i → Lacks s k) → j ≡ i + 2 → drop i s ≡ codes ".." ++ drop j s →
    cut s ≡ Some (take i s, drop j s)
cut_some [] zero j lacks ends split = grind arith
cut_some [] (suc i) j lacks ends split = grind arith
cut_some (c ∷ s) zero j lacks ends split = rw (ap begins_with_points split, ends) refl
cut_some (c ∷ s) (suc i) j lacks ends split =
    let past : j ≡ suc (i + 2) = omega arith in
    let later = cut_some s i (i + 2) (λ k low. lacks (suc k) (omega arith)) refl (rw past at split) in
    rw (none_begin (c ∷ s) (lacks 0 (omega arith)), past, later) refl

-- std's `split_once` cuts the text so
abbrev pub IsSplit : Text → Text → Text → Type 0
IsSplit text front back = SplitsAroundMatch (FindsText (codes "..")) text front back

pub split_cut : (text front back : Text) → IsSplit text front back → cut text ≡ Some (front, back)
split_cut text front back h =
    cut_some text h.0 h.1 h.2.0 h.2.1.ends h.2.1.split ∙ ap₂ (λ a b. Some (a, b)) (sym h.3) (sym h.4)

pub no_seeds : (text : Text) → ((i : ℕ) → i ≤ length text → Lacks text i) → None ≡ seeds_of text
unfolding seeds_of
no_seeds text lacks = rw (cut_none text lacks) refl

pub no_first : (text front back : Text) → IsSplit text front back → None ≡ whole_in 0 4294967295 front →
    None ≡ seeds_of text
unfolding seeds_of
no_first text front back h none = rw (split_cut text front back h, sym none) refl

pub no_last : (text front back : Text) (first : ℕ) → IsSplit text front back →
    Some first ≡ whole_in 0 4294967295 front → None ≡ whole_in first 4294967295 back → None ≡ seeds_of text
unfolding seeds_of
no_last text front back first h some none = rw (split_cut text front back h, sym some, sym none) refl

pub some_seeds : (text front back : Text) (first last : ℕ) → IsSplit text front back →
    Some first ≡ whole_in 0 4294967295 front → Some last ≡ whole_in first 4294967295 back →
    Some (record { first = first; last = last }) ≡ seeds_of text
unfolding seeds_of
some_seeds text front back first last h some more = rw (split_cut text front back h, sym some, sym more) refl
