-- The best of the estimates, found from the end.
use Rattle.std.proofs.Common.{◌≡◌, ℕ, ◌+◌, ◌<◌, ◌≤◌, Bool, true, false, cond, List, [], ◌∷◌, Option, Some, None, refl, ap, ◌∙◌, arith}
use Rattle.std.proofs.Common.{nat_le, option_map, map, find}
use Rattle.std.specs.Prelude.{◌==◌, ◌&&◌, ◌||◌, nat_lt}
use Rattle.std.specs.List.{list_all}
use Rattle.std.specs.Option.{option_map_or}
use Rattle.std.proofs.lemmas.Bool.Decides.{nat_tests}
use Rattle.ct_names.specs.MemberSet.{has_member}
use Rattle.ct_model.specs.Counted.{with_estimate}
use Rattle.ct_model.specs.Received.{Heard, Ballots, is_largest}
use Rattle.ct_rounds.specs.Best.{best_estimate}
use Rattle.ct_rounds.specs.Tally.{mark_of, better}
use Rattle.ct_rounds.proofs.Rising.{Rises}

-- the first, unless the best of the others is larger
abbrev pub larger : Heard ℕ → Option (Heard ℕ) → Heard ℕ
larger x None = x
larger x (Some b) = cond (nat_le b.ts x.ts) x b

abbrev pub pick : List (Heard ℕ) → Option (Heard ℕ)
pick [] = None
pick (x ∷ xs) = Some (larger x (pick xs))

-- nobody's is above the best one's
below : (t : ℕ) (xs : List (Heard ℕ)) → list_all (λ y. nat_le y.ts t) xs ≡ option_map_or (λ b. nat_le b.ts t) (pick xs) true
below t [] = refl
below t (x ∷ xs) = grind (arith, nat_tests, below t xs)

pub all-below : (t : ℕ) (xs : List (Heard ℕ)) (b : Heard ℕ) → pick xs ≡ Some b → list_all (λ y. nat_le y.ts t) xs ≡ nat_le b.ts t
all-below t xs b h = below t xs ∙ ap (λ o. option_map_or (λ (z : Heard ℕ). nat_le z.ts t) o true) h

-- the first that is as large as the best one is the best one
first-is : (b : Heard ℕ) (xs : List (Heard ℕ)) → pick xs ≡ Some b → find (λ e. nat_le b.ts e.ts) xs ≡ Some b
first-is b [] h = cc
first-is b (x ∷ xs) h = grind (arith, nat_tests, first-is b xs)

pub best-pick : (t : Ballots ℕ) → best_estimate t ≡ pick t.estimates
best-pick t = by (pick t.estimates) refl
  where
    none-find : (test : Heard ℕ → Bool) (xs : List (Heard ℕ)) → pick xs ≡ None → find test xs ≡ None
    none-find test [] h = refl
    none-find test (x ∷ xs) h = cc

    by : (o : Option (Heard ℕ)) → pick t.estimates ≡ o → find (λ e. is_largest t e.ts) t.estimates ≡ o
    by None is = none-find (λ e. is_largest t e.ts) t.estimates is
    by (Some b) is =
        ap (λ (test : Heard ℕ → Bool). find test t.estimates) (λ i. λ e. all-below e.ts t.estimates b is i) ∙ first-is b t.estimates is

-- the better one of the best so far and a new one
abbrev pub winner : Option (Heard ℕ) → Heard ℕ → Heard ℕ
winner None e = e
winner (Some b) e = cond (nat_lt b.ts e.ts || ((b.ts == e.ts) && nat_lt e.member b.member)) e b

pub better-mark : (o : Option (Heard ℕ)) (e : Heard ℕ) → better (option_map mark_of o) (mark_of e) ≡ mark_of (winner o e)
better-mark o e = grind arith

-- the best one is none of the smaller members
pick-above : (a : ℕ) (xs : List (Heard ℕ)) (w : Heard ℕ) → Rises a (map (λ y. y.member) xs) → pick xs ≡ Some w → a ≤ w.member
pick-above a [] w r h = cc
pick-above a (x ∷ xs) w r h = grind (arith, nat_tests, r.0, λ (c : Heard ℕ). pick-above (x.member + 1) xs c r.1)

-- a new one before all the others
front : (w e : Heard ℕ) → e.member < w.member → larger e (Some w) ≡ winner (Some w) e
front w e less = grind (arith, nat_tests)

-- a new one behind another
behind : (x e : Heard ℕ) (o : Option (Heard ℕ)) → x.member < e.member → larger x (Some (winner o e)) ≡ winner (Some (larger x o)) e
behind x e o less = grind (arith, nat_tests)

-- the best one after one more
pub pick-more : (e : Heard ℕ) (a : ℕ) (xs : List (Heard ℕ)) → Rises a (map (λ y. y.member) xs) →
    has_member (map (λ y. y.member) xs) e.member ≡ false → pick (with_estimate e xs) ≡ Some (winner (pick xs) e)
pick-more e a [] r absent = refl
pick-more e a (x ∷ xs) r absent = grind (
  arith,
  nat_tests,
  pick-more e (x.member + 1) xs r.1,
  pick-above x.member (x ∷ xs) (larger x (pick xs)) (omega arith, r.1) refl,
  front (larger x (pick xs)) e,
  behind x e (pick xs),
)
