-- The hits among seeds, part after part.
use Rattle.std.specs.Prelude.{filter, map, min, nat_le, option_map, slice_get, take}
use Rattle.std.specs.List.{range_with_len}
use Rattle.std.proofs.Common.{◌≡◌, ◌∙◌, ◌≤◌, ◌<◌, ◌+◌, ◌-◌, ℕ, zero, suc, add-one, Bool, true, false, ap, arith, refl, sym}
use Rattle.std.proofs.Common.{[], ◌∷◌, ◌++◌, length}
use Rattle.std.proofs.lemmas.Bool.Decides.{nat_tests}
use Rattle.std.proofs.lemmas.List.{append-nil, map-append}
use Rattle.std.proofs.lemmas.List.Elements.{filter-append}
use Rattle.ct_grammar.specs.declared.goal.Goal.{Goal}
use Rattle.ct_walk.specs.declared.options.WalkOptions.{WalkOptions}
use Rattle.ct_walk.specs.Finding.{finds, first_seed}
use Rattle.ct_walk.proofs.Looping.{seed_shows, seed_passes, seeds_end}
use Rattle.ct_find.specs.declared.hit.Hit.{Hit}
use Rattle.ct_find.specs.Hits.{hit_of, hits_from}

-- the numbers from one on, and those behind them
range_split : (a b s : ℕ) → range_with_len s (a + b) ≡ range_with_len s a ++ range_with_len (s + a) b
range_split zero b s =
    let all : zero + b ≡ b = omega arith in
    let here : s + zero ≡ s = omega arith in
    rw (all, here) refl
range_split (suc a) b s =
    let all : suc a + b ≡ suc (a + b) = omega arith in
    let here : s + suc a ≡ s + 1 + a = omega arith in
    rw (all, here) (ap (λ more. s ∷ more) (range_split a b (s + 1)))

module _ (o : WalkOptions) (goal : Goal) where
  hits_split : (a b s : ℕ) → hits_from o goal s (a + b) ≡ hits_from o goal s a ++ hits_from o goal (s + a) b
  unfolding hits_from
  hits_split a b s =
      ap (λ seeds. map (hit_of o goal) (filter (finds o goal) seeds)) (range_split a b s)
      ∙ (ap (map (hit_of o goal)) (filter-append (finds o goal) (range_with_len s a) (range_with_len (s + a) b))
      ∙ map-append (hit_of o goal) (filter (finds o goal) (range_with_len s a)) (filter (finds o goal) (range_with_len (s + a) b)))

  pub hits_end : (s left : ℕ) → left ≡ 0 → hits_from o goal s left ≡ []
  unfolding hits_from
  hits_end s left none = rw none refl

  -- the hits of a part of e seeds, and of those behind it
  pub hits_then : (first end e : ℕ) → hits_from o goal first (end - first)
      ≡ hits_from o goal first (min end (first + e) - first) ++ hits_from o goal (first + e) (end - (first + e))
  hits_then first end e = go (nat_le (first + e) end) refl
    where
      go : (h : Bool) → nat_le (first + e) end ≡ h → hits_from o goal first (end - first)
          ≡ hits_from o goal first (min end (first + e) - first) ++ hits_from o goal (first + e) (end - (first + e))
      go true h =
          let low : first + e ≤ end = grind (arith, nat_tests) in
          let part : min end (first + e) - first ≡ e = omega (arith, low) in
          let all : end - first ≡ e + (end - (first + e)) = omega (arith, low) in
          rw part (ap (hits_from o goal first) all ∙ hits_split e (end - (first + e)) first)
      go false h =
          let high : end < first + e = grind (arith, nat_tests) in
          let part : min end (first + e) - first ≡ end - first = omega (arith, high) in
          let none : end - (first + e) ≡ 0 = omega (arith, high) in
          rw part (sym (append-nil (hits_from o goal first (end - first)))
          ∙ ap (λ more. hits_from o goal first (end - first) ++ more) (sym (hits_end (first + e) (end - (first + e)) none)))

  -- the first of several seeds shows the goal, or doesn't
  pub hit_first : (s left next : ℕ) → left ≡ next + 1 → finds o goal s ≡ true →
      hits_from o goal s left ≡ (hit_of o goal s ∷ []) ++ hits_from o goal (s + 1) next
  unfolding hits_from
  hit_first s left next some shown = rw (some, add-one) (rw shown refl)

  pub hit_passes : (s left next : ℕ) → left ≡ next + 1 → finds o goal s ≡ false →
      hits_from o goal s left ≡ [] ++ hits_from o goal (s + 1) next
  unfolding hits_from
  hit_passes s left next some shown = rw (some, add-one) (rw shown refl)

  -- the first seed that shows the goal is the first hit's
  pub first_hit : (left s : ℕ) →
      option_map (λ (hit : Hit). hit.seed) (slice_get (take 1 (hits_from o goal s left)) 0) ≡ first_seed o goal s left
  first_hit zero s = rw (hits_end s zero refl, seeds_end o goal s zero refl) refl
  first_hit (suc left) s = go (finds o goal s) refl (first_hit left (s + 1))
    where
      go : (h : Bool) → finds o goal s ≡ h →
          option_map (λ (hit : Hit). hit.seed) (slice_get (take 1 (hits_from o goal (s + 1) left)) 0) ≡ first_seed o goal (s + 1) left →
          option_map (λ (hit : Hit). hit.seed) (slice_get (take 1 (hits_from o goal s (suc left))) 0) ≡ first_seed o goal s (suc left)
      go true shown rest =
          ap (λ hits. option_map (λ (hit : Hit). hit.seed) (slice_get (take 1 hits) 0)) (hit_first s (suc left) left (omega arith) shown)
          ∙ sym (seed_shows o goal s (suc left) left (omega arith) shown)
      go false shown rest =
          ap (λ hits. option_map (λ (hit : Hit). hit.seed) (slice_get (take 1 hits) 0)) (hit_passes s (suc left) left (omega arith) shown)
          ∙ (rest ∙ sym (seed_passes o goal s (suc left) left (omega arith) shown))

  -- there are no more of them than seeds
  pub hits_few : (n s : ℕ) → length (hits_from o goal s n) ≤ n
  hits_few zero s = rw (hits_end s zero refl) (omega arith)
  hits_few (suc n) s = go (finds o goal s) refl (hits_few n (s + 1))
    where
      go : (h : Bool) → finds o goal s ≡ h → length (hits_from o goal (s + 1) n) ≤ n → length (hits_from o goal s (suc n)) ≤ suc n
      go true shown rest = rw (hit_first s (suc n) n (omega arith) shown) (omega (arith, rest))
      go false shown rest = rw (hit_passes s (suc n) n (omega arith) shown) (omega (arith, rest))
