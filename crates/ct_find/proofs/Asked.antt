-- What is asked for, found part after part.
use Rattle.std.specs.Prelude.{min, take}
use Rattle.std.proofs.Common.{◌≡◌, ◌∙◌, ◌≤◌, ◌+◌, ◌-◌, ◌<◌, ℕ, zero, suc, arith, Bool, true, false, true≢false, ap, refl, sym}
use Rattle.std.proofs.Common.{List, [], ◌∷◌, ◌++◌, length, append_assoc}
use Rattle.std.proofs.lemmas.Bool.Decides.{nat_tests}
use Rattle.std.proofs.lemmas.List.{append-nil, take-append-le}
use Rattle.ct_grammar.specs.declared.goal.Goal.{Goal}
use Rattle.ct_walk.specs.declared.options.WalkOptions.{WalkOptions}
use Rattle.ct_walk.specs.Finding.{finds}
use Rattle.ct_walk.specs.Sizes.{size_if_shown}
use Rattle.ct_find.specs.declared.hit.Hit.{Hit}
use Rattle.ct_find.specs.declared.search.Which.{Which}
use Rattle.ct_find.specs.declared.search.Which.TheVariants.{First, All}
use Rattle.ct_find.specs.Hits.{hit_of, hits_from}
use Rattle.ct_find.specs.Searching.{asked, hit_at, is_enough}
use Rattle.ct_find.proofs.Hits.{hit_first, hit_passes, hits_end, hits_then}

-- the first k of some, of which the first j were taken before
take_taken : (k j : ℕ) (more rest : List Hit) → k ≤ j → take k (take j more ++ rest) ≡ take k (more ++ rest)
take_taken zero j more rest few = refl
take_taken (suc k) zero more rest few = absurd (omega (arith, few))
take_taken (suc k) (suc j) [] rest few = refl
take_taken (suc k) (suc j) (hit ∷ more) rest few = ap (λ hits. hit ∷ hits) (take_taken k j more rest (omega (arith, few)))

-- the same behind others
take_behind : (k j : ℕ) (done more rest : List Hit) → k ≤ j → take k ((done ++ take j more) ++ rest) ≡ take k (done ++ (more ++ rest))
take_behind k j [] more rest few = take_taken k j more rest few
take_behind zero j (hit ∷ done) more rest few = refl
take_behind (suc k) j (hit ∷ done) more rest few =
    ap (λ hits. hit ∷ hits) (take_behind k j done more rest (omega (arith, few)))

-- what a part has more than is asked for adds nothing
no_more : (which : Which) (done more rest : List Hit) →
    asked which ((done ++ asked which more) ++ rest) ≡ asked which (done ++ (more ++ rest))
no_more All done more rest = append_assoc done more rest
no_more (First count) done more rest = take_behind count count done more rest (omega arith)

-- where it is enough, what is behind it adds nothing
pub enough : (which : Which) (new rest all : List Hit) → is_enough which new ≡ true →
    asked which (new ++ rest) ≡ asked which all → asked which new ≡ asked which all
enough All new rest all now so_far = absurd (true≢false (sym now))
enough (First count) new rest all now so_far =
    let few : count ≤ length new = grind (arith, nat_tests) in
    sym (take-append-le count new rest few) ∙ so_far

module _ (which : Which) (o : WalkOptions) (goal : Goal) where
  -- what a part of e seeds adds
  module _ (first end e : ℕ) (done got new all : List Hit) (adds : new ≡ done ++ got)
      (so_far : asked which (done ++ hits_from o goal first (end - first)) ≡ asked which all) where
    abbrev more : List Hit
    more = hits_from o goal first (min end (first + e) - first)

    abbrev rest : List Hit
    rest = hits_from o goal (first + e) (end - (first + e))

    whole : asked which (done ++ (more ++ rest)) ≡ asked which all
    whole = ap (λ hits. asked which (done ++ hits)) (sym (hits_then o goal first end e)) ∙ so_far

    -- the seeds behind it are left, where it adds as many of its hits as are asked for
    pub part_adds : got ≡ asked which more → asked which (new ++ rest) ≡ asked which all
    part_adds part =
        ap (λ hits. asked which (hits ++ rest)) (adds ∙ ap (λ hits. done ++ hits) part) ∙ (no_more which done more rest ∙ whole)

    -- the same where it adds all of them
    pub all_adds : got ≡ more → asked which (new ++ rest) ≡ asked which all
    all_adds part =
        ap (λ hits. asked which (hits ++ rest)) (adds ∙ ap (λ hits. done ++ hits) part)
        ∙ (ap (asked which) (append_assoc done more rest) ∙ whole)

  -- no seeds are left
  pub all_found : (done all : List Hit) (first left : ℕ) → left ≡ 0 → asked which (done ++ hits_from o goal first left) ≡ asked which all →
      asked which done ≡ asked which all
  all_found done all first left none so_far =
      ap (asked which) (sym (append-nil done) ∙ ap (λ hits. done ++ hits) (sym (hits_end o goal first left none))) ∙ so_far

-- the hits of a part of one seed
pub one_seed : (o : WalkOptions) (goal : Goal) (seed end : ℕ) → seed < end →
    hit_at seed (size_if_shown o goal seed) ≡ hits_from o goal seed (min end (seed + 1) - seed)
one_seed o goal seed end inside = go (finds o goal seed) refl
  where
    one : min end (seed + 1) - seed ≡ 0 + 1
    one = omega arith

    go : (h : Bool) → finds o goal seed ≡ h → hit_at seed (size_if_shown o goal seed) ≡ hits_from o goal seed (min end (seed + 1) - seed)
    go true shown = rw shown (sym (hit_first o goal seed _ 0 one shown
        ∙ ap (λ hits. hit_of o goal seed ∷ hits) (hits_end o goal (seed + 1) 0 refl)))
    go false shown = rw shown (sym (hit_passes o goal seed _ 0 one shown ∙ hits_end o goal (seed + 1) 0 refl))
