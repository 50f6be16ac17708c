-- The smallest of the runs that are left of several walks.
use Rattle.std.specs.List.{AllZip}
use Rattle.std.specs.Prelude.{All, Contains, nat_lt, option_map}
use Rattle.std.proofs.Common.{◌≡◌, ◌∙◌, ◌≤◌, ◌<◌, ◌+◌, ◌&&◌, ◌||◌, ◌==◌, ℕ, zero, suc, Bool, true, false, Option, Some, None}
use Rattle.std.proofs.Common.{arith, ap, refl, subst, sym}
use Rattle.std.proofs.Common.{List, [], ◌∷◌, ◌++◌, get_or, length, take}
use Rattle.std.proofs.lemmas.Bool.Decides.{nat_tests}
use Rattle.std.proofs.lemmas.List.{take_more}
use Rattle.std.proofs.lemmas.List.Elements.{All-append, Contains-append_left, Contains-append_right}
use Rattle.ct_grammar.specs.declared.goal.Goal.{Goal}
use Rattle.ct_shrink.specs.declared.options.ShrinkOptions.{ShrinkOptions}
use Rattle.ct_walk.specs.declared.options.WalkOptions.{WalkOptions}
use Rattle.ct_find.specs.declared.hit.Hit.{Hit}
use Rattle.ct_best.specs.declared.shrinking.Left.{Left}
use Rattle.ct_best.specs.declared.smaller_walk.SmallerWalk.{SmallerWalk}
use Rattle.ct_best.specs.Best.{IsBest, IsLeftOf, IsRunLeft, IsSmallest, IsToldOf, LeftRun, is_less, run_of, smaller_of}

-- ---- one more

one_all : {X : Type 0} (P : X → Type 0) (x : X) → P x → All P (x ∷ [])
one_all P x holds zero d inside = holds
one_all P x holds (suc k) d inside = absurd (omega (arith, inside))

one_there : {X : Type 0} (x : X) → Contains (x ∷ []) x
one_there x = (0, omega arith, refl)

zip_push : {A B : Type 0} (R : A → B → Type 0) (xs : List A) (ys : List B) (x : A) (y : B) → AllZip R xs ys → R x y →
    AllZip R (xs ++ x ∷ []) (ys ++ y ∷ [])
zip_push R [] [] x y all is = (is, tt)
zip_push R [] (b ∷ ys) x y all is = absurd all
zip_push R (a ∷ xs) [] x y all is = absurd all
zip_push R (a ∷ xs) (b ∷ ys) x y all is = (all.0, zip_push R xs ys x y all.1 is)

-- a run of a steps and of the seed s is less than one of b steps and the seed t
abbrev less : ℕ → ℕ → ℕ → ℕ → Bool
less a b s t = nat_lt a b || ((a == b) && nat_lt s t)

fewer : (a b s t : ℕ) → less a b s t ≡ true → a ≤ b
fewer a b s t is = grind (arith, nat_tests)

no_fewer : (a b s t : ℕ) → less a b s t ≡ false → b ≤ a
no_fewer a b s t is = grind (arith, nat_tests)

-- what has c steps, as many as b or more, and the seed u
sooner : (a b s t c u : ℕ) → less a b s t ≡ true → b ≤ c → (c ≡ b → t ≤ u) → c ≡ a → s ≤ u
sooner a b s t c u is few first same = go (nat_lt a b) refl
  where
    go : (h : Bool) → nat_lt a b ≡ h → s ≤ u
    go true low =
        let below : a < b = grind (arith, nat_tests) in
        absurd (omega (arith, below, few, same))
    go false high =
        let level : a ≡ b = grind (arith, nat_tests) in
        let before : s < t = grind (arith, nat_tests) in
        let top : t ≤ u = first (same ∙ level) in
        omega (arith, before, top)

no_sooner : (a b s t : ℕ) → less a b s t ≡ false → a ≡ b → t ≤ s
no_sooner a b s t is same = grind (arith, nat_tests)

-- ---- the smallest of one more

module _ (best walk : SmallerWalk) (walks : List SmallerWalk) (so_far : IsSmallest walks best) where
  -- the new one is
  new_smallest : is_less walk best ≡ true → IsSmallest (walks ++ walk ∷ []) walk
  new_smallest is = record {
    one = Contains-append_right walks (walk ∷ []) walk (one_there walk);
    fewest = All-append (λ (w : SmallerWalk). walk.summary.left ≤ w.summary.left) walks (walk ∷ [])
        (λ k d inside. let few = so_far.fewest k d inside in
        omega (arith, few, fewer walk.summary.left best.summary.left walk.seed best.seed is))
        (one_all (λ (w : SmallerWalk). walk.summary.left ≤ w.summary.left) walk (omega arith));
    first = All-append (λ (w : SmallerWalk). w.summary.left ≡ walk.summary.left → walk.seed ≤ w.seed) walks (walk ∷ [])
        (λ k d inside. sooner walk.summary.left best.summary.left walk.seed best.seed _ _ is (so_far.fewest k d inside)
        (so_far.first k d inside))
        (one_all (λ (w : SmallerWalk). w.summary.left ≡ walk.summary.left → walk.seed ≤ w.seed) walk (λ _. omega arith));
  }

  -- the one before is
  old_smallest : is_less walk best ≡ false → IsSmallest (walks ++ walk ∷ []) best
  old_smallest is = record {
    one = Contains-append_left walks (walk ∷ []) best so_far.one;
    fewest = All-append (λ (w : SmallerWalk). best.summary.left ≤ w.summary.left) walks (walk ∷ []) so_far.fewest
        (one_all (λ (w : SmallerWalk). best.summary.left ≤ w.summary.left) walk
        (no_fewer walk.summary.left best.summary.left walk.seed best.seed is));
    first = All-append (λ (w : SmallerWalk). w.summary.left ≡ best.summary.left → best.seed ≤ w.seed) walks (walk ∷ []) so_far.first
        (one_all (λ (w : SmallerWalk). w.summary.left ≡ best.summary.left → best.seed ≤ w.seed) walk
        (no_sooner walk.summary.left best.summary.left walk.seed best.seed is));
  }

module _ (o : WalkOptions) (goal : Goal) (shrink : ShrinkOptions) where
  one_best : (walks : List SmallerWalk) (best run : LeftRun) → IsSmallest walks best.walk → IsRunLeft o goal shrink best →
      IsRunLeft o goal shrink run → IsBest o goal shrink (walks ++ run.walk ∷ []) (Some (smaller_of (Some best) run))
  one_best walks best run so_far before is = go (is_less run.walk best.walk) refl
    where
      go : (h : Bool) → is_less run.walk best.walk ≡ h →
          IsBest o goal shrink (walks ++ run.walk ∷ []) (Some (smaller_of (Some best) run))
      go true less = rw less (new_smallest best.walk run.walk walks so_far less, is)
      go false less = rw less (old_smallest best.walk run.walk walks so_far less, before)

  one_more : (walks : List SmallerWalk) (best : Option LeftRun) (run : LeftRun) → IsBest o goal shrink walks best →
      IsRunLeft o goal shrink run → IsBest o goal shrink (walks ++ run.walk ∷ []) (Some (smaller_of best run))
  one_more walks None run none is =
      subst (λ (before : List SmallerWalk). IsBest o goal shrink (before ++ run.walk ∷ []) (Some run)) (sym none) (
        record {
          one = one_there run.walk;
          fewest = one_all (λ (w : SmallerWalk). run.walk.summary.left ≤ w.summary.left) run.walk (omega arith);
          first = one_all (λ (w : SmallerWalk). w.summary.left ≡ run.walk.summary.left → run.walk.seed ≤ w.seed) run.walk
              (λ _. omega arith);
        },
        is,
      )
  one_more walks (Some best) run so_far is = one_best walks best run so_far.0 so_far.1 is

  -- after one more of the hits
  pub best_more : (walks new : List SmallerWalk) (best next : Option Left) (run : LeftRun) → new ≡ walks ++ run.walk ∷ [] →
      IsBest o goal shrink walks (option_map run_of best) → IsRunLeft o goal shrink run →
      option_map run_of next ≡ Some (smaller_of (option_map run_of best) run) → IsBest o goal shrink new (option_map run_of next)
  best_more walks new best next run grown so_far is same =
      subst (λ (l : List SmallerWalk). IsBest o goal shrink l (option_map run_of next)) (sym grown)
      (subst (λ (b : Option LeftRun). IsBest o goal shrink (walks ++ run.walk ∷ []) b) (sym same)
      (one_more walks (option_map run_of best) run so_far is))

  pub walks_more : (hits : List Hit) (i : ℕ) (d hit : Hit) (walks new : List SmallerWalk) (run : LeftRun) → i < length hits →
      hit ≡ get_or hits i d → AllZip (IsToldOf o goal shrink) (take i hits) walks → IsLeftOf o goal shrink hit run →
      new ≡ walks ++ run.walk ∷ [] → AllZip (IsToldOf o goal shrink) (take (i + 1) hits) new
  walks_more hits i d hit walks new run inside here so_far is grown =
      let grows : take (i + 1) hits ≡ take i hits ++ hit ∷ [] =
      take_more hits i d inside ∙ ap (λ h. take i hits ++ h ∷ []) (sym here) in
      subst (λ (l : List Hit). AllZip (IsToldOf o goal shrink) l new) (sym grows)
      (subst (λ (l : List SmallerWalk). AllZip (IsToldOf o goal shrink) (take i hits ++ hit ∷ []) l) (sym grown)
      (zip_push (IsToldOf o goal shrink) (take i hits) walks hit run.walk so_far (run.text, is)))
