-- The seed that was found.
use Rattle.std.proofs.Common.{◌≡◌, ◌∙◌, ◌+◌, ℕ, zero, suc, Bool, true, false, Some, None, arith, refl, subst, sym}
use Rattle.ct_grammar.specs.declared.goal.Goal.{Goal}
use Rattle.ct_walk.specs.declared.options.WalkOptions.{WalkOptions}
use Rattle.ct_walk.specs.Finding.{finds, first_seed}
use Rattle.ct_model.proofs.Basics.Options.{some-same}
use Rattle.ct_walk.proofs.Looping.{seed_shows, seed_passes, seeds_end}

module _ (o : WalkOptions) (goal : Goal) where
  -- the seed that is found shows the goal
  pub found_shows : (seed left x : ℕ) → first_seed o goal seed left ≡ Some x → finds o goal x ≡ true
  found_shows seed zero x found = none_found (sym (seeds_end o goal seed zero refl) ∙ found)
    where
      none_found : None ≡ Some x → finds o goal x ≡ true
      none_found e = grind arith
  found_shows seed (suc left) x found = go (finds o goal seed) refl (found_shows (seed + 1) left x)
    where
      go : (h : Bool) → finds o goal seed ≡ h → (first_seed o goal (seed + 1) left ≡ Some x → finds o goal x ≡ true) →
          finds o goal x ≡ true
      go true shown rest =
          let same : seed ≡ x = some-same seed x (sym (seed_shows o goal seed (suc left) left (omega arith) shown) ∙ found) in
          subst (λ s. finds o goal s ≡ true) same shown
      go false shown rest = rest (sym (seed_passes o goal seed (suc left) left (omega arith) shown) ∙ found)
