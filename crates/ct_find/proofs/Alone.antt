-- The walk of the seed that was found shows the goal.
use Rattle.std.specs.Prelude.{Result}
use Rattle.std.proofs.Common.{◌≡◌, ◌∙◌, ℕ, List, Option, Some, Err, arith, inl, inr, refl, subst, sym}
use Rattle.ct_grammar.specs.declared.goal.Goal.{Goal}
use Rattle.ct_walk.specs.declared.call.Seeds.{Seeds}
use Rattle.ct_walk.specs.declared.fault.WalkFault.{WalkFault}
use Rattle.ct_walk.specs.declared.fault.WalkFault.TheVariants as walk
use Rattle.ct_walk.specs.declared.options.WalkOptions.{WalkOptions}
use Rattle.ct_walk.specs.Finding.{first_of}
use Rattle.ct_walk.specs.Options.{with_seed}
use Rattle.ct_walk.specs.Writing.{Misses, WritesWalk, WritesWalkPart}
use Rattle.ct_find.specs.declared.fault.FindFault.{FindFault}
use Rattle.ct_find.specs.declared.fault.FindFault.TheVariants.{Walk}
use Rattle.ct_find.specs.declared.writing.Found.{Found}
use Rattle.ct_find.specs.Writing.{IsOfRun}
use Rattle.ct_find.proofs.Parts.{found_shows}

module _ (o : WalkOptions) (goal : Goal) (seeds : Seeds) (s : ℕ) (found : Some s ≡ first_of o goal seeds) (one : WalkOptions)
    (alone : one ≡ with_seed o s) where
  none_of : (fault : WalkFault) → Misses (with_seed o s) (Some goal) fault → IsOfRun fault
  none_of walk.Memory h = inl (inl refl)
  none_of walk.Board h = inl (inr refl)
  none_of walk.Write h = inr refl
  none_of (walk.NotFound missed) h = absurd (cc (sym (found_shows o goal _ _ s (sym found)) ∙ h.0))

  pub misses_none : (fault : WalkFault) → Misses one (Some goal) fault → IsOfRun fault
  misses_none fault h = none_of fault (subst (λ (x : WalkOptions). Misses x (Some goal) fault) alone h)

  pub writes_found : (old new : Option (List ℕ)) → WritesWalk one (Some goal) old new →
      (seed : ℕ) × (first_of o goal seeds ≡ Some seed) × WritesWalk (with_seed o seed) (Some goal) old new
  writes_found old new h = (s, sym found, subst (λ (x : WalkOptions). WritesWalk x (Some goal) old new) alone h)

  pub writes_part : (old new : Option (List ℕ)) → WritesWalkPart one (Some goal) old new →
      (seed : ℕ) × (first_of o goal seeds ≡ Some seed) × WritesWalkPart (with_seed o seed) (Some goal) old new
  writes_part old new h = (s, sym found, subst (λ (x : WalkOptions). WritesWalkPart x (Some goal) old new) alone h)

-- the same fault
abbrev result_of : WalkFault → Result Found FindFault
result_of fault = Err (Walk fault)

pub fault_same : (a b : WalkFault) → result_of a ≡ result_of b → a ≡ b
fault_same a b same = grind arith
