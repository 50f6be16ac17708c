-- Suspicions among steps, and the first seed of a search.
use Rattle.std.specs.Prelude.{◌≡◌, ◌<◌, ◌≤◌, ℕ, Bool, true, false, List, [], ◌∷◌, ⊤}
use Rattle.ct_model.specs.declared.step.Step.{Step}
use Rattle.ct_model.specs.declared.step.Step.TheVariants.{Suspect}
use Rattle.ct_grammar.specs.declared.goal.Goal.{Goal}
use Rattle.ct_walk.specs.Finding.{finds}
use Rattle.ct_walk.specs.declared.call.Seeds.{Seeds}
use Rattle.ct_walk.specs.declared.options.WalkOptions.{WalkOptions}

abbrev pub is_suspicion : Step → Bool
is_suspicion (Suspect p) = true
is_suspicion step = false

-- none of them is a suspicion
abbrev pub HaveNoSuspicion : List Step → Type 0
HaveNoSuspicion [] = ⊤
HaveNoSuspicion (step ∷ steps) = (is_suspicion step ≡ false) × HaveNoSuspicion steps

-- no seed from the first one on, below this one, has a walk that shows the goal
abbrev pub NoneBelow : WalkOptions → Goal → (first end : ℕ) → Type 0
NoneBelow o goal first end = (seed : ℕ) → first ≤ seed → seed < end → finds o goal seed ≡ false

-- the seed is one of these, its walk shows the goal, and none before it does
pub record IsLeast (o : WalkOptions) (goal : Goal) (seeds : Seeds) (seed : ℕ) : Type 0 where
  pub from : seeds.first ≤ seed
  pub to : seed ≤ seeds.last
  pub shows : finds o goal seed ≡ true
  pub none : NoneBelow o goal seeds.first seed
