-- Tests that refuse a step.
use Rattle.std.specs.Prelude.{Bool, if◌then◌else◌, List, [], ◌∷◌, Option, Some, None}
use Rattle.ct_names.specs.declared.refusal.Refusal.{Refusal}

-- a refusal and whether it comes
pub record Test : Type 0 where
  pub fires : Bool
  pub refusal : Refusal

abbrev pub at : Refusal → Bool → Test
at refusal fires = record { fires = fires; refusal = refusal }

-- the refusal of the first test that fires
abbrev pub first_fault : List Test → Option Refusal
first_fault [] = None
first_fault (test ∷ tests) = if test.fires then Some test.refusal else first_fault tests
