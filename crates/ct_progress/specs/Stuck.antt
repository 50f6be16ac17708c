-- A world in which nobody can move, and yet not all is done.
use Rattle.std.specs.Prelude.{◌≡◌, ◌⊎◌, ℕ, [], Some, None}
use Rattle.ct_names.specs.Group.{coordinator}
use Rattle.ct_model.specs.Rehearsal.{Rehearsal, state_of, line_of}
use Rattle.ct_model.specs.declared.step.Step.TheVariants.{Suspect}
use Rattle.ct_rest.specs.Rest.{IsUp, IsDone}
use Rattle.ct_world.specs.Driving.{next_local}
use Rattle.ct_choices.specs.Choices.{round_of}

-- p is of the group, and up
abbrev pub IsUpIn : Rehearsal → ℕ → Type 0
IsUpIn w p = IsUp w.setting (state_of w) p

-- no step of its own comes next at p, or its suspicion of the coordinator of its round, which is up
abbrev pub IsHeld : Rehearsal → ℕ → Type 0
IsHeld w p =
    (next_local w p ≡ None) ⊎ ((next_local w p ≡ Some (Suspect p)) × IsUpIn w (coordinator w.setting.members (round_of w p)))

-- at those that are up nothing waits, and each of them is held so; yet not all is done
pub record IsStuck (w : Rehearsal) : Type 0 where
  pub nothing : (p : ℕ) → IsUpIn w p → line_of w p ≡ []
  pub held : (p : ℕ) → IsUpIn w p → IsHeld w p
  pub undone : ((p q : ℕ) → IsUpIn w p → IsUpIn w q → IsDone (state_of w) p q) → ⊥
