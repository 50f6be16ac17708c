-- What contracts see of a world with its board, and of a replay that goes step by step.
use Rattle.std.specs.Prelude.{◌≡◌, ℕ, ◌≤◌, List, length, take}
use Rattle.ct_model.specs.declared.step.Step.{Step}
use Rattle.ct_model.specs.Rehearsal.{Rehearsal}
use Rattle.ct_world.specs.Replay.{AllowsFirst, first_steps}

-- the record, and the cells of the board by name
pub record StageView : Type 0 where
  pub rehearsal : Rehearsal
  pub board : List ℕ

-- the whole record, and how many of its steps are done
pub record ReplayView : Type 0 where
  pub whole : Rehearsal
  pub done : ℕ

-- the record of the steps that are done
abbrev pub so_far : ReplayView → Rehearsal
so_far v = first_steps v.whole.setting v.whole.cells v.whole.steps v.done

-- each step that is done was allowed
abbrev pub AllowsDone : ReplayView → Type 0
AllowsDone v = AllowsFirst v.whole.setting v.whole.cells v.whole.steps v.done

-- the first of the steps are those of the record, and each of them was allowed
pub record IsReplaying (w : Rehearsal) (steps : List Step) : Type 0 where
  pub within : length w.steps ≤ length steps
  pub first : w.steps ≡ take (length w.steps) steps
  pub allowed : AllowsFirst w.setting w.cells steps (length w.steps)
