-- The replay of a record each of whose steps was allowed where it stands is refused for no cause.
use Rattle.ct_embed.proofs.Common.{◌≡◌, ℕ, length, get_or, inl, inr, Refusal, Rehearsal, AllowsFirst, IsFaultOf, first_steps}
use Rattle.std.proofs.Common.{◌⊎◌, zero, suc, List, Some, None}
use Rattle.std.specs.Prelude.{slice_get}
use Rattle.core.proofs.iter.runs.Lists.{nth_read}
use Rattle.ct_names.specs.declared.command.Command.TheVariants.{Set}
use Rattle.ct_names.specs.declared.refusal.Refusal.TheVariants.{OutOfMemory, Board}
use Rattle.ct_model.specs.declared.step.Step.{Step}
use Rattle.ct_model.specs.declared.step.Step.TheVariants.{Submit}
use Rattle.ct_model.specs.Cause.{cause}
use Rattle.ct_model.specs.Setting.{Setting}
use Rattle.ct_world.specs.Posting.{IsRefusal}

-- a step without a cause is refused for want of memory, or by the board
spared : (w : Rehearsal) (step : Step) (refusal : Refusal) → cause w step ≡ None → IsRefusal w step refusal →
    (refusal ≡ OutOfMemory) ⊎ (refusal ≡ Board)
spared w step refusal allowed h = elim h [
  | inl why ↦ inl (rw allowed at why)
  | inr board ↦ inr board.named
]

spared_all : (s : Setting) (cells : ℕ) (steps : List Step) (at : ℕ) (refusal : Refusal) → AllowsFirst s cells steps (length steps) →
    IsFaultOf s cells steps at refusal → (refusal ≡ OutOfMemory) ⊎ (refusal ≡ Board)
spared_all s cells steps zero refusal allowed h = inl h
spared_all s cells steps (suc i) refusal allowed h =
    let step : Step = get_or steps i (Submit 0 (Set 0 0)) in
    let there : slice_get steps i ≡ Some step = nth_read steps i (Submit 0 (Set 0 0)) h.within in
    spared (first_steps s cells steps i) step refusal (allowed i step h.within there) (h.refused step there)

-- the replay of its record is refused for want of memory, or by the board
pub spared_copy : (w : Rehearsal) (members cells bound : ℕ) (steps : List Step) (at : ℕ) (refusal : Refusal) →
    AllowsFirst w.setting w.cells w.steps (length w.steps) → members ≡ w.setting.members → cells ≡ w.cells → bound ≡ w.setting.bound →
    steps ≡ w.steps → IsFaultOf (record { members = members; bound = bound }) cells steps at refusal →
    (refusal ≡ OutOfMemory) ⊎ (refusal ≡ Board)
spared_copy w members cells bound steps at refusal allowed same_members same_cells same_bound same_steps fault =
    spared_all w.setting w.cells w.steps at refusal allowed (rw (same_members, same_bound, same_cells, same_steps) at fault)
