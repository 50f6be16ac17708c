use Rattle.std.proofs.Common.{ℕ, ◌≤◌, length}
use Rattle.ct_model.specs.Rehearsal.{state_of}
use Rattle.ct_model.specs.Safe.{delivered_by}
use Rattle.ct_enact.proofs.checking.is_longest.Given as goal

abbrev pub invariant-loop-place : goal.invariant-loop-place
invariant-loop-place l = (p : ℕ) → 1 ≤ p → p ≤ l.place → length (delivered_by (state_of l.world.rehearsal) p) ≤ l.most
