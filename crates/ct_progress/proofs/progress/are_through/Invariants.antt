use Rattle.std.proofs.Common.{◌≡◌, ℕ, true}
use Rattle.ct_names.specs.Group.{IsMember}
use Rattle.ct_progress.specs.Progress.{is_through}
use Rattle.ct_progress.proofs.progress.are_through.Given as goal

abbrev pub invariant-loop-i : goal.invariant-loop-i
invariant-loop-i l = (q : ℕ) → IsMember l.i q → is_through l.world.rehearsal l.count q ≡ true
