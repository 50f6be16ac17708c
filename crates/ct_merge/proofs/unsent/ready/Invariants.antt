use Rattle.std.proofs.Common.{◌≡◌, ℕ, false, true}
use Rattle.ct_names.specs.Group.{is_member}
use Rattle.ct_merge.specs.Merging.{count_of}
use Rattle.ct_merge.specs.Standstills.{is_refused}
use Rattle.ct_merge.specs.Waits.{WaitsAt}
use Rattle.ct_merge.proofs.unsent.ready.Given as goal

abbrev pub invariant-loop-i : goal.invariant-loop-i
invariant-loop-i l = ((p : ℕ) → is_member l.i p ≡ true → is_refused l.refused p (count_of l.progress.counts p) ≡ false →
    WaitsAt l.logs l.progress p)
