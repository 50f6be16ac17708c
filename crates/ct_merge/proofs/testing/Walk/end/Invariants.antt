use Rattle.std.proofs.Common.{◌≡◌, ◌<◌, ℕ, true}
use Rattle.ct_names.specs.Group.{is_member}
use Rattle.ct_merge.specs.Expected.{AllHold, expected_of}
use Rattle.ct_merge.specs.Testing.{IsTested}
use Rattle.ct_merge.proofs.testing.Walk.end.Given as goal

abbrev pub invariant-loop-i : goal.invariant-loop-i
invariant-loop-i l = record {
  stage : l.walk.stage ≡ l.fn.self.stage;
  done : (p : ℕ) → is_member l.i p ≡ true → AllHold l.fn.self.stage.rehearsal p (expected_of l.expected p);
  left : (p : ℕ) → l.i < p → is_member l.fn.self.stage.rehearsal.setting.members p ≡ true →
      IsTested l.fn.self.stage.rehearsal (expected_of l.expected p) l.walk p;
}
