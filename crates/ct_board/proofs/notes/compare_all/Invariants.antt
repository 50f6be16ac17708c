use Rattle.std.proofs.Common.{◌≡◌, ◌<◌, ℕ}
use Rattle.ct_names.specs.Batch.{Batch}
use Rattle.ct_board.specs.Known.{Knows}
use Rattle.ct_board.specs.Notes.{known_of}
use Rattle.ct_board.proofs.notes.compare_all.Given as goal

abbrev pub invariant-loop-place : goal.invariant-loop-place
invariant-loop-place l = record {
  mine : l.mine.items ≡ l.initial.mine.items;
  theirs : l.theirs.items ≡ l.initial.theirs.items;
  same : (k : ℕ) (x y : Batch) → k < l.place → Knows (known_of l.initial.mine.items) k x → Knows (known_of l.initial.theirs.items) k y →
      x ≡ y;
}
