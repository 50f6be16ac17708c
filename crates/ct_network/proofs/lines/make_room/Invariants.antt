use Rattle.std.proofs.Common.{◌≡◌, ℕ, length}
use Rattle.ct_network.specs.Lines.{serials_of, HaveFirstRoom, HaveRoom}
use Rattle.ct_network.proofs.lines.make_room.Given as goal

abbrev pub invariant-loop-i : goal.invariant-loop-i
invariant-loop-i l = record {
  as_many : length l.lines.items ≡ length l.fn.lines.items;
  same : serials_of l.lines.items ≡ serials_of l.fn.lines.items;
  done : HaveFirstRoom l.i l.lines.items l.fn.more;
  kept : (least : ℕ) → HaveRoom l.fn.lines.items least → HaveRoom l.lines.items least;
}
