use Rattle.std.proofs.Common.{◌≡◌, ℕ, ◌-◌, ◌≤◌, length, get_or}
use Rattle.ct_network.specs.WaitingLine.{WaitingLine}
use Rattle.ct_network.specs.Lines.{HaveFirstRoom, HaveRoom}
use Rattle.ct_network.proofs.Joins.{HaveJoined}
use Rattle.ct_network.proofs.network.sending.send_to_all.Given as goal

abbrev pub invariant-loop-i : goal.invariant-loop-i
invariant-loop-i l = record {
  as_many : length l.lines.items ≡ length l.fn.lines.items;
  done : HaveJoined l.fn.lines.items l.lines.items l.before l.i;
  room : (least : ℕ) → HaveRoom l.fn.lines.items least → HaveFirstRoom l.i l.lines.items (least - 1);
  rest : (k : ℕ) (d : WaitingLine) → l.i ≤ k → get_or l.lines.items k d ≡ get_or l.fn.lines.items k d;
}
