use Rattle.std.proofs.Common.{◌≡◌, length}
use Rattle.ct_board.proofs.board.Board.new.Given as goal

abbrev pub invariant-loop : goal.invariant-loop
invariant-loop l = length l.row.items ≡ l.counter
