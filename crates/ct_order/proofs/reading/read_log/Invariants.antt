use Rattle.std.proofs.Common.{◌≡◌, ℕ, List, Some}
use Rattle.ct_order.proofs.Files.{IsReadOn}
use Rattle.ct_order.proofs.reading.read_log.Given as goal

abbrev pub invariant-loop-turn : goal.invariant-loop-turn
invariant-loop-turn g l = record {
  same : g.R.Source.failures l.reader ≡ g.R.Source.failures l.fn.reader;
  read : (text : List ℕ) → g.R.Source.left l.fn.reader ≡ Some text →
      IsReadOn l.log l.fn.table text (g.R.Source.left l.reader) l.scan l.table;
}
