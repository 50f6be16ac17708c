use Rattle.ct_records.proofs.Common.{◌≡◌, ◌≤◌, ◌-◌, Advances}
use Rattle.ct_records.proofs.input.Input.read_up_to.Given as goal

abbrev pub invariant-loop-self : goal.invariant-loop-self
invariant-loop-self g l = record {
  read : Advances (g.R.Source.left l.fn.reader) (g.R.Source.left l.reader) l.fn.self.bytes.items l.self.bytes.items l.fn.self.count
      l.self.count;
  most : l.fn.self.count ≤ l.wanted → l.self.count ≤ l.wanted;
  same : g.R.Source.failures l.reader ≡ g.R.Source.failures l.fn.reader;
}

abbrev pub decreases-loop-self : goal.decreases-loop-self
decreases-loop-self g l = l.wanted - l.self.count
