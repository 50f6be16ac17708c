use Rattle.std.proofs.Common.{◌≡◌, length}
use Rattle.ct_streams.proofs.Fronts.{WroteFront}
use Rattle.ct_streams.proofs.writing.write_all.Given as goal

abbrev pub invariant-loop-rest : goal.invariant-loop-rest
invariant-loop-rest g l = record {
  wrote : WroteFront (g.W.Sink.written l.fn.writer) (g.W.Sink.written l.writer) l.rest l.fn.bytes;
  same : g.W.Sink.failures l.writer ≡ g.W.Sink.failures l.fn.writer;
}

abbrev pub decreases-loop-rest : goal.decreases-loop-rest
decreases-loop-rest g l = length l.rest
