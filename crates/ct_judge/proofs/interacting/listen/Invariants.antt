use Rattle.std.proofs.Common.{◌≡◌, ◌<◌, length}
use Rattle.ct_judge.proofs.Hearing.{HasHeard}
use Rattle.ct_judge.proofs.interacting.listen.Given as goal

abbrev pub invariant-loop-i : goal.invariant-loop-i
invariant-loop-i g l = record {
  heard : HasHeard (g.R.Source.left l.fn.reader) (g.R.Source.left l.reader) l.session
      (g.W.Sink.written l.fn.writer) (g.W.Sink.written l.writer) l.i;
  reads : g.R.Source.failures l.reader ≡ g.R.Source.failures l.fn.reader;
  writes : g.W.Sink.failures l.writer ≡ g.W.Sink.failures l.fn.writer;
  room : 0 < length l.block;
}
