use Rattle.std.proofs.Common.{◌≡◌, drop}
use Rattle.std.specs.Prelude.{string_bytes}
use Rattle.ct_judge.specs.Sessions.{after_bytes, said_by}
use Rattle.ct_judge.proofs.Hearing.{IsAnswering}
use Rattle.ct_judge.proofs.interacting.hear.Given as goal

abbrev pub invariant-loop-byte : goal.invariant-loop-byte
invariant-loop-byte g l = record {
  after : after_bytes l.fn.session l.bytes ≡ after_bytes l.session (drop l.byte-index l.bytes);
  said : IsAnswering (g.W.Sink.written l.fn.writer) (g.W.Sink.written l.writer) (string_bytes l.answers)
      (said_by l.session (drop l.byte-index l.bytes)) (said_by l.fn.session l.bytes);
  same : g.W.Sink.failures l.writer ≡ g.W.Sink.failures l.fn.writer;
}
