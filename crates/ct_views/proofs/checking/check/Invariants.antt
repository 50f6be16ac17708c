use Rattle.std.specs.Prelude.{◌≡◌, map, take}
use Rattle.ct_views.specs.Checking.{Checks}
use Rattle.ct_views.proofs.checking.check.Given as goal

abbrev pub invariant-loop-name : goal.invariant-loop-name
invariant-loop-name g l = record {
  checked : Checks (g.F.Files.bytes l.files) l.options (map (λ name. name.now) (take l.name-index l.names)) (g.W.Sink.written l.fn.writer)
      (g.W.Sink.written l.writer) l.worst;
  same : g.W.Sink.failures l.writer ≡ g.W.Sink.failures l.fn.writer;
}
