use Rattle.std.proofs.Common.{◌∙◌}
use Rattle.ct_streams.proofs.Fronts.{wrote_range}
use Rattle.ct_streams.proofs.writing.write_all.Goals as goal

pub loop-rest-preserved : goal.loop-rest-preserved
loop-rest-preserved g c = record {
  wrote = wrote_range _ _ _ c.in_ok-n.n c.loop-rest.rest.now c.args.bytes.now c.loop-rest.invariant.wrote c.in_ok-n.ensures.bytes;
  same = c.in_ok-n.ensures.ok ∙ c.loop-rest.invariant.same;
}
