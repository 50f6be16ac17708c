use Rattle.std.proofs.Common.{refl}
use Rattle.std.proofs.lemmas.Option.{slice_get_read}
use Rattle.ct_enact.specs.Enacted.{IsPlaced}
use Rattle.ct_enact.proofs.Places.{all_before, next_before}
use Rattle.ct_enact.proofs.checking.have_origins.Goals as goal

pub loop-k-preserved : goal.loop-k-preserved
loop-k-preserved c =
    next_before (IsPlaced c.args.table.now) c.args.all.now c.loop-k.k c.index-all-k.result c.loop-k.invariant
    (slice_get_read c.args.all.now _ c.loop-k.k c.index-all-k.result refl c.loop-k-test.true c.index-all-k.is)
    (c.has_origin.ensures c.if-not-has_origin.false)

pub returns : goal.returns
returns c = λ e. all_before (IsPlaced c.args.table.now) c.args.all.now c.loop-k.k c.loop-k.invariant c.loop-k-test.false
