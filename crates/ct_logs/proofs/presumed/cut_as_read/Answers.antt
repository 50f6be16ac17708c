use Rattle.std.proofs.Common.{◌<◌, ◌∙◌, length, refl, arith}
use Rattle.std.proofs.lemmas.List.{length-set}
use Rattle.ct_logs.proofs.Slots.{cut_more, own_lines}
use Rattle.ct_logs.proofs.presumed.cut_as_read.Goals as goal

pub loop-place-init : goal.loop-place-init
loop-place-init c = record { size = refl; first = own_lines c.args.logs.now }

pub loop-place-preserved : goal.loop-place-preserved
loop-place-preserved c =
    let place = c.loop-place.place in
    let lt : place < length c.loop-place.logs = omega arith in
    record {
      size = length-set c.loop-place.logs place c.truncate.new.self ∙ c.loop-place.invariant.size;
      first = cut_more c.loop-place.logs c.args.logs.now place _ _ c.truncate.new.self lt c.truncate.ensures.items
          c.loop-place.invariant.first;
    }
