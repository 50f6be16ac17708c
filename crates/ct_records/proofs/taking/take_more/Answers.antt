use Rattle.ct_records.proofs.Common.{◌-◌, ◌∙◌, length, take, drop, arith, length-drop, take_all}
use Rattle.ct_records.proofs.Sources.{done_read}
use Rattle.ct_records.proofs.taking.take_more.Goals as goal

pub returns-clause-done : goal.returns-clause-done
returns-clause-done g c =
    let all = take c.in_ok-end.end c.read_behind.new.piece in
    let used = c.in-Ok.used in
    done_read _ _ _ _ c.args.input.now c.keep.new.self all used (rw c.keep.ensures.count c.in_ok-end.ensures.read)
    c.in-Ok.ensures.taken
    (c.in_ok-keep.ensures.bytes ∙ take_all (length all - used) (drop used all) (omega (arith, length-drop used all)))
