use Rattle.std.proofs.Common.{◌<◌, ◌∙◌, length, map, sym, arith}
use Rattle.std.proofs.lemmas.List.{get_or-map, length-map, same_lists}
use Rattle.ct_merge.specs.Proposers.{line_in}
use Rattle.ct_logs.proofs.places.name_in.Goals as goal

pub returns : goal.returns
returns c =
    let old = c.args.log.now in
    let f = line_in c.args.group in
    same_lists c.loop-line.log (map f old) (c.loop-line.invariant.size ∙ sym (length-map old f)) (λ k d lt.
    let within : k < length old = omega (arith, lt, c.loop-line.invariant.size) in
    let below : k < c.loop-line.line-index = omega (arith, lt) in
    c.loop-line.invariant.named k d below ∙ sym (get_or-map f old k d d within))
