use Rattle.std.proofs.Common.{◌≡◌, ◌∙◌, ◌<◌, ◌∷◌, length, get_or, slice_get, sym, ap, arith, rules}
use Rattle.ct_abcast.proofs.Parts.{joined-parts, part-at, start-before}
use Rattle.ct_abcast.proofs.delivered.Delivered.get.Goals as goal
use Rattle.ct_abcast.proofs.delivered.Delivered.get.Goals.{then-place-eq0, else-place-eq0}

pub returns : goal.returns
returns c =
    let ends = c.self.inside.ends.items in
    let list = c.self.inside.messages.keys in
    let there : c.args.place < length ends = search rules in
    let start_is : c.if-place-eq0.start ≡ get_or (0 ∷ ends) c.args.place 0 = elim c.if-place-eq0.branch [
      | then-place-eq0 w ↦ w.start-is ∙ ap (λ k. get_or (0 ∷ ends) k 0) (sym w.if-place-eq0.true)
      | else-place-eq0 w ↦
          start-before ends c.args.place c.if-place-eq0.start (omega (arith, w.if-place-eq0.false)) there (rw w.start-is w.index.ensures)
    ] in
    part-at ends list c.messages.result.now c.args.place c.if-place-eq0.start c.in_ok-end.field-0.now c.get-2.result
    c.self.invariant.ends_there there (grind (arith, joined-parts ends list c.self.invariant.ends_there)) start_is (search rules)
    c.get-2.ensures.lookup
    ∙ ap (λ v. slice_get v.batches c.args.place) c.self.view_is
