use Rattle.std.proofs.Common.{◌≡◌, ◌∙◌, sym, ap, arith}
use Rattle.ct_settled.proofs.Crashed.{all_crashed, crashed_to, none_crashed, none_more, one_crashed}
use Rattle.ct_settled.proofs.completing.crashed.Goals as goal
use Rattle.ct_settled.proofs.completing.crashed.Goals.{then-crashed, else-crashed}

pub loop-i-init : goal.loop-i-init
loop-i-init c = c.new-set.ensures ∙ sym (none_crashed c.args.world.now.rehearsal)

pub loop-i-preserved : goal.loop-i-preserved
loop-i-preserved c =
    let w = c.args.world.now.rehearsal in
    elim c.if-crashed.branch [
      | then-crashed t ↦ let e = one_crashed w c.loop-i.i (sym c.crashed.ensures ∙ t.if-crashed.true) in cc
      | else-crashed t ↦ let e = none_more w c.loop-i.i (sym c.crashed.ensures ∙ t.if-crashed.false) in cc
    ]

pub returns : goal.returns
returns c =
    let same : c.loop-i.i ≡ c.n-i-end.result = omega arith in
    c.loop-i.invariant
    ∙ (ap (crashed_to c.args.world.now.rehearsal) (same ∙ c.n-i-end.ensures.value ∙ c.group.ensures)
    ∙ all_crashed c.args.world.now.rehearsal)
