use Rattle.std.proofs.Common.{◌≡◌, arith, sym, ◌∙◌, subst}
use Rattle.std.specs.Prelude.{string_bytes}
use Rattle.ct_names.specs.declared.limit.TheConstants.{MAX_MEMBERS}
use Rattle.ct_text.proofs.Pieces.{HasWritten, written_all, written_none}
use Rattle.ct_text.specs.Lists.{first_in}
use Rattle.ct_text.proofs.Listed.{in_set_passed, in_set_written}
use Rattle.ct_text.proofs.lists.push_members_of.Goals as goal
use Rattle.ct_text.proofs.lists.push_members_of.Goals.{then-contains+in_ok-push_separator+in_ok-write, else-contains}

pub loop-i-init : goal.loop-i-init
loop-i-init c = written_none c.args.separator (string_bytes c.args.text.now)

pub loop-i-preserved : goal.loop-i-preserved
loop-i-preserved c =
    elim c.if-contains.branch [
      | then-contains+in_ok-push_separator+in_ok-write w ↦
          rw (w.text-is, w.later-is) (in_set_written c.args.separator c.args.set c.loop-i.i _ _ _ _ _ c.loop-i.invariant
          (sym c.contains.ensures.value ∙ w.if-contains.true) w.in_ok-push_separator.ensures w.in_ok-write.ensures.bytes)
      | else-contains w ↦
          rw (w.text-is, w.later-is) (in_set_passed c.args.separator c.args.set c.loop-i.i _ _ _ c.loop-i.invariant
          (sym c.contains.ensures.value ∙ w.if-contains.false))
    ]

pub returns : goal.returns
returns c =
    let at : c.loop-i.i ≡ MAX_MEMBERS = omega (arith, c.loop-i-test.false, c.loop-i.auto.i-end) in
    let old = string_bytes c.args.text.now in
    written_all c.push_dash.result c.args.separator (first_in c.args.set MAX_MEMBERS) old (string_bytes c.loop-i.text) _ c.loop-i.later
    (subst (λ k. HasWritten c.args.separator (first_in c.args.set k) old (string_bytes c.loop-i.text) c.loop-i.later) at c.loop-i.invariant)
    c.push_dash.ensures
