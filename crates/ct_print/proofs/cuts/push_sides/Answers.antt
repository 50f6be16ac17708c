use Rattle.std.proofs.Common.{◌++◌, List, ℕ, ap, ◌∙◌, arith, map, filter, ◌+◌}
use Rattle.std.specs.Prelude.{codes, string_bytes}
use Rattle.ct_names.specs.Group.{everyone}
use Rattle.ct_print.specs.Cuts.{is_own, side_text, sides_text}
use Rattle.ct_print.proofs.Loops.{listed, left_all, all_barred, is_another, is_the_number, one_written, none_written, all_written}
use Rattle.ct_print.proofs.cuts.push_sides.Goals as goal
use Rattle.ct_print.proofs.cuts.push_sides.Goals.{then-side-member+in_ok-push_between+in_ok-push_side, else-side-member}

pub loop-i-init : goal.loop-i-init
unfolding sides_text
loop-i-init c =
    let sides = c.args.sides.now in
    ap (λ (t : List ℕ). string_bytes c.args.text.now ++ t)
    (ap (listed (codes " | ") _) (left_all (is_own sides) (side_text sides))
    ∙ all_barred (map (side_text sides) (filter (is_own sides) everyone)))

pub loop-i-preserved : goal.loop-i-preserved
loop-i-preserved c =
    let sides = c.args.sides.now in
    elim c.if-side-member.branch [
      | then-side-member+in_ok-push_between+in_ok-push_side w ↦
          rw (w.text-is, w.later-is) (one_written (codes " | ") (is_own sides) (side_text sides) c.loop-i.i _ _ _ _ _ c.loop-i.invariant
          c.loop-i-test.true (is_the_number _ _ (c.loop-i.i + 1) c.side.ensures w.if-side-member.true)
          w.in_ok-push_between.ensures w.in_ok-push_side.ensures)
      | else-side-member w ↦
          rw (w.text-is, w.later-is) (none_written (codes " | ") (is_own sides) (side_text sides) c.loop-i.i _ _ _ c.loop-i.invariant
          c.loop-i-test.true (is_another _ _ (c.loop-i.i + 1) c.side.ensures w.if-side-member.false))
    ]

pub returns : goal.returns
returns c =
    all_written (codes " | ") (is_own c.args.sides.now) (side_text c.args.sides.now) c.loop-i.i c.loop-i.later _ _ c.loop-i.invariant
    (omega (arith, c.loop-i-test.false, c.loop-i.auto.i-end))
