use Rattle.std.proofs.Common.{◌++◌, List, ℕ, ap, sym, ◌∙◌, arith, map}
use Rattle.std.specs.Prelude.{codes, decimal, string_bytes}
use Rattle.ct_names.specs.MemberSet.{has_member}
use Rattle.ct_print.specs.Members.{set_text}
use Rattle.ct_print.proofs.Loops.{listed, left_all, all_joined, one_written, none_written, all_written}
use Rattle.ct_print.proofs.members.push_set.Goals as goal
use Rattle.ct_print.proofs.members.push_set.Goals.{then-contains+in_ok-push_between+in_ok-write, else-contains}

pub loop-i-init : goal.loop-i-init
unfolding set_text
loop-i-init c =
    ap (λ (t : List ℕ). string_bytes c.args.text.now ++ t)
    (ap (listed (codes ",") _) (left_all (has_member c.args.set) decimal ∙ ap (map decimal) (sym c.len.ensures.members))
    ∙ all_joined (map decimal c.args.set))

pub loop-i-preserved : goal.loop-i-preserved
loop-i-preserved c =
    elim c.if-contains.branch [
      | then-contains+in_ok-push_between+in_ok-write w ↦
          rw (w.text-is, w.later-is) (one_written (codes ",") (has_member c.args.set) decimal c.loop-i.i _ _ _ _ _ c.loop-i.invariant
          c.loop-i-test.true (sym c.contains.ensures.value ∙ w.if-contains.true) w.in_ok-push_between.ensures w.in_ok-write.ensures.bytes)
      | else-contains w ↦
          rw (w.text-is, w.later-is) (none_written (codes ",") (has_member c.args.set) decimal c.loop-i.i _ _ _ c.loop-i.invariant
          c.loop-i-test.true (sym c.contains.ensures.value ∙ w.if-contains.false))
    ]

pub returns : goal.returns
returns c =
    all_written (codes ",") (has_member c.args.set) decimal c.loop-i.i c.loop-i.later _ _ c.loop-i.invariant
    (omega (arith, c.loop-i-test.false, c.loop-i.auto.i-end))
