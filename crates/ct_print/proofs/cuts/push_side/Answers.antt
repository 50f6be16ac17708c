use Rattle.std.proofs.Common.{◌++◌, List, ℕ, ap, sym, ◌∙◌, arith, append_assoc, map, filter, true, ◌+◌, refl}
use Rattle.std.specs.Prelude.{codes, decimal, string_bytes}
use Rattle.ct_names.specs.Group.{everyone}
use Rattle.ct_grammar.specs.Words.{Word}
use Rattle.ct_print.specs.Cuts.{is_other, side_text}
use Rattle.ct_print.specs.Members.{set_text}
use Rattle.ct_print.proofs.Loops.{listed, left, left_all, listed_joined, one_written, none_written, all_written}
use Rattle.ct_print.proofs.cuts.push_side.Goals as goal
use Rattle.ct_print.proofs.cuts.push_side.Goals.{then-is_other+in_ok-write-2, else-is_other}

pub loop-i-init : goal.loop-i-init
unfolding side_text set_text
loop-i-init c =
    let old = string_bytes c.args.text.now in
    let others = map decimal (filter (is_other c.args.sides.now c.args.side) everyone) in
    ap (λ (t : List ℕ). t ++ listed (codes ",") true (left (is_other c.args.sides.now c.args.side) decimal 0)) c.in_ok-write.ensures.bytes
    ∙ (append_assoc old (decimal c.args.side) (listed (codes ",") true (left (is_other c.args.sides.now c.args.side) decimal 0))
    ∙ ap (λ (t : List ℕ). old ++ t)
    (ap (λ (ts : List Word). decimal c.args.side ++ listed (codes ",") true ts) (left_all (is_other c.args.sides.now c.args.side) decimal)
    ∙ listed_joined (decimal c.args.side) others))

pub loop-i-preserved : goal.loop-i-preserved
loop-i-preserved c =
    let test = is_other c.args.sides.now c.args.side in
    let old = string_bytes c.loop-i.text in
    elim c.if-is_other.branch [
      | then-is_other+in_ok-write-2 w ↦
          rw w.text-is (one_written (codes ",") test decimal c.loop-i.i true old _ (old ++ codes ",") _ c.loop-i.invariant
          c.loop-i-test.true (sym c.is_other.ensures ∙ w.if-is_other.true)
          refl (w.in_ok-write-2.ensures.bytes ∙ sym (append_assoc old (codes ",") (decimal (c.loop-i.i + 1)))))
      | else-is_other w ↦
          rw w.text-is (none_written (codes ",") test decimal c.loop-i.i true old _ c.loop-i.invariant
          c.loop-i-test.true (sym c.is_other.ensures ∙ w.if-is_other.false))
    ]

pub returns : goal.returns
returns c =
    all_written (codes ",") (is_other c.args.sides.now c.args.side) decimal c.loop-i.i true _ _ c.loop-i.invariant
    (omega (arith, c.loop-i-test.false, c.loop-i.auto.i-end))
