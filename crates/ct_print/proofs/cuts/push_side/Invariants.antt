use Rattle.std.specs.Prelude.{◌≡◌, ◌++◌, true, codes, decimal, string_bytes}
use Rattle.ct_print.specs.Cuts.{is_other, side_text}
use Rattle.ct_print.proofs.Loops.{listed, left}
use Rattle.ct_print.proofs.cuts.push_side.Given as goal

abbrev pub invariant-loop-i : goal.invariant-loop-i
invariant-loop-i l =
    string_bytes l.text ++ listed (codes ",") true (left (is_other l.sides l.side) decimal l.i)
    ≡ string_bytes l.fn.text ++ side_text l.sides l.side
