use Rattle.std.specs.Prelude.{◌≡◌, ◌++◌, codes, string_bytes}
use Rattle.ct_print.specs.Cuts.{is_own, side_text, sides_text}
use Rattle.ct_print.proofs.Loops.{listed, left}
use Rattle.ct_print.proofs.cuts.push_sides.Given as goal

abbrev pub invariant-loop-i : goal.invariant-loop-i
invariant-loop-i l =
    string_bytes l.text ++ listed (codes " | ") l.later (left (is_own l.sides) (side_text l.sides) l.i)
    ≡ string_bytes l.fn.text ++ sides_text l.sides
