use Rattle.std.specs.Prelude.{◌≡◌, ◌++◌, codes, decimal, string_bytes}
use Rattle.ct_names.specs.MemberSet.{has_member}
use Rattle.ct_print.specs.Members.{set_text}
use Rattle.ct_print.proofs.Loops.{listed, left}
use Rattle.ct_print.proofs.members.push_set.Given as goal

abbrev pub invariant-loop-i : goal.invariant-loop-i
invariant-loop-i l =
    string_bytes l.text ++ listed (codes ",") l.later (left (has_member l.set) decimal l.i) ≡ string_bytes l.fn.text ++ set_text l.set
