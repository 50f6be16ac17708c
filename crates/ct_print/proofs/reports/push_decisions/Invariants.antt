use Rattle.std.proofs.Common.{◌≡◌, ◌++◌}
use Rattle.std.specs.Prelude.{drop, map, nat_lt, string_bytes}
use Rattle.std.specs.List.{join_with_byte}
use Rattle.ct_text.proofs.Joins.{rest_of}
use Rattle.ct_print.specs.Reports.{decision_text}
use Rattle.ct_print.proofs.reports.push_decisions.Given as goal

abbrev pub invariant-loop-i : goal.invariant-loop-i
invariant-loop-i l = string_bytes l.text ++ rest_of 32 (nat_lt 0 l.i) (drop l.i (map decision_text l.decisions))
    ≡ string_bytes l.fn.text ++ join_with_byte 32 (map decision_text l.decisions)
