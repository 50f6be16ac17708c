use Rattle.std.proofs.Common.{◌≡◌, ◌++◌}
use Rattle.std.specs.Prelude.{drop, map, nat_lt, string_bytes}
use Rattle.std.specs.List.{join_with_byte}
use Rattle.ct_text.proofs.Joins.{rest_of}
use Rattle.ct_print.specs.Reports.{name_text}
use Rattle.ct_print.proofs.reports.push_some_names.Given as goal

abbrev pub invariant-loop-i : goal.invariant-loop-i
invariant-loop-i l = string_bytes l.text ++ rest_of l.separator (nat_lt 0 l.i) (drop l.i (map name_text l.names))
    ≡ string_bytes l.fn.text ++ join_with_byte l.separator (map name_text l.names)
