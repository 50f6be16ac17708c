use Rattle.ct_json.proofs.Common.{◌-◌, ◌++◌, map, string_bytes, counting, fields_text, register_value, table_fields}
use Rattle.ct_json.proofs.Left.{IsLeft}
use Rattle.ct_json.proofs.report.push_table.Given as goal

abbrev pub invariant-loop-register : goal.invariant-loop-register
invariant-loop-register l =
    IsLeft (map (register_value l.table) (counting l.register (16 - l.register))) l.later (string_bytes l.text)
    (string_bytes l.fn.text ++ fields_text (table_fields l.table))
