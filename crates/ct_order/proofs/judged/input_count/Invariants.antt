use Rattle.std.proofs.Common.{◌≡◌, ◌≤◌, map, take}
use Rattle.ct_order.specs.Ending.{input_count}
use Rattle.ct_order.proofs.judged.input_count.Given as goal

abbrev pub invariant-loop-name : goal.invariant-loop-name
invariant-loop-name l = record {
  count : l.count ≡ input_count (take l.name-index (map (λ name. name.now) l.names));
  few : l.count ≤ l.name-index;
}
