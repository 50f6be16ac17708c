use Rattle.std.proofs.Common.{◌≡◌, ◌-◌, ◌≤◌, true, false, length, drop, take, ltb, leb, rules, of_calls, subst, sym, ◌∙◌}
use Rattle.std.specs.List.Sorted.{IsPartitionPoint, IsNonDecreasingBy}
use Rattle.std.proofs.lemmas.List.{take_rest}
use Rattle.std.proofs.lemmas.List.Sorted.{IsPartitionPoint-from_clause, IsPartitionedBy-ltb, IsPartitionedBy-leb, IsNonDecreasingBy-drop}
use Rattle.ct_network.specs.Moves.{key_of}
use Rattle.ct_network.proofs.Finding.{parted, not_falling}
use Rattle.ct_network.proofs.moves.Moves.find_by_key.Goals as goal

pub returns : goal.returns
returns c =
    let n = key_of c.args.self.now.keys.items c.args.self.now.base in
    let line = c.args.line.now in
    let from = c.partition_point-from.result in
    let t = c.key-key.result in
    let up = not_falling c.args.self.now.keys.items c.args.self.now.base line c.requires in
    let whole = take_rest line from in
    let rest = subst (IsNonDecreasingBy n) (sym whole) (IsNonDecreasingBy-drop n from line up) in
    c.first_in.ensures
    ∙ parted n c.args.serial t line from c.partition_point-number.result c.key-key.ensures c.partition_point-from.ensures.bound
    (subst (λ xs. c.partition_point-number.result ≤ length xs) whole c.partition_point-number.ensures.bound)
    (IsPartitionPoint-from_clause (λ x. ltb (n x) t) _ _ c.partition_point-from.ensures.partitioned (IsPartitionedBy-ltb n line t up)
    (λ a r q k. search (rules, of_calls)))
    (subst (λ xs. IsPartitionPoint (λ x. leb (n x) t ≡ true) (λ x. leb (n x) t ≡ false) xs c.partition_point-number.result) whole
    (IsPartitionPoint-from_clause (λ x. leb (n x) t) _ _ c.partition_point-number.ensures.partitioned
    (IsPartitionedBy-leb n (take (length line - from) (drop from line)) t rest) (λ a r q k. search (rules, of_calls))))
