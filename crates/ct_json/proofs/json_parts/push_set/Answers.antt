use Rattle.ct_json.proofs.Common.{◌+◌, ◌∷◌, [], ap, arith, cond, refl, sym, ◌∙◌, flat_map, string_bytes, counting, num, set_values}
use Rattle.ct_names.specs.Group.{members}
use Rattle.ct_json.specs.JsonParts.{set_value}
use Rattle.ct_json.proofs.Left.{array_left, counting_next, counting_none, flat_end, flat_none, flat_one}
use Rattle.ct_json.proofs.json_parts.push_set.Goals.{then-contains+in_ok-push_separator+in_ok-write, else-contains}
use Rattle.ct_json.proofs.json_parts.push_set.Goals as goal

pub loop-i-init : goal.loop-i-init
unfolding set_value members
loop-i-init c =
    array_left _ (flat_map (set_values c.args.set) (counting 1 16)) (string_bytes c.args.text.now) _ c.in_ok-push_str.ensures.bytes refl

pub loop-i-preserved : goal.loop-i-preserved
loop-i-preserved c =
    let f = set_values c.args.set in
    let i = c.loop-i.i in
    let split = counting_next (i + 1) 16 i c.loop-i-test.true in
    elim c.if-contains.branch [
      | then-contains+in_ok-push_separator+in_ok-write w ↦
          rw (w.text-is, w.later-is) (flat_one _ _ (i + 1) split _ _ _ f (num (i + 1)) _ _ c.loop-i.invariant
          (ap (λ b. cond b (num (i + 1) ∷ []) []) (sym c.contains.ensures.value ∙ w.if-contains.true)) w.in_ok-push_separator.ensures
          w.in_ok-write.ensures.bytes)
      | else-contains w ↦
          rw (w.text-is, w.later-is) (flat_none _ _ (i + 1) split _ _ _ f c.loop-i.invariant
          (ap (λ b. cond b (num (i + 1) ∷ []) []) (sym c.contains.ensures.value ∙ w.if-contains.false)))
    ]

pub returns : goal.returns
returns c =
    flat_end c.push_str-2.result _ (counting_none (c.loop-i.i + 1) 16 c.loop-i.i (omega arith)) _ _ _ _ (set_values c.args.set)
    c.loop-i.invariant c.push_str-2.ensures.bytes
