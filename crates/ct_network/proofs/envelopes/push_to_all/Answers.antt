use Rattle.std.proofs.Common.{true, ◌≡◌, ◌+◌, ◌++◌, ◌∷◌, [], ap, sym, ◌∙◌, arith, append-nil, append_assoc}
use Rattle.std.specs.Prelude.{is_ok}
use Rattle.ct_network.specs.Packed.{copies}
use Rattle.ct_network.proofs.Packing.{copies-none, copies-more}
use Rattle.ct_network.proofs.envelopes.push_to_all.Goals as goal

pub loop-i-init : goal.loop-i-init
loop-i-init c = record {
  packed = sym (append-nil c.args.packed.now.items) ∙ ap (λ es. c.args.packed.now.items ++ es) (sym (copies-none c.args.wire));
  capacity = omega arith;
  number = omega arith;
}

pub loop-i-preserved : goal.loop-i-preserved
loop-i-preserved c =
    let v = c.loop-i.invariant in
    let i = c.loop-i.i in
    let w = c.args.wire in
    let old = c.args.packed.now.items in
    let ok : is_ok c.push.result ≡ true = c.push.ensures.succeeds (omega (arith, v.capacity, v.number)) in
    record {
      packed =
          rw ok at c.push.ensures.items
          ∙ ap (λ es. es ++ record { to = i + 1; wire = w } ∷ []) v.packed
          ∙ append_assoc old (copies i w) (record { to = i + 1; wire = w } ∷ [])
          ∙ ap (λ es. old ++ es) (sym (copies-more w i));
      capacity = omega (arith, v.capacity, c.push.ensures.capacity);
      number = rw ok at c.push.ensures.len ∙ omega (arith, v.number);
    }
