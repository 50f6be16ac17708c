use Rattle.std.proofs.Common.{◌≡◌, ◌+◌, ◌<◌, ◌++◌, ◌∷◌, [], true, ℕ, List, map, subst, sym, ap, ◌∙◌, arith}
use Rattle.std.specs.Prelude.{is_ok, vec_len, vec_capacity}
use Rattle.ct_model.specs.declared.wire.Wire.{Wire}
use Rattle.ct_network.specs.EnvelopeList.{EnvelopeList}
use Rattle.ct_network.specs.declared.packed.Packed.{Packed}
use Rattle.ct_network.specs.Packed.{are_readable, envelope_of}
use Rattle.ct_network.proofs.Packing.{room_for, readable-append, envelopes-append}
use Rattle.ct_network.proofs.envelopes.Envelopes.add_one.Goals as goal

pushed : (c : goal.After-push) → is_ok c.push.result ≡ true
pushed c =
    let now = c.self.inside in
    c.push.ensures.succeeds (omega (
      arith,
      room_for (vec_len now.wires) (vec_capacity now.wires) (vec_len now.packed)
          (vec_capacity now.packed) 1 (subst (λ (v : EnvelopeList). 0 < v.room) (sym c.self.view_is) c.requires.room),
    ))

pub invariant_of-self : goal.invariant_of-self
invariant_of-self c =
    let now = c.self.inside in
    let ok : is_ok c.push.result ≡ true = pushed c in
    let number : vec_len c.push.new.self ≡ vec_len now.packed + 1 = rw ok at c.push.ensures.len in
    let n = vec_len c.shorten-wire.new.wires in
    let more : List Packed = record { to = c.args.to; wire = c.shorten-wire.result } ∷ [] in
    let readable : are_readable n more ≡ true = grind (arith, c.shorten-wire.ensures.readable) in (
      ap (are_readable n) (rw ok at c.push.ensures.items)
          ∙ readable-append (vec_len now.wires) n now.packed.items more c.shorten-wire.ensures.longer c.self.invariant.0 readable,
      omega (arith, c.self.invariant.1, c.shorten-wire.ensures.by_one, number),
    )

pub returns : goal.returns
returns c =
    let now = c.self.inside in
    let ok : is_ok c.push.result ≡ true = pushed c in
    ap (map (envelope_of c.shorten-wire.new.wires.items)) (rw ok at c.push.ensures.items)
    ∙ envelopes-append now.wires.items c.shorten-wire.new.wires.items (vec_len now.wires) c.shorten-wire.ensures.others
    now.packed.items (record { to = c.args.to; wire = c.shorten-wire.result } ∷ []) (record { to = c.args.to; wire = c.args.wire } ∷ [])
    c.self.invariant.0 (ap (λ (w : Wire ℕ). record { to = c.args.to; wire = w } ∷ []) c.shorten-wire.ensures.wire)
    ∙ ap (λ (v : EnvelopeList). v.items ++ record { to = c.args.to; wire = c.args.wire } ∷ []) c.self.view_is
