use Rattle.std.proofs.Common.{◌≡◌, ◌++◌, map, sym, ap, ◌∙◌, arith, append-nil}
use Rattle.std.specs.Prelude.{vec_len}
use Rattle.ct_model.specs.Wire.{envelopes}
use Rattle.ct_model.specs.declared.mail.Mail.TheVariants.{All}
use Rattle.ct_network.specs.EnvelopeList.{EnvelopeList}
use Rattle.ct_network.specs.Packed.{are_readable, envelope_of, copies}
use Rattle.ct_network.proofs.Posts.{envelopes-none}
use Rattle.ct_network.proofs.Packing.{readable-append, readable-copies, envelopes-append, envelopes-copies}
use Rattle.ct_network.proofs.envelopes.Envelopes.add_all.Goals as goal

pub invariant_of-self : goal.invariant_of-self
invariant_of-self c =
    let now = c.self.inside in
    let wire = c.shorten-wire.result in
    let wires = c.shorten-wire.new.wires in (
      ap (are_readable (vec_len wires)) c.push_to_all.ensures.packed
          ∙ readable-append (vec_len now.wires) (vec_len wires) now.packed.items (copies c.args.members wire) c.shorten-wire.ensures.longer
          c.self.invariant.0 (readable-copies wire (vec_len wires) c.args.members c.shorten-wire.ensures.readable),
      omega (arith, c.self.invariant.1, c.shorten-wire.ensures.by_one, c.push_to_all.ensures.len, c.if-members-gt0.true),
    )

pub returns-then-members-gt0 : goal.returns-then-members-gt0
returns-then-members-gt0 c =
    let now = c.self.inside in
    let wires = c.shorten-wire.new.wires.items in
    ap (map (envelope_of wires)) c.push_to_all.ensures.packed
    ∙ envelopes-append now.wires.items wires (vec_len now.wires) c.shorten-wire.ensures.others
    now.packed.items (copies c.args.members c.shorten-wire.result) (envelopes c.args.members (All c.args.wire))
    c.self.invariant.0 (envelopes-copies c.shorten-wire.result wires c.args.wire c.args.members c.shorten-wire.ensures.wire)
    ∙ ap (λ (v : EnvelopeList). v.items ++ envelopes c.args.members (All c.args.wire)) c.self.view_is

pub returns-else-members-gt0 : goal.returns-else-members-gt0
returns-else-members-gt0 c =
    let none : c.args.members ≡ 0 = omega arith in
    sym (append-nil c.args.self.now.items)
    ∙ ap (λ es. c.args.self.now.items ++ es) (sym (envelopes-none c.args.wire))
    ∙ ap (λ n. c.args.self.now.items ++ envelopes n (All c.args.wire)) (sym none)
