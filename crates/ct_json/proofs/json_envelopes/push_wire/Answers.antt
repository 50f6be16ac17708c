use Rattle.ct_json.proofs.Common.{append-nil, List, [], ◌∷◌, ◌++◌, codes, string_bytes, num, Field, messages_at, estimate_fields}
use Rattle.json.proofs.OnLiterals.{json_on_literals}
use Rattle.ct_json.specs.JsonEnvelopes.{vote_fields, wire_fields}
use Rattle.ct_json.proofs.Fields.{then_last}
use Rattle.ct_json.proofs.json_envelopes.push_wire.Goals as goal

pub returns-in_ok-write-in-Est : goal.returns-in_ok-write-in-Est
unfolding wire_fields vote_fields json_on_literals
returns-in_ok-write-in-Est c =
    let e = c.in-Est in
    let head : List Field = vote_fields (codes "Est") e.instance e.round ++ (codes "from", num e.from) ∷ [] in
    rw e.is (then_last c.push_estimate.result head (estimate_fields c.args.value.now e.ts) (string_bytes c.args.text.now) _ _
    (rw append-nil c.in_ok-write-in-Est.ensures.bytes) c.push_estimate.ensures)

pub returns-in_ok-write-in-Prop : goal.returns-in_ok-write-in-Prop
unfolding wire_fields vote_fields json_on_literals
returns-in_ok-write-in-Prop c =
    let e = c.in-Prop in
    let value = messages_at (codes "value") c.args.value.now in
    rw e.is (then_last c.push_messages_at.result (vote_fields (codes "Prop") e.instance e.round) value (string_bytes c.args.text.now) _ _
    (rw append-nil c.in_ok-write-in-Prop.ensures.bytes) c.push_messages_at.ensures)

pub returns-in_ok-write-in-Dec : goal.returns-in_ok-write-in-Dec
unfolding wire_fields vote_fields json_on_literals
returns-in_ok-write-in-Dec c =
    let e = c.in-Dec in
    let value = messages_at (codes "value") c.args.value.now in
    rw e.is (then_last c.push_messages_at-in-Dec.result (vote_fields (codes "Dec") e.instance e.round) value
    (string_bytes c.args.text.now) _ _
    (rw append-nil c.in_ok-write-in-Dec.ensures.bytes) c.push_messages_at-in-Dec.ensures)

pub returns-in-Ack : goal.returns-in-Ack
unfolding wire_fields vote_fields json_on_literals
returns-in-Ack c = rw (c.in-Ack.is, append-nil) c.write-in-Ack.ensures.bytes

pub returns-in-Nack : goal.returns-in-Nack
unfolding wire_fields vote_fields json_on_literals
returns-in-Nack c = rw (c.in-Nack.is, append-nil) c.write-in-Nack.ensures.bytes
