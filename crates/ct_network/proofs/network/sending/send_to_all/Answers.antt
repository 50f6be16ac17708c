use Rattle.std.proofs.Common.{◌≡◌, ◌+◌, ◌-◌, ◌<◌, ◌≤◌, length, get_or, refl, ap, ◌∙◌, subst, arith}
use Rattle.std.proofs.lemmas.List.{length-set}
use Rattle.ct_network.specs.WaitingLine.{WaitingLine}
use Rattle.ct_network.proofs.Waiting.{room-more}
use Rattle.ct_network.proofs.Joins.{HaveJoined, join_more, join_rest, joined_all}
use Rattle.ct_network.proofs.network.sending.send_to_all.Goals as goal

pub loop-i-init : goal.loop-i-init
loop-i-init c = record {
  as_many = refl;
  done = λ k d h. absurd (omega arith);
  room = λ least room k d h. absurd (omega arith);
  rest = λ k d h. refl;
}

pub loop-i-preserved : goal.loop-i-preserved
loop-i-preserved c =
    let v = c.loop-i.invariant in
    let i = c.loop-i.i in
    let base = c.len-before.result in
    let lines = c.args.lines.now.items in
    let new = c.join.new.self in
    let within : i < length lines = omega (arith, v.as_many) in
    record {
      as_many = length-set c.loop-i.lines.items i new ∙ v.as_many;
      done = join_more lines c.loop-i.lines.items i base new v.as_many within v.done v.rest c.index_mut-line.result.now (base + i + 1)
          c.index_mut-line.ensures.value c.join.ensures.serials refl;
      room = λ least room.
          let x = c.index_mut-line.result.now in
          let had : least ≤ (get_or lines i x).room = room i x within in
          let is : x.room ≡ (get_or lines i x).room = ap (λ (l : WaitingLine). l.room)
          (c.index_mut-line.ensures.value ∙ v.rest i x (omega arith)) in
          room-more c.loop-i.lines.items i (least - 1) new (omega (arith, v.as_many, within)) (v.room least room)
          (omega (arith, c.join.ensures.room));
      rest = join_rest lines c.loop-i.lines.items i base new v.as_many within v.done v.rest;
    }

pub returns-clause-joined : goal.returns-clause-joined
returns-clause-joined c =
    let lines = c.args.lines.now.items in
    let v = c.loop-i.invariant in
    joined_all lines c.loop-i.lines.items (length c.args.sent.now.items) c.args.wire v.as_many
    (λ k d h. subst (λ base. HaveJoined lines c.loop-i.lines.items base c.loop-i.i) c.len-before.ensures v.done k d (omega arith))

pub returns-clause-room : goal.returns-clause-room
returns-clause-room c least room k d h =
    let v = c.loop-i.invariant in
    v.room least room k d (omega (arith, v.as_many))
