use Rattle.std.proofs.Common.{◌<◌, length, ◌∙◌, arith}
use Rattle.std.proofs.lemmas.List.{length-set}
use Rattle.ct_network.proofs.Waiting.{serials-same, room-kept, room-more}
use Rattle.ct_network.proofs.lines.make_room.Goals as goal

pub returns-in_err-make_room-clause-same : goal.returns-in_err-make_room-clause-same
returns-in_err-make_room-clause-same c =
    let v = c.loop-i.invariant in
    serials-same c.loop-i.lines.items c.loop-i.i c.index_mut-line.result.now c.make_room.new.self (omega (arith, v.as_many))
    c.index_mut-line.ensures.value c.make_room.ensures.same ∙ v.same

pub returns-in_err-make_room-clause-room : goal.returns-in_err-make_room-clause-room
returns-in_err-make_room-clause-room c least room =
    let v = c.loop-i.invariant in
    room-kept c.loop-i.lines.items c.loop-i.i least c.index_mut-line.result.now c.make_room.new.self (omega (arith, v.as_many))
    c.index_mut-line.ensures.value c.make_room.ensures.room (v.kept least room)

pub loop-i-preserved : goal.loop-i-preserved
loop-i-preserved c =
    let v = c.loop-i.invariant in
    let lines = c.loop-i.lines.items in
    let within : c.loop-i.i < length lines = omega (arith, v.as_many) in
    record {
      as_many = length-set lines c.loop-i.i c.make_room.new.self ∙ v.as_many;
      same = serials-same lines c.loop-i.i c.index_mut-line.result.now c.make_room.new.self within c.index_mut-line.ensures.value
          c.make_room.ensures.same ∙ v.same;
      done = room-more lines c.loop-i.i c.args.more c.make_room.new.self within v.done c.in_ok-make_room.ensures.ok;
      kept = λ least room. room-kept lines c.loop-i.i least c.index_mut-line.result.now c.make_room.new.self within
          c.index_mut-line.ensures.value c.make_room.ensures.room (v.kept least room);
    }
