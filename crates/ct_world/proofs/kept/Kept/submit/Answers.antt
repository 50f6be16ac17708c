use Rattle.std.proofs.Common.{◌≡◌, ◌+◌, ◌-◌, set, refl, ap, sym, ◌∙◌, arith}
use Rattle.ct_model.specs.Rehearsal.{state_of}
use Rattle.ct_model.specs.State.{submissions}
use Rattle.ct_model.specs.declared.wire.Wire.TheVariants.{Data}
use Rattle.ct_model.proofs.Steps.Submit.{submit_taken}
use Rattle.ct_world.specs.declared.seat.Seat.{Seat}
use Rattle.ct_world.specs.Kept.{rehearsal_of}
use Rattle.ct_world.proofs.Steps.Doing.{does_in, ready_in, seat_in, within_in}
use Rattle.ct_world.proofs.Steps.Submitting.{next_made, good_made, submitted_taken, submit_few, submit_mail, submit_steps}
use Rattle.ct_world.proofs.kept.Kept.submit.Goals as goal
use Rattle.ct_world.proofs.kept.Kept.submit.Goals.{After-index_mut-seat}

pub overflow_sub-member : goal.overflow_sub-member
overflow_sub-member c = (ready_in c.requires.sound c.requires.ready).low

pub index_mut-seat-requires : goal.index_mut-seat-requires
index_mut-seat-requires c = within_in c.args.self.now (ready_in c.requires.sound c.requires.ready)

count : (c : After-index_mut-seat) → c.index_mut-seat.result.now.submitted
    ≡ submissions (state_of (rehearsal_of c.args.self.now)).submitted c.args.member
count c =
    let p = ready_in c.requires.sound c.requires.ready in
    ap (λ (s : Seat). s.submitted) (seat_in c.args.self.now p c.index_mut-seat.ensures.value) ∙ p.world.submitted c.args.member p.in_group

pub overflow_add-seat : goal.overflow_add-seat
overflow_add-seat c =
    let p = ready_in c.requires.sound c.requires.ready in
    let here = count (goal.at.overflow_add-seat c).After-index_mut-seat in
    omega (arith, (submit_taken _ c.args.member c.args.command p.world.lawful p.allowed).few)

pub unwrap-message-requires : goal.unwrap-message-requires
unwrap-message-requires c =
    let p = ready_in c.requires.sound c.requires.ready in
    good_made c.new.result _ c.args.command c.new.ensures (submit_taken _ c.args.member c.args.command p.world.lawful p.allowed).good

pub post-sent-requires-clause-room : goal.post-sent-requires-clause-room
post-sent-requires-clause-room c = c.requires.ready.for_sending

pub post-sent-requires-clause-few : goal.post-sent-requires-clause-few
post-sent-requires-clause-few c =
    submit_few (ready_in c.requires.sound c.requires.ready) (Data c.unwrap-message.result)

pub returns : goal.returns
returns c =
    let p = ready_in c.requires.sound c.requires.ready in
    let good = (submit_taken _ c.args.member c.args.command p.world.lawful p.allowed).good in
    let made = next_made c.new.result c.unwrap-message.result c.args.member c.index_mut-seat.result.now.submitted c.args.command
    (state_of (rehearsal_of c.args.self.now)).submitted c.new.ensures good c.unwrap-message.ensures
    (count (goal.at.returns c).After-index_mut-seat) in
    does_in refl p tt c.join.ensures (submitted_taken p) (submit_mail p (Data c.unwrap-message.result) ∙ sym c.post-sent.ensures.number)
    (submit_steps p c.unwrap-message.result made
    (ap (λ (s : Seat). set c.args.self.now.seats.items (c.args.member - 1) (record s { submitted = s.submitted + 1 }))
    (seat_in c.args.self.now p c.index_mut-seat.ensures.value))
    refl
    (record { sent = c.post-sent.ensures.sent; lined = c.post-sent.ensures.members; joined = c.post-sent.ensures.joined }))
