use Rattle.std.proofs.Common.{rules, ◌-◌, ◌∷◌, ◌++◌, [], set, ap, sym, ◌∙◌, arith, refl}
use Rattle.ct_model.specs.Moves.{step_of}
use Rattle.ct_world.specs.declared.seat.Seat.{Seat}
use Rattle.ct_world.specs.Kept.{fields_of, rehearsal_of}
use Rattle.ct_world.proofs.Steps.Doing.{does_in, ready_in}
use Rattle.ct_world.proofs.Steps.Refines.{mail-few, mail-number}
use Rattle.ct_world.proofs.Steps.Rounds.{round_allowed, round_low, round_passes, round_quiet, round_seat, round_steps, round_turned}
use Rattle.ct_world.proofs.Steps.Rounds.{round_within}
use Rattle.ct_world.proofs.Steps.Turns.{IsTurned, turn_addressed}
use Rattle.ct_world.proofs.kept.Kept.turn.Goals as goal
use Rattle.ct_world.proofs.kept.Kept.turn.Goals.{After-take-mail}

pub overflow_sub-member : goal.overflow_sub-member
overflow_sub-member c = round_low c.args.member c.args.action (ready_in c.requires.sound c.requires.ready)

pub index_mut-seat-requires : goal.index_mut-seat-requires
index_mut-seat-requires c =
    omega (
      arith,
      round_within c.args.member c.args.action (ready_in c.requires.sound c.requires.ready),
      c.args.self.now.seats.ok.0,
    )

pub take-mail-requires : goal.take-mail-requires
take-mail-requires c =
    let p = ready_in c.requires.sound c.requires.ready in
    let here = round_seat c.args.member c.args.action p c.index_mut-seat.ensures.value in
    record { allowed = round_allowed c.args.member c.args.action p here; rounds = round_passes c.args.member c.args.action p here }

-- what the instances did
done : (c : After-take-mail) → IsTurned (rehearsal_of c.args.self.now) (step_of c.args.member c.args.action) (fields_of c.args.self.now)
    c.take-mail.new.self c.take-mail.result
done c =
    let p = ready_in c.requires.sound c.requires.ready in
    round_turned c.args.member c.args.action p (round_seat c.args.member c.args.action p c.index_mut-seat.ensures.value)
    c.take-mail.ensures

pub post-sent-requires : goal.post-sent-requires
post-sent-requires c =
    let p = ready_in c.requires.sound c.requires.ready in
    let t = done (goal.at.post-sent-requires c).After-take-mail in
    record {
      room = c.requires.ready.for_sending;
      to = turn_addressed p t;
      few = mail-few _ p.world t.taken t.named p.world.lined refl;
      small = search rules;
    }

pub returns : goal.returns
returns c =
    let p = ready_in c.requires.sound c.requires.ready in
    let t = done (goal.at.returns c).After-take-mail in
    does_in refl p (round_quiet c.args.member c.args.action)
    (c.join.ensures ∙ ap (λ s. c.args.self.now.steps.items ++ s ∷ []) c.by.ensures) t.taken
    (mail-number _ p.world t.taken t.named p.world.lined ∙ sym c.post-sent.ensures.number)
    (round_steps c.args.member c.args.action p t
    (ap (λ (s : Seat). set c.args.self.now.seats.items (c.args.member - 1) (record s { instances = c.take-mail.new.self }))
    (round_seat c.args.member c.args.action p c.index_mut-seat.ensures.value))
    refl
    (record { sent = c.post-sent.ensures.sent; lined = c.post-sent.ensures.members; joined = c.post-sent.ensures.joined }))
