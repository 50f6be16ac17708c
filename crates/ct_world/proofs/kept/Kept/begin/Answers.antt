use Rattle.std.proofs.Common.{◌+◌, ◌-◌, ◌<◌, ◌++◌, ◌∷◌, [], set, refl, ap, sym, ◌∙◌, subst, arith, length}
use Rattle.ct_names.specs.declared.limit.TheConstants.{MAX_INSTANCES}
use Rattle.ct_names.specs.Value.{Value}
use Rattle.ct_model.proofs.Steps.Begin.{begin_taken}
use Rattle.ct_abcast.specs.Cast.{Cast}
use Rattle.ct_instances.specs.Kept.{Kept, has_room_open}
use Rattle.ct_instances.specs.Steps.{opened}
use Rattle.ct_world.specs.declared.seat.Seat.{Seat}
use Rattle.ct_world.proofs.Steps.Doing.{does_in, ready_in, seat_in, within_in}
use Rattle.ct_world.proofs.Steps.Proposing.{begun, begin_idle, begin_few, begin_few_begun, begin_number, begin_steps}
use Rattle.ct_world.proofs.kept.Kept.begin.Goals as goal

pub add-requires : goal.add-requires
add-requires c = begin_number c.requires.sound

pub unwrap-value-requires : goal.unwrap-value-requires
unwrap-value-requires c = c.add.ensures.succeeds c.requires.ready.for_itself.book

pub overflow_sub-member : goal.overflow_sub-member
overflow_sub-member c = (ready_in c.requires.sound c.requires.ready).low

pub index_mut-seat-requires : goal.index_mut-seat-requires
index_mut-seat-requires c = within_in c.args.self.now (ready_in c.requires.sound c.requires.ready)

pub overflow_add-next : goal.overflow_add-next
overflow_add-next c =
    let p = ready_in c.requires.sound c.requires.ready in
    let last = ap (λ (s : Seat). s.instances.last) (seat_in c.args.self.now p c.index_mut-seat.ensures.value) in
    omega (arith, c.last-next.ensures, begin_few p)

pub open-requires-clause-idle : goal.open-requires-clause-idle
open-requires-clause-idle c =
    let p = ready_in c.requires.sound c.requires.ready in
    ap (λ (s : Seat). s.instances.part) (seat_in c.args.self.now p c.index_mut-seat.ensures.value) ∙ begin_idle p

pub open-requires-clause-room : goal.open-requires-clause-room
open-requires-clause-room c =
    let p = ready_in c.requires.sound c.requires.ready in
    ap (λ k. has_room_open c.index_mut-seat.result.now.instances (k + 1)) c.last-next.ensures
    ∙ ap (λ (s : Seat). has_room_open s.instances (s.instances.last + 1)) (seat_in c.args.self.now p c.index_mut-seat.ensures.value)
    ∙ c.requires.ready.for_itself.entry

pub begin-requires : goal.begin-requires
begin-requires c =
    let p = ready_in c.requires.sound c.requires.ready in
    subst (λ (s : Seat). s.caster.instance < MAX_INSTANCES) (sym (seat_in c.args.self.now p c.index_mut-seat.ensures.value))
    (begin_few_begun p)

pub returns : goal.returns
returns c =
    let p = ready_in c.requires.sound c.requires.ready in
    let s = c.index_mut-seat.result.now in
    let values = c.args.self.now.book.values in
    let number = rw c.unwrap-value.ensures at c.add.ensures.number in
    let seats =
    ap (λ (i : Kept). set c.args.self.now.seats.items (c.args.member - 1) (record s { instances = i; caster = c.begin.new.self }))
    (c.open.ensures ∙ ap (opened s.instances) number)
    ∙ ap (λ (k : Cast). set c.args.self.now.seats.items (c.args.member - 1)
    (record s { instances = opened s.instances (length values); caster = k })) c.begin.ensures
    ∙ ap (λ (x : Seat). set c.args.self.now.seats.items (c.args.member - 1) (begun x (length values)))
    (seat_in c.args.self.now p c.index_mut-seat.ensures.value) in
    does_in refl p tt c.join.ensures (begin_taken _ c.args.member p.world.lawful p.allowed).taken refl
    (begin_steps p seats refl refl
    ((rw c.unwrap-value.ensures at c.add.ensures.ok) ∙ ap (λ (v : Value). values ++ v ∷ []) c.requires.ready.for_itself.proposal))
