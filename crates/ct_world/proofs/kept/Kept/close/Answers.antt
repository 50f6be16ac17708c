use Rattle.std.proofs.Common.{ℕ, Option, option_map, ◌-◌, ◌++◌, ◌∷◌, [], refl, ap, set, sym, ◌∙◌, subst}
use Rattle.std.specs.declared.alloc.Global.{Global}
use Rattle.std.specs.declared.boxed.Box.{Box}
use Rattle.ct_names.specs.Batch.{Batch}
use Rattle.ct_world.specs.declared.closing.Closing.{Closing}
use Rattle.ct_world.specs.declared.kept.Kept.{Kept}
use Rattle.ct_world.specs.declared.prepared.Prepared.TheVariants.{Close}
use Rattle.ct_world.specs.Closing.{CanClose, closing_step, with_closed}
use Rattle.ct_world.specs.Kept.{Fields, HasRoom, IsSound, IsWorld, fields_of}
use Rattle.ct_world.proofs.Delivery.Closings.{at_actor, closed_at, closing_can, closing_in, closing_low, closing_seat, set_actor}
use Rattle.ct_world.proofs.Delivery.Deliveries.{IsDelivery, batch_low, delivery_steps, posted_in, value_same, value_there}
use Rattle.ct_world.proofs.Steps.Doing.{done_in, extends_in, ready_in}
use Rattle.ct_world.proofs.kept.Kept.close.Goals as goal

-- the step with the room that was made for it
delivery : {kept : Kept} {c : Closing} {p id : ℕ} {batch : Option (Box Batch Global)} → IsSound kept → HasRoom kept (Close c p id batch) →
    IsDelivery kept (closing_step c p) (closed_at c (fields_of kept) p) id (option_map (λ b. b.value) batch) (with_closed c)
delivery {kept = kept} {c = c} {p = p} sound ready = closing_in c kept p (ready_in sound ready) ready.for_itself

pub post-requires : goal.post-requires
post-requires c = batch_low (delivery c.requires.sound c.requires.ready) c.args.batch refl

pub overflow_sub-member : goal.overflow_sub-member
overflow_sub-member c = closing_low c.args.closing c.args.member (ready_in c.requires.sound c.requires.ready)

pub unwrap-requires : goal.unwrap-requires
unwrap-requires c = value_there (delivery c.requires.sound c.requires.ready) c.get.result c.get.ensures

pub close-requires-clause-there : goal.close-requires-clause-there
close-requires-clause-there c =
    let p = ready_in c.requires.sound c.requires.ready in
    subst (λ s. CanClose c.args.closing s) (sym (closing_seat c.args.closing c.args.member p c.index_mut-seat.ensures.value))
    (closing_can c.args.closing c.args.member p)

pub returns-clause-done : goal.returns-clause-done
returns-clause-done c =
    let d = delivery c.requires.sound c.requires.ready in
    done_in c.args.self.now (extends_in c.args.self.now (closing_step c.args.closing c.args.member)
    (c.join.ensures ∙ ap (λ s. c.args.self.now.steps.items ++ s ∷ []) c.step.ensures)) d.may d.due.taken refl

pub returns-clause-posted : goal.returns-clause-posted
returns-clause-posted c =
    posted_in c.args.board.now c.in_ok-receipt.receipt (delivery c.requires.sound c.requires.ready)
    (extends_in c.args.self.now (closing_step c.args.closing c.args.member)
    (c.join.ensures ∙ ap (λ s. c.args.self.now.steps.items ++ s ∷ []) c.step.ensures))
    c.in_ok-receipt.ensures.ok

pub returns-clause-sound : goal.returns-clause-sound
returns-clause-sound c =
    let d = delivery c.requires.sound c.requires.ready in
    let seats = c.args.self.now.seats.items in
    let new = set seats (c.args.member - 1) c.close.new.self in
    let f : Fields = record { network = c.args.self.now.network; book = c.args.self.now.book; seats = new } in
    subst (λ w. IsWorld w f) (sym (extends_in c.args.self.now (closing_step c.args.closing c.args.member)
    (c.join.ensures ∙ ap (λ s. c.args.self.now.steps.items ++ s ∷ []) c.step.ensures)))
    (delivery_steps d {f = f} c.close.new.self (at_actor c.args.closing c.args.member seats c.index_mut-seat.ensures.value)
    (value_same d c.get.result c.get.ensures c.unwrap.ensures) c.close.ensures
    (set_actor c.args.closing c.args.member seats c.close.new.self) refl refl refl)
