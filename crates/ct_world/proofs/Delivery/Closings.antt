-- Deliver and Follow, as one.
use Rattle.std.proofs.Common.{◌≡◌, ℕ, ◌+◌, ◌-◌, ◌<◌, ◌≤◌, true, List, length, get_or, set, refl, ap, sym, subst, arith, Option}
use Rattle.std.specs.Prelude.{is_some, option_and_then}
use Rattle.ct_names.specs.declared.limit.TheConstants.{MAX_INSTANCES}
use Rattle.ct_names.specs.Batch.{Batch}
use Rattle.ct_model.specs.Actor.{actor}
use Rattle.ct_model.specs.Cause.{order}
use Rattle.ct_model.specs.Rehearsal.{Rehearsal, state_of}
use Rattle.ct_instances.specs.Kept.{decision_at}
use Rattle.ct_instances.specs.Named.{value_at}
use Rattle.ct_world.specs.declared.closing.Closing.{Closing}
use Rattle.ct_world.specs.declared.closing.Closing.TheVariants.{Open, Next}
use Rattle.ct_world.specs.declared.kept.Kept.{Kept}
use Rattle.ct_world.specs.declared.seat.Seat.{Seat}
use Rattle.ct_world.specs.Closing.{CanClose, closed_instance, closing_step, with_closed}
use Rattle.ct_world.specs.Kept.{Fields, HasDeliveryRoom, fields_of, rehearsal_of, seat_of}
use Rattle.ct_world.specs.Seats.{IsDeliverable, content}
use Rattle.ct_world.proofs.Delivery.Deliveries.{IsDelivery, delivery_room, has_decision, has_value}
use Rattle.ct_world.proofs.Delivery.Delivering.{deliver_due, deliver_open, delivered_keeps}
use Rattle.ct_world.proofs.Delivery.Following.{follow_due, follow_few, follow_few_begun, follow_idle, followed_keeps}
use Rattle.ct_world.proofs.Steps.Doing.{IsAllowed, IsAllowedIn}
use Rattle.ct_world.proofs.Basics.Members.{seat_found}

pub closing_actor : (c : Closing) (p : ℕ) → actor (closing_step c p) ≡ p
closing_actor Open p = refl
closing_actor Next p = refl

-- the instance that is closed, at a member's seat
abbrev pub closed_at : Closing → Fields → ℕ → ℕ
closed_at c f p = closed_instance c (seat_of f.seats p).instances.last

-- the last one that a member began
pub closing_few : (c : Closing) (p : ℕ) {w : Rehearsal} {f : Fields} → IsAllowed w (closing_step c p) f →
    (seat_of f.seats p).instances.last ≤ MAX_INSTANCES
closing_few Open p may = omega (arith, may.world.lawful.within.few_instances p, may.keeps.instances.last)
closing_few Next p may = omega (arith, follow_few may)

-- at its seat
pub closing_can : (c : Closing) (p : ℕ) {w : Rehearsal} {f : Fields} → IsAllowed w (closing_step c p) f → CanClose c (seat_of f.seats p)
closing_can Open p may = deliver_open may
closing_can Next p may =
    record { idle = follow_idle may; decided = has_decision may (follow_due may); few = follow_few_begun may }

-- the step with the room that was made for it
pub closing_in : (c : Closing) (kept : Kept) (p : ℕ) {id : ℕ} {posting : Option Batch} → IsAllowedIn kept (closing_step c p) →
    HasDeliveryRoom (rehearsal_of kept) (fields_of kept) (closing_step c p) (closed_at c (fields_of kept) p) id posting →
    IsDelivery kept (closing_step c p) (closed_at c (fields_of kept) p) id posting (with_closed c)
closing_in Open kept p may room = record {
  may = may;
  due = deliver_due may;
  room = room;
  quiet = refl;
  submitted = refl;
  keeps = λ new same. delivered_keeps (deliver_due may).value may.keeps same;
}
closing_in Next kept p may room = record {
  may = may;
  due = follow_due may;
  room = room;
  quiet = refl;
  submitted = refl;
  keeps = λ new same. followed_keeps (follow_due may).value (follow_idle may) may.keeps same;
}

-- by the member in place of who takes the step

module _ (c : Closing) (p : ℕ) {w : Rehearsal} {f : Fields} (may : IsAllowed w (closing_step c p) f) where
  pub closing_low : 1 ≤ p
  closing_low = subst (λ q. 1 ≤ q) (closing_actor c p) may.low

  pub closing_within : p - 1 < length f.seats
  closing_within = subst (λ q. q - 1 < length f.seats) (closing_actor c p) may.within

  pub closing_seat : {s : Seat} → s ≡ get_or f.seats (p - 1) s → s ≡ seat_of f.seats p
  closing_seat {s} e = seat_found f.seats p s closing_within e

pub at_actor : (c : Closing) (p : ℕ) (seats : List Seat) {s : Seat} → s ≡ get_or seats (p - 1) s →
    s ≡ get_or seats (actor (closing_step c p) - 1) s
at_actor c p seats {s} here = subst (λ q. s ≡ get_or seats (q - 1) s) (sym (closing_actor c p)) here

pub set_actor : (c : Closing) (p : ℕ) (seats : List Seat) (new : Seat) → set seats (p - 1) new
    ≡ set seats (actor (closing_step c p) - 1) new
set_actor c p seats new = ap (λ q. set seats (q - 1) new) (sym (closing_actor c p))

-- its seat has the decision, and the book its value
pub closing_value : (c : Closing) (p : ℕ) {w : Rehearsal} {f : Fields} → IsAllowed w (closing_step c p) f → (seat : Seat) (i : ℕ) →
    seat ≡ seat_of f.seats p → i ≡ closed_at c f p →
    is_some (option_and_then (value_at f.book.values) (decision_at seat.instances i)) ≡ true
closing_value Open p may seat i here is = has_value may (deliver_due may) seat i here is
closing_value Next p may seat i here is = has_value may (follow_due may) seat i here is

-- the room that was made for it
pub closing_room : (c : Closing) (p : ℕ) {w : Rehearsal} {f new : Fields} {i id posted : ℕ} {posting : Option Batch}
    → IsAllowed w (closing_step c p) f → (seat : Seat) → content seat ≡ content (seat_of f.seats p) → new.seats ≡ set f.seats (p - 1) seat
    → new.book.values ≡ f.book.values → posted ≡ length (order (state_of w)) → i ≡ closed_at c f p
    → IsDeliverable f.book.values seat i posted id posting → HasDeliveryRoom w new (closing_step c p) (closed_at c new p) id posting
closing_room Open p may seat kept seats values count is found =
    delivery_room may (deliver_due may) (λ k. k) refl seat kept seats values count is found
closing_room Next p may seat kept seats values count is found =
    delivery_room may (follow_due may) (λ k. k + 1) refl seat kept seats values count is found
