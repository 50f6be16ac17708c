-- Deliver: why it is refused, by the seat, and the seat after it.
use Rattle.std.proofs.Common.{arith, ◌≡◌, ℕ, ◌+◌, true, false, List, [], ◌∷◌, ◌++◌, length, ap, sym, ◌∙◌, subst, Some, None}
use Rattle.std.specs.Prelude.{nat_lt, is_some}
use Rattle.ct_names.specs.declared.limit.Limit.TheVariants.{Instances, Cells}
use Rattle.ct_names.specs.declared.limit.TheConstants.{MAX_INSTANCES}
use Rattle.ct_names.specs.declared.refusal.Refusal.TheVariants.{Idle, Full}
use Rattle.ct_names.specs.Batch.{Batch}
use Rattle.ct_names.specs.Value.{Value}
use Rattle.ct_model.specs.declared.step.Step.TheVariants.{Deliver}
use Rattle.ct_model.specs.Cause.{at, first_fault, or_else, cause, overflow}
use Rattle.ct_model.specs.Next.{close, batch_of}
use Rattle.ct_model.specs.Received.{decided}
use Rattle.ct_model.specs.Rehearsal.{Rehearsal, state_of}
use Rattle.ct_model.specs.State.{Member, member}
use Rattle.ct_model.proofs.Record.Causes.{low}
use Rattle.ct_model.proofs.Record.Limits.{own_tests-is, cause-tested}
use Rattle.ct_model.proofs.Record.Taken.{IsTaken}
use Rattle.ct_model.proofs.Steps.Deliver.{tests-deliver, cause-deliver, IsDeliverStep, deliver_taken}
use Rattle.ct_instances.specs.Keeping.{KeepsInstances}
use Rattle.ct_instances.proofs.Keeping.{keeps-closed}
use Rattle.ct_world.specs.declared.seat.Seat.{Seat}
use Rattle.ct_world.specs.Kept.{Fields, IsActor, delivery_cause, seat_of}
use Rattle.ct_world.specs.Seats.{Keeps, content, with_delivery}
use Rattle.ct_world.proofs.Delivery.Deliveries.{IsClosing, cause-delivery, closed_keeps, open_is, standing-there}
use Rattle.ct_world.proofs.Steps.Doing.{IsAllowed}
use Rattle.ct_world.proofs.Steps.Proposing.{open-same}
use Rattle.ct_world.proofs.Basics.Rooms.{keeps-roomier}

module _ {w : Rehearsal} {p : ℕ} {seat : Seat} (a : IsActor w p seat) where
  abbrev m : Member
  m = member (state_of w) p

  pub deliver_idle : is_some seat.instances.part ≡ false → cause w (Deliver p) ≡ Some Idle
  deliver_idle e = cause-tested w (Deliver p) Idle a.present (grind (arith, own_tests-is w (Deliver p), open_is a))

  pub deliver_cause : is_some seat.instances.part ≡ true → cause w (Deliver p) ≡ delivery_cause w seat seat.instances.last
  deliver_cause e =
      let c = standing-there m.current (sym (open_is a) ∙ e) in
      cause-delivery a (Deliver p) m.last a.present (tests-deliver w p c.0 c.1)
      (λ free. cause-deliver w p a.lawful a.present free
      ∙ sym (ap (λ b. or_else (first_fault (at (Full Instances) b ∷ at (Full Cells) (nat_lt w.cells (length m.batches + 1)) ∷ []))
      (overflow w 0)) (low MAX_INSTANCES m.last (a.lawful.within.few_instances p))))
      ∙ ap (delivery_cause w seat) (sym a.sits.keeps.instances.last)

-- the seat after it, whose last instance is the one that was open
pub delivered_keeps : {n p : ℕ} {values : List Value} {m : Member} {seat new : Seat} (v : Value) → Keeps n values p m seat
    → content new ≡ content (with_delivery seat v) → Keeps n values p (close m seat.instances.last v).member new
delivered_keeps {n} {p} {values} {m} {seat} v h same =
    let k : ℕ = seat.instances.last in
    let batches : List Batch = m.batches ++ record { instance = k; messages = batch_of m v } ∷ [] in
    keeps-roomier (with_delivery seat v) same (closed_keeps k v seat.caster.instance (record seat.instances { part = None }) h
    (h.begun ∙ sym h.instances.last)
    (subst (λ i. KeepsInstances n values p (record m { last = i; current = None; batches = batches })
    (record seat.instances { part = None })) (sym h.instances.last) (keeps-closed n values p m seat.instances batches h.instances)))

module _ {w : Rehearsal} {p : ℕ} {f : Fields} (may : IsAllowed w (Deliver p) f) where
  step : IsDeliverStep w p
  step = deliver_taken w p may.world.lawful may.allowed

  last_is : (seat_of f.seats p).instances.last ≡ (member (state_of w) p).last
  last_is = may.keeps.instances.last

  pub deliver_open : is_some (seat_of f.seats p).instances.part ≡ true
  deliver_open = open-same may.keeps ∙ ap is_some step.is_open

  pub deliver_due : IsClosing w (Deliver p) (seat_of f.seats p).instances.last
  deliver_due = record {
    value = step.value;
    decision = ap (decided (member (state_of w) p).got) last_is ∙ step.decision;
    taken = subst (λ k. IsTaken w (Deliver p) (close (member (state_of w) p) k step.value)) (sym last_is) step.taken;
  }
