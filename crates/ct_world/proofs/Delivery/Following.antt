-- Follow: why it is refused, by the seat, and the seat after it.
use Rattle.std.proofs.Common.{◌≡◌, ℕ, ◌+◌, ◌<◌, Bool, true, false, List, [], ◌∷◌, ◌++◌, ap, sym, ◌∙◌, subst, arith, Some, None}
use Rattle.std.specs.Prelude.{is_some, is_none}
use Rattle.ct_names.specs.declared.limit.TheConstants.{MAX_INSTANCES}
use Rattle.ct_names.specs.declared.refusal.Refusal.TheVariants.{Busy, Undecided}
use Rattle.ct_names.specs.Batch.{Batch}
use Rattle.ct_names.specs.Value.{Value}
use Rattle.ct_model.specs.declared.step.Step.TheVariants.{Follow}
use Rattle.ct_model.specs.Cause.{at, first_fault, cause}
use Rattle.ct_model.specs.Next.{close, batch_of}
use Rattle.ct_model.specs.Received.{decided}
use Rattle.ct_model.specs.Rehearsal.{Rehearsal, state_of}
use Rattle.ct_model.specs.State.{Member, member}
use Rattle.ct_model.proofs.Record.Causes.{own_tests}
use Rattle.ct_model.proofs.Record.Limits.{own_tests-is, cause-tested}
use Rattle.ct_model.proofs.Record.Taken.{IsTaken}
use Rattle.ct_model.proofs.Steps.Follow.{cause-follow, IsFollowStep, follow_taken}
use Rattle.ct_instances.specs.Keeping.{KeepsInstances}
use Rattle.ct_instances.proofs.Keeping.{keeps-followed}
use Rattle.ct_world.specs.declared.seat.Seat.{Seat}
use Rattle.ct_world.specs.Kept.{Fields, IsActor, delivery_cause, seat_of}
use Rattle.ct_world.specs.Seats.{Keeps, content, with_batch, with_next}
use Rattle.ct_world.proofs.Delivery.Deliveries.{IsClosing, cause-delivery, closed_keeps, open_is}
use Rattle.ct_world.proofs.Steps.Doing.{IsAllowed}
use Rattle.ct_world.proofs.Steps.Proposing.{nothing-some, open-same}
use Rattle.ct_world.proofs.Basics.Rooms.{keeps-roomier}

module _ {w : Rehearsal} {p : ℕ} {seat : Seat} (a : IsActor w p seat) where
  abbrev m : Member
  m = member (state_of w) p

  tests-follow : (busy : Bool) → is_some seat.instances.part ≡ busy →
      first_fault (own_tests w (Follow p)) ≡ first_fault (at Busy busy ∷ at Undecided (is_none (decided m.got (m.last + 1))) ∷ [])
  tests-follow busy e = grind (arith, own_tests-is w (Follow p), open_is a)

  pub follow_busy : is_some seat.instances.part ≡ true → cause w (Follow p) ≡ Some Busy
  follow_busy e = cause-tested w (Follow p) Busy a.present (tests-follow true e)

  pub follow_cause : is_some seat.instances.part ≡ false → cause w (Follow p) ≡ delivery_cause w seat (seat.instances.last + 1)
  follow_cause e =
      cause-delivery a (Follow p) (m.last + 1) a.present (tests-follow false e) (cause-follow w p a.lawful a.present)
      ∙ ap (λ k. delivery_cause w seat (k + 1)) (sym a.sits.keeps.instances.last)

-- the seat after it, whose last instance is the next one
pub followed_keeps : {n p : ℕ} {values : List Value} {m : Member} {seat new : Seat} (v : Value) → seat.instances.part ≡ None
    → Keeps n values p m seat → content new ≡ content (with_batch (with_next seat) v)
    → Keeps n values p (close m (seat.instances.last + 1) v).member new
followed_keeps {n} {p} {values} {m} {seat} v idle h same =
    let k : ℕ = seat.instances.last + 1 in
    let batches : List Batch = m.batches ++ record { instance = k; messages = batch_of m v } ∷ [] in
    keeps-roomier (with_batch (with_next seat) v) same (closed_keeps k v (seat.caster.instance + 1) (with_next seat).instances h
    (ap (λ i. i + 1) (h.begun ∙ sym h.instances.last))
    (subst (λ i. KeepsInstances n values p (record m { last = i + 1; current = None; batches = batches }) (with_next seat).instances)
    (sym h.instances.last) (keeps-followed n values p m seat.instances batches idle h.instances)))

module _ {w : Rehearsal} {p : ℕ} {f : Fields} (may : IsAllowed w (Follow p) f) where
  step : IsFollowStep w p
  step = follow_taken w p may.world.lawful may.allowed

  last_is : (seat_of f.seats p).instances.last ≡ (member (state_of w) p).last
  last_is = may.keeps.instances.last

  pub follow_idle : (seat_of f.seats p).instances.part ≡ None
  follow_idle = nothing-some (seat_of f.seats p).instances.part (open-same may.keeps ∙ ap is_some step.idle)

  pub follow_few : (seat_of f.seats p).instances.last < MAX_INSTANCES
  follow_few = omega (arith, step.few, last_is)

  pub follow_few_begun : (seat_of f.seats p).caster.instance < MAX_INSTANCES
  follow_few_begun = omega (arith, step.few, may.keeps.begun)

  pub follow_due : IsClosing w (Follow p) ((seat_of f.seats p).instances.last + 1)
  follow_due = record {
    value = step.value;
    decision = ap (λ k. decided (member (state_of w) p).got (k + 1)) last_is ∙ step.decision;
    taken = subst (λ k. IsTaken w (Follow p) (close (member (state_of w) p) (k + 1) step.value)) (sym last_is) step.taken;
  }
