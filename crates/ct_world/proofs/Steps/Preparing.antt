-- What is kept while room is made for a step.
use Rattle.std.proofs.Common.{◌≡◌, ◌-◌, ◌<◌, true, set, ap, sym, ◌∙◌, subst, None}
use Rattle.std.specs.Prelude.{Ok, Err, unwrap_or, vec_len, vec_capacity}
use Rattle.ct_names.specs.declared.refusal.Refusal.{Refusal}
use Rattle.ct_names.specs.declared.refusal.Refusal.TheVariants.{OutOfMemory}
use Rattle.ct_model.specs.declared.step.Step.{Step}
use Rattle.ct_model.specs.Actor.{actor}
use Rattle.ct_model.specs.Cause.{cause}
use Rattle.ct_model.specs.Rehearsal.{Rehearsal}
use Rattle.ct_world.specs.declared.kept.Kept.{Kept}
use Rattle.ct_world.specs.declared.prepared.Prepared.{Prepared}
use Rattle.ct_world.specs.declared.prepared.Prepared.TheVariants.{Receive, Begin, Close, Postpone, Lose}
use Rattle.ct_world.specs.declared.seat.Seat.{Seat}
use Rattle.ct_world.specs.Prepared.{step_in}
use Rattle.ct_world.specs.Seats.{content, AreSameSeats}
use Rattle.ct_world.specs.Kept.{Fields, IsWorld, IsSound, HasOwnRoom, HasRoom, NeedsNoMore, MakesRoom, fields_of, rehearsal_of, seat_of}
use Rattle.ct_world.proofs.Steps.Doing.{IsAllowedIn}
use Rattle.ct_world.proofs.Basics.Rooms.{IsRoomier, world-roomier, same_set}

-- the seats once room was made at the actor's
pub roomier_seats : (k : Kept) {step : Step} {old : Seat} → IsAllowedIn k step → (seat : Seat) →
    old ≡ seat_of k.seats.items (actor step) → content seat ≡ content old →
    AreSameSeats k.seats.items (set k.seats.items (actor step - 1) seat)
roomier_seats k {step} p seat here same = same_set k.seats.items (actor step) seat (same ∙ ap content here)

-- what is kept once there is more room
pub record IsReserved (old new : Kept) : Type 0 where
  pub is : rehearsal_of new ≡ record (rehearsal_of old) { steps = new.steps.items }
  pub steps : new.steps.items ≡ old.steps.items
  pub roomier : IsRoomier (fields_of old) (fields_of new)

pub reserved : {old new : Kept} → rehearsal_of new ≡ record (rehearsal_of old) { steps = new.steps.items }
    → new.steps.items ≡ old.steps.items → new.book.values ≡ old.book.values → new.network.sent ≡ old.network.sent
    → new.network.lines ≡ old.network.lines → AreSameSeats old.seats.items new.seats.items → IsReserved old new
reserved is steps values sent lines same =
    record { is = is; steps = steps; roomier = record { values = values; sent = sent; lines = lines; same = same } }

module _ {k new : Kept} (r : IsReserved k new) where
  pub reserved_same : rehearsal_of new ≡ rehearsal_of k
  reserved_same = r.is ∙ ap (λ steps. let w : Rehearsal = record (rehearsal_of k) { steps = steps } in w) r.steps

  pub reserved_sound : IsSound k → IsSound new
  reserved_sound sound = subst (λ w. IsWorld w (fields_of new)) (sym reserved_same) (world-roomier sound r.roomier)

-- there is room for a step that was allowed
pub ready_for : {k new : Kept} {room : Prepared} (r : IsReserved k new) → cause (rehearsal_of k) (step_in room) ≡ None →
    vec_len new.steps < vec_capacity new.steps → new.network.has_room ≡ true → HasOwnRoom (rehearsal_of k) (fields_of new) room →
    HasRoom new room
ready_for {new = new} {room = room} r allowed for_step for_sending own = record {
  allowed = ap (λ w. cause w (step_in room)) (reserved_same r) ∙ allowed;
  for_step = for_step;
  for_sending = for_sending;
  for_itself = subst (λ w. HasOwnRoom w (fields_of new) room) (sym (reserved_same r)) own;
}

module _ {k new : Kept} {step : Step} (sound : IsSound k) (r : IsReserved k new) (allowed : cause (rehearsal_of k) step ≡ None) where
  -- the step is refused for want of memory
  pub no_memory : {refusal : Refusal} → refusal ≡ OutOfMemory → MakesRoom k step new (Err refusal)
  no_memory is = record {
    same = reserved_same r;
    sound = reserved_sound r sound;
    outcome = is ∙ sym (ap (λ o. unwrap_or o OutOfMemory) allowed);
  }

  -- or there is room for it
  pub has_room : {room : Prepared} → step_in room ≡ step → vec_len new.steps < vec_capacity new.steps → new.network.has_room ≡ true →
      HasOwnRoom (rehearsal_of k) (fields_of new) room → MakesRoom k step new (Ok room)
  has_room {room} named for_step for_sending own = record {
    same = reserved_same r;
    sound = reserved_sound r sound;
    outcome = record {
      named = named;
      ready = ready_for r (ap (cause (rehearsal_of k)) named ∙ allowed) for_step for_sending own;
    };
  }

-- a step that needs no more is allowed
pub plain_allowed : (w : Rehearsal) (room : Prepared) → NeedsNoMore w room → cause w (step_in room) ≡ None
plain_allowed w (Receive p k place) h = absurd h
plain_allowed w (Begin p v) h = absurd h
plain_allowed w (Close c p id batch) h = absurd h
plain_allowed w (Postpone p k place) h = h.allowed
plain_allowed w (Lose p k place) h = h.allowed
plain_allowed w _ h = h

-- and has what it needs
pub plain_room : (w : Rehearsal) (f : Fields) (room : Prepared) → NeedsNoMore w room → HasOwnRoom w f room
plain_room w f (Receive p k place) h = absurd h
plain_room w f (Begin p v) h = absurd h
plain_room w f (Close c p id batch) h = absurd h
plain_room w f (Postpone p k place) h = h.placed
plain_room w f (Lose p k place) h = h.placed
plain_room w f _ h = tt
