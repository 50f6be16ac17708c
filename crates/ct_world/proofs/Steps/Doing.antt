-- What is kept, taken together.
use Rattle.std.proofs.Common.{◌≡◌, ℕ, ◌+◌, ◌-◌, ◌<◌, ◌≤◌, true, List, [], ◌∷◌, ◌++◌, length, get_or, refl, ap, ◌∙◌, sym, subst, Some, None}
use Rattle.std.proofs.Common.{arith}
use Rattle.std.specs.Prelude.{vec_len}
use Rattle.ct_names.specs.Group.{is_member}
use Rattle.ct_model.specs.declared.step.Step.{Step}
use Rattle.ct_model.specs.Actor.{actor}
use Rattle.ct_model.specs.Wire.{envelopes}
use Rattle.ct_model.specs.Next.{Outcome}
use Rattle.ct_model.specs.State.{State, member, submissions}
use Rattle.ct_model.specs.Order.{DeliversNothing}
use Rattle.ct_model.specs.Rehearsal.{Rehearsal, state_of, extended}
use Rattle.ct_model.specs.Safe.{IsSafe}
use Rattle.ct_model.proofs.Delivery.Order.{order-still}
use Rattle.ct_model.proofs.Delivery.Safety.{safe-run}
use Rattle.ct_model.specs.Cause.{cause}
use Rattle.ct_model.proofs.Record.Causes.{cause-none}
use Rattle.ct_model.proofs.Record.Frame.{length-after-sent, submissions-none}
use Rattle.ct_model.proofs.Record.Taken.{IsTaken, next-step, state-step}
use Rattle.ct_world.specs.declared.kept.Kept.{Kept}
use Rattle.ct_world.specs.declared.prepared.Prepared.{Prepared}
use Rattle.ct_world.specs.declared.seat.Seat.{Seat}
use Rattle.ct_world.specs.Prepared.{step_in}
use Rattle.ct_world.specs.Seats.{Keeps}
use Rattle.ct_world.specs.Kept.{Fields, IsWorld, IsSound, HasRoom, Does, fields_of, rehearsal_of, seat_of}
use Rattle.ct_world.specs.World.{IsDone}
use Rattle.ct_world.proofs.Basics.Members.{member_low, place, seat_found}

-- what a step that is allowed has
pub record IsAllowed (w : Rehearsal) (step : Step) (f : Fields) : Type 0 where
  pub world : IsWorld w f
  pub allowed : cause w step ≡ None
  pub in_group : is_member w.setting.members (actor step) ≡ true
  pub lined : is_member (length f.network.lines) (actor step) ≡ true
  pub low : 1 ≤ actor step
  pub within : actor step - 1 < length f.seats
  pub keeps : Keeps w.setting.members f.book.values (actor step) (member (state_of w) (actor step)) (seat_of f.seats (actor step))
  pub submitted : (seat_of f.seats (actor step)).submitted ≡ submissions (state_of w).submitted (actor step) + submissions [] (actor step)

-- what a step that is allowed has where it is kept
abbrev pub IsAllowedIn : Kept → Step → Type 0
IsAllowedIn k step = IsAllowed (rehearsal_of k) step (fields_of k)

pub allowed_at : {w : Rehearsal} {step : Step} {f : Fields} → IsWorld w f → cause w step ≡ None → IsAllowed w step f
allowed_at {w} {step} world allowed =
    let present = (cause-none w step allowed).present in
    record {
      world = world;
      allowed = allowed;
      in_group = present.in_group;
      lined = ap (λ n. is_member n (actor step)) world.lined ∙ present.in_group;
      low = member_low w.setting.members (actor step) present.in_group;
      within = omega (arith, world.seated, place w.setting.members (actor step) present.in_group);
      keeps = world.seat (actor step) present.in_group;
      submitted = omega (arith, world.submitted (actor step) present.in_group, submissions-none (actor step));
    }

-- the step that room was made for
pub ready_in : {k : Kept} {room : Prepared} → IsSound k → HasRoom k room → IsAllowedIn k (step_in room)
ready_in sound ready = allowed_at sound ready.allowed

pub within_in : (k : Kept) {step : Step} → IsAllowedIn k step → actor step - 1 < vec_len k.seats
within_in k p = omega (arith, p.within, k.seats.ok.0)

pub seat_in : (k : Kept) {step : Step} {s : Seat} → IsAllowedIn k step → s ≡ get_or k.seats.items (actor step - 1) s →
    s ≡ seat_of k.seats.items (actor step)
seat_in k {step} {s} p e = seat_found k.seats.items (actor step) s p.within e

-- the record with the step at its end
pub extends_in : (k : Kept) (step : Step) {steps : List Step} → steps ≡ k.steps.items ++ step ∷ [] →
    record (rehearsal_of k) { steps = steps } ≡ extended (rehearsal_of k) step
extends_in k step pushed = ap (λ steps. let w : Rehearsal = record (rehearsal_of k) { steps = steps } in w) pushed

-- the step is done where the record has it at its end
pub done_in : (k : Kept) {after : Rehearsal} {step : Step} {o : Outcome} {more : ℕ} → after ≡ extended (rehearsal_of k) step →
    IsAllowedIn k step → IsTaken (rehearsal_of k) step o → length (envelopes k.group o.mail) ≡ more →
    IsDone (rehearsal_of k) step after more
done_in k {step = step} {o = o} {more = more} extends p taken number =
    let w : Rehearsal = rehearsal_of k in
    let state = state-step w step o p.world.lawful taken in
    subst (λ h. IsDone w step h more) (sym extends) (record {
      joined = refl;
      next = next-step w step o p.world.lawful taken ∙ ap (λ g. Some g) (sym state);
      sent_more = ap (λ (g : State). length g.sent) state ∙ length-after-sent w.setting (state_of w) (actor step) o
          ∙ ap (λ n. length (state_of w).sent + n) number;
    })

-- and posts nothing
pub does_in : {k new : Kept} {step : Step} {o : Outcome} {more : ℕ} → rehearsal_of new ≡ record (rehearsal_of k) { steps = new.steps.items }
    → IsAllowedIn k step → DeliversNothing step → new.steps.items ≡ k.steps.items ++ step ∷ [] → IsTaken (rehearsal_of k) step o
    → length (envelopes k.group o.mail) ≡ more → IsWorld (extended (rehearsal_of k) step) (fields_of new) → Does k step new more
does_in {k = k} {new = new} {step = step} {more = more} is p nothing pushed taken number world =
    let extends : rehearsal_of new ≡ extended (rehearsal_of k) step = is ∙ extends_in k step pushed in
    let done : IsDone (rehearsal_of k) step (rehearsal_of new) more = done_in k extends p taken number in
    record {
      done = done;
      still = order-still (rehearsal_of k).setting (state_of (rehearsal_of k)) (state_of (rehearsal_of new)) step nothing done.next;
      sound = subst (λ w. IsWorld w (fields_of new)) (sym extends) world;
    }

-- its state is safe
pub safe_in : (k : Kept) → IsSound k → IsSafe (rehearsal_of k).setting (state_of (rehearsal_of k))
safe_in k sound = safe-run (rehearsal_of k).setting (rehearsal_of k).steps (state_of (rehearsal_of k)) sound.lawful.runs
