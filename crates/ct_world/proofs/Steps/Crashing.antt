-- Crash.
use Rattle.std.proofs.Common.{◌≡◌, ℕ, ◌-◌, true, length, set, refl, sym, ◌∙◌, append-nil}
use Rattle.ct_model.specs.declared.step.Step.TheVariants.{Crash}
use Rattle.ct_model.specs.Wire.{envelopes}
use Rattle.ct_model.specs.State.{Member, member}
use Rattle.ct_model.specs.Rehearsal.{Rehearsal, state_of, extended}
use Rattle.ct_model.proofs.Steps.Crash.{crash_outcome, crash_outcome-is, crash_taken}
use Rattle.ct_instances.proofs.Keeping.{keeps-same}
use Rattle.ct_world.specs.declared.seat.Seat.{Seat}
use Rattle.ct_world.specs.Kept.{Fields, IsWorld, seat_of}
use Rattle.ct_world.proofs.Steps.Doing.{IsAllowed}
use Rattle.ct_world.proofs.Basics.Posts.{left-plain}
use Rattle.ct_world.proofs.Steps.Refines.{refined-quiet, seat-kept}

-- a Crash marks the seat
pub crash_steps : {w : Rehearsal} {p : ℕ} {f new : Fields} → IsAllowed w (Crash p) f →
    new.seats ≡ set f.seats (p - 1) (record (seat_of f.seats p) { crashed = true }) → new.network.sent ≡ f.network.sent →
    new.network.lines ≡ f.network.lines → new.book.values ≡ f.book.values → IsWorld (extended w (Crash p)) new
crash_steps {w} {p} {f} may seats sent lines values =
    let m : Member = member (state_of w) p in
    let seat : Seat = record (seat_of f.seats p) { crashed = true } in
    refined-quiet may.world (crash_taken w p may.world.lawful may.allowed) (left-plain may.world.lined refl sent lines)
    (rw (crash_outcome-is w p) (record {
      seat = seat;
      named = refl;
      values = values ∙ sym (append-nil f.book.values);
      seats = seats;
      keeps = rw values (seat-kept may.keeps refl refl refl refl refl refl refl may.keeps.begun
          (keeps-same w.setting.members f.book.values p m (record m { crashed = true }) seat.instances refl refl refl
          may.keeps.instances));
      submitted = may.submitted;
    }))

pub crash_mail : (w : Rehearsal) (p : ℕ) → length (envelopes w.setting.members (crash_outcome w p).mail) ≡ 0
crash_mail w p = rw (crash_outcome-is w p) refl
