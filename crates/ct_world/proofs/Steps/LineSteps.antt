-- Postpone, Lose and Repeat: they change nothing but their member's line.
use Rattle.std.proofs.Common.{◌≡◌, ℕ, ◌-◌, List, [], ◌∷◌, length, set, refl, ap, sym, ◌∙◌, append-nil}
use Rattle.std.proofs.lemmas.List.{set-get_or}
use Rattle.ct_model.specs.declared.step.Step.{Step}
use Rattle.ct_model.specs.declared.step.Step.TheVariants.{Postpone}
use Rattle.ct_model.specs.Actor.{actor}
use Rattle.ct_model.specs.Rehearsal.{Rehearsal, line_of, extended}
use Rattle.ct_model.specs.Waiting.{alone}
use Rattle.ct_model.specs.Wire.{envelopes}
use Rattle.ct_model.proofs.Record.Allowed.{names-free}
use Rattle.ct_model.proofs.Record.Lines.{alone-is}
use Rattle.ct_model.proofs.Record.Taken.{IsTaken}
use Rattle.ct_model.proofs.Steps.LineSteps.{line_outcome}
use Rattle.ct_network.specs.Network.{line_at}
use Rattle.ct_world.specs.Kept.{Fields, IsWorld, seat_of, no_seat}
use Rattle.ct_world.proofs.Steps.Doing.{IsAllowed}
use Rattle.ct_world.proofs.Basics.Posts.{IsChange, left-changed}
use Rattle.ct_world.proofs.Steps.Refines.{refined-quiet}

module _ {w : Rehearsal} {step : Step} {f new : Fields} (may : IsAllowed w step f) (taken : IsTaken w step (line_outcome w (actor step)))
    (change : List ℕ → List ℕ) (is : IsChange step change) (seats : new.seats ≡ f.seats)
    (sent : new.network.sent ≡ f.network.sent)
    (lines : new.network.lines ≡ set f.network.lines (actor step - 1) (change (line_at f.network.lines (actor step))))
    (values : new.book.values ≡ f.book.values) where
  -- the fields after the step are those of the longer record
  pub line_steps : IsWorld (extended w step) new
  unfolding line_outcome
  line_steps = refined-quiet may.world taken (left-changed change is may.world.lined may.in_group sent lines) (record {
    seat = seat_of f.seats (actor step);
    named = refl;
    values = values ∙ sym (append-nil f.book.values);
    seats = seats ∙ sym (set-get_or f.seats (actor step - 1) no_seat);
    keeps = rw values may.keeps;
    submitted = may.submitted;
  })

-- what waits once stands alone
pub waits_once : {w : Rehearsal} {p k : ℕ} {f : Fields} → IsAllowed w (Postpone p k) f → alone k (line_at f.network.lines p) ≡ k ∷ []
waits_once {w} {p} {k} may = ap (alone k) (may.world.line p may.in_group)
    ∙ alone-is k (line_of w p) (may.world.lawful.distinct p) (names-free w (Postpone p k) may.allowed)

pub line_mail : (w : Rehearsal) (p : ℕ) → length (envelopes w.setting.members (line_outcome w p).mail) ≡ 0
unfolding line_outcome
line_mail w p = refl
