-- Marks of what was received, one step more at a time.
use Rattle.std.proofs.Common.{◌≡◌, ℕ, ◌+◌, ◌<◌, Bool, false, List, length, take, get_or, ap, sym, ◌∙◌, arith}
use Rattle.std.specs.Prelude.{◌||◌}
use Rattle.std.specs.List.{list_any}
use Rattle.std.proofs.lemmas.List.Folds.{list_any_more}
use Rattle.ct_model.specs.Rehearsal.{Rehearsal, state_of}
use Rattle.ct_model.specs.declared.step.Step.{Step}
use Rattle.ct_settled.specs.Hindrance.{is_receipt, was_received}
use Rattle.ct_settled.specs.Marks.{AreMarked}

-- the marks of what these steps received
pub record AreMarkedBy (w : Rehearsal) (steps : List Step) (marks : List Bool) : Type 0 where
  pub all : length marks ≡ length (state_of w).sent
  pub each : (i : ℕ) → i < length marks → get_or marks i false ≡ list_any (is_receipt w (i + 1)) steps

pub one_more : (w : Rehearsal) (steps : List Step) (old new : List Bool) (i : ℕ) (d : Step) → i < length steps →
    AreMarkedBy w (take i steps) old → length new ≡ length old →
    ((k : ℕ) → k < length old → get_or new k false ≡ (get_or old k false || is_receipt w (k + 1) (get_or steps i d))) →
    AreMarkedBy w (take (i + 1) steps) new
one_more w steps old new i d lt before same here = record {
  all = omega (arith, before.all);
  each = λ k h.
      let h : k < length old = omega arith in
      here k h
      ∙ (ap (λ b. b || is_receipt w (k + 1) (get_or steps i d)) (before.each k h)
      ∙ sym (list_any_more (is_receipt w (k + 1)) steps i d lt));
}

pub all_marked : (w : Rehearsal) (steps : List Step) (marks : List Bool) → steps ≡ w.steps → AreMarkedBy w steps marks → AreMarked w marks
unfolding was_received
all_marked w steps marks e m = record { all = m.all; each = λ i lt. m.each i lt ∙ ap (list_any (is_receipt w (i + 1))) e }
