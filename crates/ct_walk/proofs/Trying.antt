-- A step that is tried.
use Rattle.std.proofs.Common.{◌≡◌, ◌∙◌, false, Option, Some, None, Ok, Err, ap, arith, refl, subst}
use Rattle.std.specs.Prelude.{if◌then◌else◌, is_none}
use Rattle.ct_model.specs.Rehearsal.{extended}
use Rattle.ct_names.specs.declared.refusal.Refusal.{Refusal}
use Rattle.ct_model.specs.Cause.{cause}
use Rattle.ct_model.specs.declared.step.Step.{Step}
use Rattle.ct_choices.specs.Choices.{after_try}
use Rattle.ct_play.specs.Acting.{stepped, unless_refused}
use Rattle.ct_play.specs.Faults.{is_short, IsFaultOf, UnlessShort}
use Rattle.ct_play.specs.Goals.{Watched}
use Rattle.ct_play.specs.declared.line_fault.LineFault.{LineFault}
use Rattle.ct_play.specs.Played.{Played}

taken_by : (s t : Played) (step : Step) (c : Option Refusal) → unless_refused s step c ≡ Ok t →
    t.rehearsal ≡ (if is_none c then extended s.rehearsal step else s.rehearsal)
taken_by s t step None taken = grind arith
taken_by s t step (Some refusal) taken = grind arith

refused_by : (s : Played) (step : Step) (fault : LineFault) (c : Option Refusal) → unless_refused s step c ≡ Err fault →
    s.rehearsal ≡ (if is_none c then extended s.rehearsal step else s.rehearsal)
refused_by s step fault None refused = grind arith
refused_by s step fault (Some refusal) refused = refl

-- it joins the record
pub after_taken : (s t : Played) (step : Step) → stepped s step ≡ Ok t → t.rehearsal ≡ after_try s.rehearsal (Some step)
unfolding stepped
after_taken s t step taken = taken_by s t step (cause s.rehearsal step) taken

-- the record stays
pub after_refused : (s : Played) (step : Step) (fault : LineFault) → stepped s step ≡ Err fault →
    s.rehearsal ≡ after_try s.rehearsal (Some step)
unfolding stepped
after_refused s step fault refused = refused_by s step fault (cause s.rehearsal step) refused

-- the same where nothing was short
pub after_kept : (old new : Watched) (step : Step) (fault : LineFault) → is_short fault ≡ false →
    IsFaultOf (stepped old.played step) fault → new ≡ old → new.played.rehearsal ≡ after_try old.played.rehearsal (Some step)
after_kept old new step fault told refused same =
    let is : stepped old.played step ≡ Err fault = subst (λ b. UnlessShort b (stepped old.played step ≡ Err fault)) told refused in
    ap (λ (w : Watched). w.played.rehearsal) same ∙ after_refused old.played step fault is
