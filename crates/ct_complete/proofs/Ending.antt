-- What a run comes to, of the stage that its record leads to.
use Rattle.std.proofs.Common.{◌≡◌, ℕ, List, [], ◌∷◌, ◌++◌, Some, Result, Ok, Err, ◌∙◌, ap, subst, string_bytes}
use Rattle.std.specs.Prelude.{IfErr, IsErrAnd}
use Rattle.ct_model.specs.Rehearsal.{Rehearsal}
use Rattle.ct_model.specs.declared.step.Step.{Step}
use Rattle.ct_world.specs.Setup.{record_of}
use Rattle.ct_world.specs.declared.setup.Setup.{Setup}
use Rattle.ct_records.specs.Replay.{IsAllowed}
use Rattle.ct_records.specs.Text.{record_text}
use Rattle.ct_play.specs.Goals.{uncut}
use Rattle.ct_play.specs.Played.{Played}
use Rattle.ct_play.specs.Playing.{played}
use Rattle.ct_play.specs.declared.line_fault.LineFault.{LineFault}
use Rattle.ct_play.specs.declared.line_fault.LineFault.TheVariants as line
use Rattle.ct_settled.specs.Completing.{completion}
use Rattle.ct_settled.specs.Hindrance.{hindrance}
use Rattle.ct_settled.specs.Settled.{AreDone}
use Rattle.ct_judging.specs.Hindering.{hindrance_text}
use Rattle.ct_complete.specs.declared.complete_fault.CompleteFault.{CompleteFault}
use Rattle.ct_complete.specs.declared.obstacle.Obstacle.{Obstacle}
use Rattle.ct_complete.specs.Completing.{IsCompleted, IsFaultOn, IsHindered}
use Rattle.ct_complete.specs.Faults.{of_line_fault}

-- the stage is that of the record
pub staged_is : (setup : Setup) (steps : List Step) (w : Rehearsal) (s : Played) → s ≡ uncut (record_of setup steps) → steps ≡ w.steps →
    record_of setup w.steps ≡ w → s ≡ uncut w
staged_is setup steps w s is same e = is ∙ ap (λ (l : List Step). uncut (record_of setup l)) same ∙ ap uncut e

pub completed_is : (w : Rehearsal) (s t : Played) (text : List ℕ) → s ≡ uncut w → IsAllowed w → played s (completion s) ≡ Ok t →
    AreDone t → text ≡ record_text t.rehearsal ++ 10 ∷ [] → IsCompleted w text
completed_is w s t text e allowed turned done is = record {
  allowed = allowed;
  end = t;
  turned = subst (λ (x : Played). played x (completion x) ≡ Ok t) e turned;
  done = done;
  is = is;
}

pub hindered_is : (w : Rehearsal) (s t : Played) (obstacle : Obstacle) → s ≡ uncut w → IsAllowed w → played s (completion s) ≡ Ok t →
    hindrance t ≡ Some obstacle.hindrance → string_bytes obstacle.text ≡ hindrance_text t.rehearsal obstacle.hindrance →
    IsHindered w obstacle
hindered_is w s t obstacle e allowed turned stands is = record {
  allowed = allowed;
  end = t;
  turned = subst (λ (x : Played). played x (completion x) ≡ Ok t) e turned;
  stands = stands;
  is = is;
}

-- a fault of the turns, as it is handed on
short_is : (w : Rehearsal) (fault : LineFault) → IsFaultOn w (of_line_fault fault)
short_is w line.Board = tt
short_is w _ = tt

pub handed_on : {T : Type 0} (w : Rehearsal) (r : Result T CompleteFault) (fault : LineFault) → IsErrAnd r (λ e. e ≡ of_line_fault fault) →
    IfErr r (IsFaultOn w)
handed_on w (Ok x) fault same = tt
handed_on w (Err e) fault same = rw same (short_is w fault)
