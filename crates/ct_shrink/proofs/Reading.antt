-- What is left of a record, and why nothing is.
use Rattle.std.proofs.Common.{◌≡◌, ℕ, Bool, List, Result, Ok, true, false, length, ◌≤◌, sym, subst, ◌∙◌}
use Rattle.std.specs.Prelude.{All, IfErr, IsErrAnd}
use Rattle.ct_model.specs.Rehearsal.{Rehearsal}
use Rattle.ct_model.specs.declared.step.Step.{Step}
use Rattle.ct_grammar.specs.declared.goal.Goal.{Goal}
use Rattle.ct_records.specs.declared.program_fault.ProgramFault.TheVariants as of
use Rattle.ct_records.specs.Replay.{IsAllowed}
use Rattle.ct_records.specs.Script.{script}
use Rattle.ct_told.proofs.Seen.{handed}
use Rattle.ct_told.specs.declared.show_fault.ShowFault.TheVariants.{Program}
use Rattle.ct_world.specs.Setup.{record_of}
use Rattle.ct_world.specs.declared.setup.Setup.{Setup}
use Rattle.ct_play.specs.Played.{Played}
use Rattle.ct_listing.proofs.Seen.{refusal_fails}
use Rattle.ct_shrink.specs.Faults.{IsFaultOf}
use Rattle.ct_shrink.specs.Naming.{IsByContent}
use Rattle.ct_shrink.specs.Runs.{IsNeverShown, IsNoLarger, IsRunOf}
use Rattle.ct_shrink.specs.Trials.{IsLeast}
use Rattle.ct_shrink.specs.Writing.{FailsOn, IsFaultOn, IsLeft, KnowsMembers}
use Rattle.ct_shrink.specs.declared.line.Line.{Line}
use Rattle.ct_shrink.specs.declared.shrink_fault.ShrinkFault.{ShrinkFault}
use Rattle.ct_shrink.specs.declared.shrink_fault.ShrinkFault.TheVariants.{NoMember as Stranger, NotShown, Board, Show}
use Rattle.ct_shrink.specs.declared.summary.Summary.{Summary}

pub is_left : (test : Played → Bool) (tries : ℕ) (w : Rehearsal) (told : Summary) (left : Rehearsal) (setup : Setup) (lines : List Line) →
    record_of setup w.steps ≡ w → IsAllowed w → IsRunOf test setup lines left → All IsByContent lines →
    IsNoLarger test setup w.steps (length left.steps) →
    (told.is_stopped ≡ false → IsLeast test setup lines) → (told.is_stopped ≡ true → told.trials ≡ tries) → told.trials ≤ tries →
    told.steps ≡ length w.steps → told.left ≡ length lines → IsLeft test tries w told left
is_left test tries w told left setup lines same allowed run named no_larger least stopped few steps count = record {
  setup = setup;
  same = same;
  allowed = allowed;
  lines = lines;
  run = run;
  named = named;
  no_larger = no_larger;
  least = least;
  stopped = stopped;
  few = few;
  steps = steps;
  count = count ∙ sym run.count;
}

fault_on : (test : Played → Bool) (setup : Setup) (steps : List Step) (w : Rehearsal) (fault : ShrinkFault) → record_of setup w.steps ≡ w →
    steps ≡ w.steps → IsFaultOf test setup steps fault → IsFaultOn test w fault
fault_on test setup steps w NotShown e same h = (setup, e, subst (λ (l : List Step). IsNeverShown test setup l) same h)
fault_on test setup steps w Board e same h = tt
fault_on test setup steps w (Show (Program of.Memory)) e same h = tt
fault_on test setup steps w _ e same h = absurd h

-- the fault of making the run smaller, as it is handed on
pub faults_on : {T : Type 0} (test : Played → Bool) (setup : Setup) (steps : List Step) (w : Rehearsal) (r : Result T ShrinkFault)
    (fault : ShrinkFault) → record_of setup w.steps ≡ w → steps ≡ w.steps → IsErrAnd r (λ e. e ≡ fault) →
    IsFaultOf test setup steps fault → IfErr r (IsFaultOn test w)
faults_on test setup steps w r fault e same is h = handed r fault (IsFaultOn test w) is (fault_on test setup steps w fault e same h)

pub fails : (test : Played → Bool) (goal : Goal) (w : Rehearsal) (fault : ShrinkFault) (input : List ℕ) → IsFaultOn test w fault →
    KnowsMembers goal w → script input ≡ Ok w → FailsOn test goal fault input
fails test goal w (Stranger member members) input h known e = absurd h
fails test goal w NotShown input h known e = rw e (known, h)
fails test goal w Board input h known e = tt
fails test goal w (Show (Program fault)) input h known e = refusal_fails w fault input h e
fails test goal w (Show _) input h known e = absurd h
