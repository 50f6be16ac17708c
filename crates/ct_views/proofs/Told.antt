-- What is told of files whose records are checked.
use Rattle.std.proofs.Common.{◌≡◌, ℕ, List, Option, Some, None, Result, Ok, inl, inr, subst}
use Rattle.std.specs.Prelude.{IfErr, IfSome, IsErrAnd}
use Rattle.ct_model.specs.declared.step.Step.{Step}
use Rattle.ct_model.specs.Rehearsal.{Rehearsal}
use Rattle.ct_world.specs.Replay as world
use Rattle.ct_world.specs.declared.replay_fault.ReplayFault.{ReplayFault}
use Rattle.ct_records.specs.Script.{script}
use Rattle.ct_records.proofs.Refused.{err_seen, is_refused}
use Rattle.ct_told.specs.Faults.{IsOfReplayFault}
use Rattle.ct_told.specs.declared.show_fault.ShowFault.{ShowFault}
use Rattle.ct_told.specs.declared.show_fault.ShowFault.TheVariants.{NoMember, TooManySteps, Unread, Program}
use Rattle.ct_views.specs.Checking.{IsFaultOf}

module _ (w : Rehearsal) (steps : List Step) (replay : ReplayFault) (same : steps ≡ w.steps)
    (h : world.IsFaultOf w.setting w.cells steps replay.at replay.refusal) where
  -- what a replay of the steps of a record answers is a fault of the input
  refused : (input : List ℕ) (fault : ShowFault) → script input ≡ Ok w → IsOfReplayFault replay fault → IsFaultOf fault input
  refused input (NoMember member members) e of = absurd of
  refused input (TooManySteps count) e of = absurd of
  refused input (Unread told) e of = absurd of
  refused input (Program fault) e (inl memory) = rw memory.1 tt
  refused input (Program fault) e (inr other) =
      rw other.1 (rw e (is_refused w replay.at replay.refusal
      (subst (λ ss. world.IsFaultOf w.setting w.cells ss replay.at replay.refusal) same h) other.0))

  pub refused_seen : {T : Type 0} (r : Result T ShowFault) (left : Option (List ℕ)) → IsErrAnd r (IsOfReplayFault replay) →
      IfSome left (λ input. script input ≡ Ok w) → IfErr r (λ e. IfSome left (IsFaultOf e))
  refused_seen r None is read = err_seen r (IsOfReplayFault replay) (λ e. IfSome None (IsFaultOf e)) (λ e of. tt) is
  refused_seen r (Some input) is read = err_seen r (IsOfReplayFault replay) (λ e. IsFaultOf e input) (λ e of. refused input e read of) is
