-- A fault of a record's steps, as what the input says.
use Rattle.std.proofs.Common.{◌≡◌, ℕ, List, Ok, subst, inl, inr}
use Rattle.ct_model.specs.Rehearsal.{Rehearsal}
use Rattle.ct_model.specs.declared.step.Step.{Step}
use Rattle.ct_records.specs.declared.program_fault.ProgramFault.TheVariants as of
use Rattle.ct_records.specs.ProgramFault.{IsOfReplayFault}
use Rattle.ct_records.specs.Script.{script}
use Rattle.ct_records.specs.declared.program_fault.ProgramFault.{ProgramFault}
use Rattle.ct_records.proofs.Refused.{is_refused}
use Rattle.ct_world.specs.Replay.{IsFaultOf}
use Rattle.ct_world.specs.declared.replay_fault.ReplayFault.{ReplayFault}
use Rattle.ct_told.specs.declared.show_fault.ShowFault.TheVariants.{Program}
use Rattle.ct_listing.specs.Listing.{FailsOn, IsRefusal}

pub refusal_fails : (w : Rehearsal) (fault : ProgramFault) (input : List ℕ) → IsRefusal fault w → script input ≡ Ok w →
    FailsOn (Program fault) input
refusal_fails w (of.Replay at refusal) input h e = rw e h
refusal_fails w of.Memory input h e = tt
refusal_fails w _ input h e = absurd h

-- what a replay of the record's steps answers
pub replay_refusal : (w : Rehearsal) (steps : List Step) (replay : ReplayFault) (fault : ProgramFault) → steps ≡ w.steps →
    IsFaultOf w.setting w.cells steps replay.at replay.refusal → IsOfReplayFault replay fault → IsRefusal fault w
replay_refusal w steps replay fault same h (inl memory) = rw memory.1 tt
replay_refusal w steps replay fault same h (inr refused) =
    rw refused.1 (is_refused w replay.at replay.refusal
    (subst (λ (ss : List Step). IsFaultOf w.setting w.cells ss replay.at replay.refusal) same h) refused.0)
