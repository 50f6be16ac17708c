-- A refused step of a replay.
use Rattle.ct_records.proofs.Common.{◌≡◌, ℕ, ◌-◌, zero, suc, List, Result, Ok, Err, inl, inr, subst, arith, ◌≢◌, IfErr, IsErrAnd, Step}
use Rattle.ct_records.proofs.Common.{Rehearsal, ProgramFault, IsOfReplayFault, script, IsRefused, IsFaultIn}
use Rattle.ct_names.specs.declared.refusal.Refusal.{Refusal}
use Rattle.ct_world.specs.Replay.{IsFaultOf}
use Rattle.ct_world.specs.declared.replay_fault.ReplayFault.{ReplayFault}
use Rattle.ct_names.specs.declared.refusal.Refusal.TheVariants as cause

pub is_refused : (w : Rehearsal) (at : ℕ) (refusal : Refusal) → IsFaultOf w.setting w.cells w.steps at refusal →
    refusal ≢ cause.OutOfMemory → IsRefused w at refusal
is_refused w zero refusal h other = absurd (other h)
is_refused w (suc i) refusal h other =
    let before : suc i - 1 ≡ i = omega arith in
    record { counted = omega arith; refused = rw before h; not_memory = other }

-- the error of a result
pub err_seen : {T E : Type 0} (r : Result T E) (P Q : E → Type 0) → ((e : E) → P e → Q e) → IsErrAnd r P → IfErr r Q
err_seen (Ok x) P Q f h = tt
err_seen (Err e) P Q f h = f e h

-- what a replay of the steps of a script answers is a fault in the script
pub replay_refused : (input : List ℕ) (w : Rehearsal) (steps : List Step) (replay : ReplayFault) (fault : ProgramFault) →
    script input ≡ Ok w → steps ≡ w.steps
    → IsFaultOf w.setting w.cells steps replay.at replay.refusal → IsOfReplayFault replay fault → IsFaultIn fault input
replay_refused input w steps replay fault e same h (inl memory) = rw memory.1 tt
replay_refused input w steps replay fault e same h (inr refused) =
    rw refused.1 (rw e (is_refused w replay.at replay.refusal
    (subst (λ ss. IsFaultOf w.setting w.cells ss replay.at replay.refusal) same h) refused.0))
