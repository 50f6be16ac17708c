-- What a rehearsal leaves.
use Rattle.std.specs.Prelude.{◌≡◌, ◌+◌, ℕ, List, None, length}
use Rattle.ct_model.specs.Rehearsal.{Rehearsal, state_of}
use Rattle.ct_model.specs.Safe.{IsSafe}
use Rattle.ct_rehearse.specs.declared.plan.Plan.{Plan}
use Rattle.ct_rehearse.specs.declared.rehearsed.Rehearsed.{Rehearsed}
use Rattle.ct_rehearse.specs.declared.rehearse_fault.RehearseFault.{RehearseFault}
use Rattle.ct_rehearse.specs.declared.run_fault.RunFault.TheVariants.{Memory}
use Rattle.ct_rehearse.specs.Plans.{turns_made, turns_planned}

-- all turns of the plan were made on a world with this record and a board of these cells: the record has grown by those that
-- were steps, its state is safe, nothing is prepared, and the board is the same
pub record IsRehearsed (old : Rehearsal) (cells : List ℕ) (plan : Plan) (done : Rehearsed) : Type 0 where
  pub made : turns_made done.made ≡ turns_planned old.setting.members plan
  pub steps : length done.world.rehearsal.steps ≡ length old.steps + done.made.steps
  pub safe : IsSafe done.world.rehearsal.setting (state_of done.world.rehearsal)
  pub none : done.world.prepared ≡ None
  pub board : done.board ≡ cells

-- the run failed: without memory for it no step joined the record; the state is safe, nothing is prepared, and the board is the
-- same
pub record IsHandedBack (old : Rehearsal) (cells : List ℕ) (fault : RehearseFault) : Type 0 where
  pub memory : fault.cause ≡ Memory → length fault.world.rehearsal.steps ≡ length old.steps
  pub safe : IsSafe fault.world.rehearsal.setting (state_of fault.world.rehearsal)
  pub none : fault.world.prepared ≡ None
  pub board : fault.board ≡ cells
