-- The faults of making runs smaller.
use Rattle.std.specs.Prelude.{⊤, ℕ, Bool, List, [], ◌∷◌, codes, decimal}
use Rattle.std.specs.List.{concat}
use Rattle.ct_model.specs.declared.step.Step.{Step}
use Rattle.ct_world.specs.declared.setup.Setup.{Setup}
use Rattle.ct_streams.specs.declared.status.Status.TheVariants as status
use Rattle.ct_streams.specs.Statuses.{code}
use Rattle.ct_records.specs.declared.program_fault.ProgramFault.TheVariants.{Memory}
use Rattle.ct_told.specs.Faults as show
use Rattle.ct_told.specs.declared.show_fault.ShowFault.TheVariants.{Program}
use Rattle.ct_play.specs.Played.{Played}
use Rattle.ct_play.specs.declared.line_fault.LineFault.{LineFault}
use Rattle.ct_play.specs.declared.line_fault.LineFault.TheVariants as line
use Rattle.ct_shrink.specs.Runs.{IsNeverShown}
use Rattle.ct_shrink.specs.declared.shrink_fault.ShrinkFault.{ShrinkFault}
use Rattle.ct_shrink.specs.declared.shrink_fault.ShrinkFault.TheVariants.{NoMember, NotShown, Board, Show}

abbrev pub status_of : ShrinkFault → ℕ
status_of (NoMember member members) = code status.Words
status_of NotShown = code status.Refused
status_of Board = code status.Memory
status_of (Show fault) = show.status_of fault

-- the line for standard error
abbrev pub fault_text : ShrinkFault → List ℕ
fault_text (NoMember member members) = concat (codes "no member " ∷ decimal member ∷ codes " of " ∷ decimal members ∷ [])
fault_text NotShown = codes "the goal is not shown"
fault_text Board = codes "board refused"
fault_text (Show fault) = show.fault_text fault

-- want of memory, or of the board
abbrev pub of_line_fault : LineFault → ShrinkFault
of_line_fault line.Board = Board
of_line_fault _ = Show (Program Memory)

-- the steps never show the goal; of memory and of the board nothing is said
abbrev pub IsFaultOf : (Played → Bool) → Setup → List Step → ShrinkFault → Type 0
IsFaultOf test setup steps NotShown = IsNeverShown test setup steps
IsFaultOf test setup steps Board = ⊤
IsFaultOf test setup steps (Show (Program Memory)) = ⊤
IsFaultOf test setup steps _ = ⊥
