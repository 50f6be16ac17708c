-- Lines that would send what others wait for.
use Rattle.std.specs.Prelude.{◌≡◌, ℕ, ◌≤◌, List, Some, slice_get, ⊤}
use Rattle.ct_grammar.specs.declared.carried.Carried.{Carried}
use Rattle.ct_grammar.specs.declared.carried.Carried.TheVariants.{Data, Est, Prop, Ack, Nack, Dec}
use Rattle.ct_merge.specs.declared.log_act.LogAct.{LogAct}
use Rattle.ct_merge.specs.declared.log_act.LogAct.TheVariants.{Submit, Receive, Enter, Choose, Adopt, Suspect, Conclude}
use Rattle.ct_merge.specs.declared.log_line.LogLine.{LogLine}

-- the act is of the kind that sends this; messages and decisions are passed on where they are received
abbrev pub IsSender : LogAct → Carried → Type 0
IsSender (Submit c) (Data o n) = ⊤
IsSender (Receive name) (Data o n) = name.carried ≡ Data o n
IsSender (Receive name) (Dec k r) = name.carried ≡ Dec k r
IsSender Enter (Est k r) = ⊤
IsSender (Choose from) (Prop k r) = ⊤
IsSender Adopt (Ack k r) = ⊤
IsSender Suspect (Nack k r) = ⊤
IsSender Conclude (Dec k r) = ⊤
IsSender _ _ = ⊥

-- the line at this place of the log, behind so many, is of that kind
pub record IsSendingLine (log : List LogLine) (count place : ℕ) (carried : Carried) : Type 0 where
  pub behind : count ≤ place
  pub line : LogLine
  pub there : slice_get log place ≡ Some line
  pub sends : IsSender line.act carried
