-- Runs, whatever limits they pass.
use Rattle.std.specs.Prelude.{◌≡◌, ℕ, List, Some, true}
use Rattle.std.specs.Global.{Vec}
use Rattle.ct_names.specs.Group.{is_member}
use Rattle.ct_model.specs.AtValue.{Envelope}
use Rattle.ct_model.specs.Rehearsal.{Rehearsal, state_of}
use Rattle.ct_model.specs.Run.{run}
use Rattle.ct_model.specs.Senders.{senders}
use Rattle.ct_model.specs.State.{at_serial}
use Rattle.ct_play.specs.Picking.{carried_of}
use Rattle.ct_merge.specs.Logs.{log_of}
use Rattle.ct_merge.specs.Merging.{IsTakenTo}
use Rattle.ct_merge.specs.declared.log_line.LogLine.{LogLine}
use Rattle.ct_grammar.specs.declared.carried.Carried.{Carried}

-- each step of the record is enabled where it stands
abbrev pub IsRun : Rehearsal → Type 0
IsRun w = run w.setting w.steps ≡ Some (state_of w)

-- the serial is that of an envelope from p to q that carries this
pub record IsNamed (w : Rehearsal) (p q : ℕ) (c : Carried) (k : ℕ) : Type 0 where
  pub envelope : Envelope
  pub there : at_serial (state_of w).sent k ≡ Some envelope
  pub to : envelope.to ≡ q
  pub carried : carried_of envelope.wire ≡ c
  pub from : at_serial (senders w.setting w.steps) k ≡ Some p

-- the own steps of each member are those of the first lines of its log
abbrev pub IsBegun : Rehearsal → List (Vec LogLine) → Type 0
IsBegun w logs = (p : ℕ) → is_member w.setting.members p ≡ true → (count : ℕ) × IsTakenTo w p (log_of logs p) count
