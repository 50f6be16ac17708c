-- Lines that no run of their logs takes.
use Rattle.std.specs.Prelude.{◌≡◌, ℕ, Bool, true, List, Some, length, slice_get}
use Rattle.std.specs.Global.{Vec}
use Rattle.ct_names.specs.Group.{IsMember}
use Rattle.ct_model.specs.AtValue.{Wire}
use Rattle.ct_model.specs.Next.{next}
use Rattle.ct_model.specs.Rehearsal.{Rehearsal, state_of}
use Rattle.ct_model.specs.State.{State, is_crashed, member, submissions}
use Rattle.ct_play.specs.Picking.{carried_of}
use Rattle.ct_grammar.specs.declared.carried.Carried.{Carried}
use Rattle.ct_merge.specs.Deeds.{IsFrom}
use Rattle.ct_merge.specs.Logs.{IsTold, log_of, own}
use Rattle.ct_merge.specs.Merging.{step_of}
use Rattle.ct_merge.specs.Unable.{IsOfGroup, SendsNoMore}
use Rattle.ct_merge.specs.declared.full_name.FullName.{FullName}
use Rattle.ct_merge.specs.declared.log_act.LogAct.TheVariants.{Receive}
use Rattle.ct_merge.specs.declared.log_line.LogLine.{LogLine}

-- an envelope of this name was sent to p
pub record IsThere (w : Rehearsal) (p : ℕ) (name : FullName) : Type 0 where
  pub serial : ℕ
  pub wire : Wire
  pub from : IsFrom w name.from p wire serial
  pub carried : carried_of wire ≡ name.carried

-- q never sends this to p behind the record: q is no member, or has crashed; no group of this size has it; or q, as it stands, sends it
-- to p no more
pub data IsDone (w : Rehearsal) (q p : ℕ) (c : Carried) : Type 0 where
  nobody : (IsMember w.setting.members q → ⊥) → IsDone w q p c
  stopped : is_crashed (state_of w) q ≡ true → IsDone w q p c
  unknown : (IsOfGroup w.setting.members c → ⊥) → IsDone w q p c
  unable : SendsNoMore w.setting.members q p (member (state_of w) q) (submissions (state_of w).submitted q) c → IsDone w q p c

-- why p's line is not taken behind this record, nor behind one that goes on, if these members don't: what it receives was not sent,
-- and its sender can't send it any more, or is one of these; p has crashed; or what it receives, if it is a receipt, was sent,
-- and no step of which it tells is enabled
pub data IsBarred (w : Rehearsal) (stays : ℕ → Bool) (p : ℕ) (line : LogLine) : Type 0 where
  never : (name : FullName) → line.act ≡ Receive name → (IsThere w p name → ⊥) → IsDone w name.from p name.carried →
      IsBarred w stays p line
  waits : (name : FullName) → line.act ≡ Receive name → (IsThere w p name → ⊥) → stays name.from ≡ true → IsBarred w stays p line
  down : is_crashed (state_of w) p ≡ true → IsBarred w stays p line
  refused : ((name : FullName) → line.act ≡ Receive name → IsThere w p name) →
      ((k : ℕ) (h : State) → next w.setting (state_of w) (step_of p k line.act) ≡ Some h →
      IsTold (record { before = w; step = step_of p k line.act }) line → ⊥) → IsBarred w stays p line

-- behind this record the next line of each of these members' logs is barred
abbrev pub AreBarred : List (Vec LogLine) → Rehearsal → (ℕ → Bool) → Type 0
AreBarred logs w stays = (p : ℕ) → stays p ≡ true → IsMember w.setting.members p → (line : LogLine) →
    slice_get (log_of logs p) (length (own w p)) ≡ Some line → IsBarred w stays p line
