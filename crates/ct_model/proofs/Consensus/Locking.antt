-- What is locked stays so, decisions agree, and a decision was proposed.
use Rattle.std.proofs.Common.{◌≡◌, ℕ, suc, zero, ◌≤◌, ◌<◌, List, Some, inl, inr, arith}
use Rattle.ct_names.specs.Group.{everyone, IsMember, IsSetOf, IsShared}
use Rattle.ct_names.specs.Membership.{IsIn}
use Rattle.ct_names.specs.Value.{Value}
use Rattle.ct_names.proofs.Groups.{once-everyone, majorities}
use Rattle.ct_names.proofs.Lists
use Rattle.ct_model.specs.declared.step.Step.{Step}
use Rattle.ct_model.specs.Setting.{Setting}
use Rattle.ct_model.specs.declared.wire.Wire.TheVariants.{Est, Prop, Ack, Dec}
use Rattle.ct_model.specs.State.{State, member, wires}
use Rattle.ct_model.specs.Received.{HasDecided, ackers, has_ack}
use Rattle.ct_model.specs.Run.{run}
use Rattle.ct_model.specs.Safe.{IsAgreed, IsLocked, IsProposed}
use Rattle.ct_model.proofs.Consensus.Sent.{Sent}
use Rattle.ct_model.proofs.Consensus.Facts.{IsCarried, IsHeard, IsPicked, IsFoundedEst, IsFoundedProp, IsFoundedAck, Holds}
use Rattle.ct_model.proofs.Consensus.Readings
use Rattle.ct_model.proofs.Consensus.Runs.{Holds-run}
use Rattle.ct_model.proofs.Record.Members.{p_or_other}

ackers-set : (s : Setting) (g : State) (k r : ℕ) → Holds s g → IsSetOf s.members (ackers (wires g) k r)
ackers-set s g k r holds = record {
  once = Lists.IsWithoutRepeats-filter (has_ack (wires g) k r) everyone once-everyone;
  within = λ p h. let f : IsFoundedAck s g k r p = holds.founded (Ack k r p) (Readings.acker-got (wires g) k r p h) in f.sender;
}

heard-set : (s : Setting) (g : State) (k r : ℕ) (v : Value) → Holds s g → (pick : IsPicked s g k r v) → IsSetOf s.members pick.heard
heard-set s g k r v holds pick = record {
  once = pick.once;
  within = λ p h.
      let its : IsHeard g k r p pick.ts = pick.others p h in
      let f : IsFoundedEst s g k r p its.value its.its_ts = holds.founded (Est k r p its.value its.its_ts) its.sent in
      f.sender;
}

module _ (s : Setting) (g : State) (holds : Holds s g) (k r : ℕ) (v : Value) (lock : IsLocked s g k r v) where
  -- a later round's proposal is that of a round between, as a member acked round r and was heard in the later one: its
  -- ts there was r or more, and so was the largest
  locked-below : (bound later : ℕ) (w : Value) → later < bound → r ≤ later → Sent g (Prop k later w) → w ≡ v
  locked-below zero later w lt le h = absurd (omega arith)
  locked-below (suc bound) later w lt le h =
      elim (p_or_other r later) [
        | inl e ↦ holds.one_proposal k later w v h (rw e at lock.proposed)
        | inr ne ↦
            let pick : IsPicked s g k later w = (holds.founded (Prop k later w) h).picked in
            let both : IsShared s.members (ackers (wires g) k r) pick.heard =
            majorities s.members (ackers (wires g) k r) pick.heard (ackers-set s g k r holds) (heard-set s g k later w holds pick)
            lock.acked pick.majority in
            let ack : Sent g (Ack k r both.member) = Readings.acker-got (wires g) k r both.member both.in_one in
            let founded_ack : IsFoundedAck s g k r both.member = holds.founded (Ack k r both.member) ack in
            let its : IsHeard g k later both.member pick.ts = pick.others both.member both.in_other in
            let low : r ≤ its.its_ts = holds.ts_after_ack k r later both.member its.value its.its_ts ack its.sent (omega arith) in
            let best : IsFoundedEst s g k later pick.from w pick.ts = holds.founded (Est k later pick.from w pick.ts) pick.best in
            let carried : IsCarried g k pick.ts later w = best.carried (omega arith) in
            locked-below bound carried.round w (omega arith) (omega arith) carried.sent
      ]

  locked_for_good : (later : ℕ) (w : Value) → r ≤ later → Sent g (Prop k later w) → w ≡ v
  locked_for_good later w le h = locked-below (suc later) later w (omega arith) le h

-- a decision is locked in some round
pub record IsSettled (s : Setting) (g : State) (k : ℕ) (v : Value) : Type 0 where
  pub round : ℕ
  pub lock : IsLocked s g k round v

pub settled : (s : Setting) (g : State) → Holds s g → (p k : ℕ) (v : Value) → IsMember s.members p → HasDecided g p k v → IsSettled s g k v
settled s g holds p k v is h =
    let d = Readings.decided-got (member g p).got k v h in
    record { round = d.round; lock = holds.founded (Dec k d.round v) (holds.got p is (Dec k d.round v) d.is_in) }

pub agreed : (s : Setting) (g : State) → Holds s g → (p q k : ℕ) (v w : Value) → IsMember s.members p → IsMember s.members q →
    HasDecided g p k v → HasDecided g q k w → v ≡ w
agreed s g holds p q k v w isp isq a b =
    let x = settled s g holds p k v isp a in
    let y = settled s g holds q k w isq b in
    let forth = locked_for_good s g holds k x.round v x.lock y.round w in
    let back = locked_for_good s g holds k y.round w y.lock x.round v in
    grind (arith, forth, back, x.lock.proposed, y.lock.proposed)

pub decided_proposed : (s : Setting) (g : State) → Holds s g → (p k : ℕ) (v : Value) → IsMember s.members p → HasDecided g p k v →
    IsProposed s g k v
decided_proposed s g holds p k v is h =
    let x = settled s g holds p k v is h in
    let f : IsFoundedProp s g k x.round v = holds.founded (Prop k x.round v) x.lock.proposed in
    f.proposed

-- the laws, over whole runs

pub locked : (s : Setting) (steps : List Step) (g : State) → run s steps ≡ Some g → (instance round later : ℕ) (v w : Value) →
    IsLocked s g instance round v → round ≤ later → IsIn (Prop instance later w) (wires g) → w ≡ v
locked s steps g e instance round later v w lock = locked_for_good s g (Holds-run s steps g e) instance round v lock later w

-- decisions are agreed on, and were proposed
pub agreed-run : (s : Setting) (steps : List Step) (g : State) → run s steps ≡ Some g → IsAgreed s g
agreed-run s steps g e =
    let holds = Holds-run s steps g e in record { agreed = agreed s g holds; proposed = decided_proposed s g holds }
