-- What a member sends to another no more.
use Rattle.std.specs.Prelude.{◌≡◌, ◌≢◌, ℕ, ◌<◌, ◌≤◌, Some}
use Rattle.ct_names.specs.Group.{IsMember, coordinator}
use Rattle.ct_names.specs.Membership.{IsIn}
use Rattle.ct_names.specs.Value.{Value}
use Rattle.ct_model.specs.AtValue.{Standing}
use Rattle.ct_model.specs.State.{Member}
use Rattle.ct_model.specs.declared.wire.Wire.TheVariants as wire
use Rattle.ct_merge.specs.Past.{HasDecision, IsPast}
use Rattle.ct_grammar.specs.declared.carried.Carried.{Carried}
use Rattle.ct_grammar.specs.declared.carried.Carried.TheVariants.{Data, Est, Prop, Ack, Nack, Dec}

-- a group of n has such: messages of its members, and what is sent in rounds of instances; each of these is counted from 1 on
abbrev pub IsOfGroup : ℕ → Carried → Type 0
IsOfGroup n (Data o i) = IsMember n o × (1 ≤ i)
IsOfGroup n (Est k r) = (1 ≤ k) × (1 ≤ r)
IsOfGroup n (Prop k r) = (1 ≤ k) × (1 ≤ r)
IsOfGroup n (Ack k r) = (1 ≤ k) × (1 ≤ r)
IsOfGroup n (Nack k r) = (1 ≤ k) × (1 ≤ r)
IsOfGroup n (Dec k r) = (1 ≤ k) × (1 ≤ r)

-- an estimate or a reply goes to its round's coordinator, which p isn't; a proposal comes from that, which q isn't
abbrev pub GoesElsewhere : ℕ → ℕ → ℕ → Carried → Type 0
GoesElsewhere n q p (Data o i) = ⊥
GoesElsewhere n q p (Est k r) = coordinator n r ≢ p
GoesElsewhere n q p (Prop k r) = coordinator n r ≢ q
GoesElsewhere n q p (Ack k r) = coordinator n r ≢ p
GoesElsewhere n q p (Nack k r) = coordinator n r ≢ p
GoesElsewhere n q p (Dec k r) = ⊥

-- the member received a decision of the instance, of whatever round, and has yet to enter this round of it: it never does
pub record SkipsRound (m : Member) (k r : ℕ) : Type 0 where
  pub first : 1 ≤ r
  pub round : ℕ
  pub decision : HasDecision m k round
  pub before : k ≡ m.last → (c : Standing) → m.current ≡ Some c → c.round < r

-- so q sends nothing of the round; of others' decisions it passes on each
abbrev pub IsSkipped : ℕ → ℕ → Member → Carried → Type 0
IsSkipped n q m (Data o i) = ⊥
IsSkipped n q m (Est k r) = SkipsRound m k r
IsSkipped n q m (Prop k r) = SkipsRound m k r
IsSkipped n q m (Ack k r) = SkipsRound m k r
IsSkipped n q m (Nack k r) = SkipsRound m k r
IsSkipped n q m (Dec k r) = (coordinator n r ≡ q) × SkipsRound m k r

-- the member received the round's proposal
pub record HasProposal (m : Member) (k r : ℕ) : Type 0 where
  pub value : Value
  pub is_in : IsIn (wire.Prop k r value) m.got

-- so it sends no nack
abbrev pub IsWithoutNack : Member → Carried → Type 0
IsWithoutNack m (Nack k r) = HasProposal m k r
IsWithoutNack m _ = ⊥

-- q, this member of a group of n that submitted so many messages, sends this to p no more: it has sent it or is past it; it goes
-- elsewhere; q skips its round; it is a nack, and q has the proposal
pub data SendsNoMore (n q p : ℕ) (m : Member) (count : ℕ) (c : Carried) : Type 0 where
  past : IsPast n q m count c → SendsNoMore n q p m count c
  elsewhere : GoesElsewhere n q p c → SendsNoMore n q p m count c
  skipped : IsSkipped n q m c → SendsNoMore n q p m count c
  proposed : IsWithoutNack m c → SendsNoMore n q p m count c
