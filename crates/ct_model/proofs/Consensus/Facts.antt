-- The facts that every step keeps.
use Rattle.std.proofs.Common.{◌≡◌, ℕ, ◌+◌, ◌<◌, ◌≤◌, List, true, false, length, ◌⊎◌, Some}
use Rattle.ct_names.specs.Group.{coordinator, IsMember, IsMajority}
use Rattle.ct_names.specs.Membership.{IsIn, IsWithoutRepeats}
use Rattle.ct_names.specs.Value.{Value}
use Rattle.ct_model.specs.AtValue.{Wire, Standing}
use Rattle.ct_model.specs.Setting.{Setting}
use Rattle.ct_model.specs.declared.wire.Wire.TheVariants.{Est, Prop, Ack, Dec}
use Rattle.ct_model.specs.State.{State, Member, member}
use Rattle.ct_model.specs.Phases.{is_rest, is_gather, is_wait, is_tally}
use Rattle.ct_model.specs.Safe.{IsLocked, IsProposed}
use Rattle.ct_model.proofs.Consensus.Sent.{Sent}
pub use Rattle.ct_model.proofs.Basics.Groups.{member_is}

-- a member is past instance k, or it began k last, and P holds of its standing there while k is open
pub data Reached (m : Member) (k : ℕ) (P : Standing → Type 0) : Type 0 where
  earlier : k < m.last → Reached m k P
  now : k ≡ m.last → ((c : Standing) → m.current ≡ Some c → P c) → Reached m k P

-- it entered the round
abbrev pub HasRound : ℕ → Standing → Type 0
HasRound r c = r ≤ c.round

-- its ts is this, or larger
abbrev pub HasTs : ℕ → Standing → Type 0
HasTs r c = r ≤ c.ts

-- it is past phase Gather of the round
abbrev pub HasChosen : ℕ → Standing → Type 0
HasChosen r c = (r < c.round) ⊎ ((r ≡ c.round) × (is_gather c.phase ≡ false))

-- the value was proposed in a round from ts on, below a bound
pub record IsCarried (g : State) (k ts bound : ℕ) (v : Value) : Type 0 where
  pub round : ℕ
  pub from_ts : ts ≤ round
  pub below : round < bound
  pub sent : Sent g (Prop k round v)

-- q sent an estimate for the round whose ts is at most this
pub record IsHeard (g : State) (k r q ts : ℕ) : Type 0 where
  pub value : Value
  pub its_ts : ℕ
  pub sent : Sent g (Est k r q value its_ts)
  pub low : its_ts ≤ ts

-- the value came with the largest ts among a majority's estimates for the round
pub record IsPicked (s : Setting) (g : State) (k r : ℕ) (v : Value) : Type 0 where
  pub heard : List ℕ
  pub once : IsWithoutRepeats heard
  pub majority : IsMajority s.members heard
  pub from : ℕ
  pub ts : ℕ
  pub best : Sent g (Est k r from v ts)
  pub others : (q : ℕ) → IsIn q heard → IsHeard g k r q ts

-- why an estimate was sent
pub record IsFoundedEst (s : Setting) (g : State) (k r q : ℕ) (v : Value) (ts : ℕ) : Type 0 where
  pub sender : IsMember s.members q
  pub reached : Reached (member g q) k (HasRound r)
  pub proposed : IsProposed s g k v
  pub carried : 0 < ts → IsCarried g k ts r v

-- why a proposal was sent
pub record IsFoundedProp (s : Setting) (g : State) (k r : ℕ) (v : Value) : Type 0 where
  pub first : 1 ≤ r
  pub sender : IsMember s.members (coordinator s.members r)
  pub reached : Reached (member g (coordinator s.members r)) k (HasChosen r)
  pub proposed : IsProposed s g k v
  pub picked : IsPicked s g k r v

-- why an ack was sent
pub record IsFoundedAck (s : Setting) (g : State) (k r q : ℕ) : Type 0 where
  pub first : 1 ≤ r
  pub sender : IsMember s.members q
  pub reached : Reached (member g q) k (HasTs r)

-- what holds of a wire that was sent, from then on
abbrev pub IsFounded : Setting → State → Wire → Type 0
IsFounded s g (Est k r q v ts) = IsFoundedEst s g k r q v ts
IsFounded s g (Prop k r v) = IsFoundedProp s g k r v
IsFounded s g (Ack k r q) = IsFoundedAck s g k r q
IsFounded s g (Dec k r v) = IsLocked s g k r v
IsFounded s g _ = Unit {0}

-- what holds of the standing of q in its open instance k: among others, who coordinates a round and waits for its own
-- proposal has it as estimate, and so has who tallies
pub record IsSound (s : Setting) (g : State) (q k : ℕ) (c : Standing) : Type 0 where
  pub ts_low : c.ts ≤ c.round
  pub started : is_rest c.phase ≡ false → 1 ≤ c.round
  pub gathers : is_gather c.phase ≡ true → coordinator s.members c.round ≡ q
  pub tallies : is_tally c.phase ≡ true → coordinator s.members c.round ≡ q
  pub proposed : IsProposed s g k c.estimate
  pub carried : 0 < c.ts → IsCarried g k c.ts (c.round + 1) c.estimate
  pub waits_own : is_wait c.phase ≡ true → coordinator s.members c.round ≡ q → Sent g (Prop k c.round c.estimate)
  pub tallies_own : is_tally c.phase ≡ true → Sent g (Prop k c.round c.estimate)

-- there are as many members as were set, what they got was sent, their standings are sound, what was sent is founded;
-- a round has one proposal; who acked a round sends its later estimates with its ts or a larger one
pub record Holds (s : Setting) (g : State) : Type 0 where
  pub size : length g.members ≡ s.members
  pub got : (p : ℕ) → IsMember s.members p → (w : Wire) → IsIn w (member g p).got → Sent g w
  pub sound : (p : ℕ) → IsMember s.members p → (c : Standing) → (member g p).current ≡ Some c → IsSound s g p (member g p).last c
  pub founded : (w : Wire) → Sent g w → IsFounded s g w
  pub one_proposal : (k r : ℕ) (v w : Value) → Sent g (Prop k r v) → Sent g (Prop k r w) → v ≡ w
  pub ts_after_ack : (k r later q : ℕ) (v : Value) (ts : ℕ) → Sent g (Ack k r q) → Sent g (Est k later q v ts) → r < later → r ≤ ts
