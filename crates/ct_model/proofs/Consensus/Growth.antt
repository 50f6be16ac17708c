-- What is founded and sound stays so as the state grows.
use Rattle.std.proofs.Common.{◌≡◌, ℕ, ◌+◌, ◌≤◌, Bool, true, List, [], ◌∷◌, length, filter, Some, None, sym, ◌∙◌, arith, le_trans}
use Rattle.ct_names.specs.Group.{coordinator, IsMember, IsMajority, everyone}
use Rattle.ct_names.specs.Membership.{IsIn}
use Rattle.ct_names.specs.Value.{Value}
use Rattle.ct_names.proofs.Lists
use Rattle.ct_model.specs.AtValue.{Wire, Standing}
use Rattle.ct_model.specs.Setting.{Setting}
use Rattle.ct_model.specs.declared.wire.Wire.TheVariants.{Est, Prop, Ack, Dec}
use Rattle.ct_model.specs.State.{State, Member, Proposal, member, wires}
use Rattle.ct_model.specs.Received.{has_ack, is_ack}
use Rattle.ct_model.specs.Safe.{IsLocked, IsProposed}
use Rattle.ct_model.proofs.Consensus.Sent.{Sent}
use Rattle.ct_model.proofs.Consensus.Facts.{Reached, HasRound, HasTs, HasChosen, IsCarried, IsHeard, IsPicked, IsFounded, IsSound}
use Rattle.ct_model.proofs.Consensus.Facts.Reached.{earlier, now}
use Rattle.ct_model.proofs.Basics.Options.{some-same, some-none}

-- from one standing to a later one in the same instance
pub record IsOnward (c d : Standing) : Type 0 where
  pub round : c.round ≤ d.round
  pub ts : c.ts ≤ d.ts
  pub chosen : (r : ℕ) → HasChosen r c → HasChosen r d

-- how a step moves a member on
pub data Advance (before : Member) (after : Member) : Type 0 where
  stays : after.last ≡ before.last → after.current ≡ before.current → Advance before after
  turns : after.last ≡ before.last → (c d : Standing) → before.current ≡ Some c → after.current ≡ Some d → IsOnward c d →
      Advance before after
  opens : after.last ≡ before.last + 1 → Advance before after
  closes : after.last ≡ before.last → after.current ≡ None → Advance before after

Reached-advance : (m o : Member) (k : ℕ) (P : Standing → Type 0) → ((c d : Standing) → IsOnward c d → P c → P d) → Advance m o →
    Reached m k P → Reached o k P
Reached-advance m o k P keep (stays l e) (earlier h) = earlier (omega arith)
Reached-advance m o k P keep (stays l e) (now h at) = now (h ∙ sym l) (λ c is. at c (sym e ∙ is))
Reached-advance m o k P keep (turns l c d is then on) (earlier h) = earlier (omega arith)
Reached-advance m o k P keep (turns l c d is then on) (now h at) =
    now (h ∙ sym l) (λ x isx. rw (some-same d x (sym then ∙ isx)) at (keep c d on (at c is)))
Reached-advance m o k P keep (opens l) (earlier h) = earlier (omega arith)
Reached-advance m o k P keep (opens l) (now h at) = earlier (omega arith)
Reached-advance m o k P keep (closes l e) (earlier h) = earlier (omega arith)
Reached-advance m o k P keep (closes l e) (now h at) = now (h ∙ sym l) (λ c is. some-none c (sym e ∙ is))

-- h is a later state than g
pub record Grows (s : Setting) (g h : State) : Type 0 where
  pub sent : (w : Wire) → Sent g w → Sent h w
  pub proposals : (x : Proposal) → IsIn x g.proposals → IsIn x h.proposals
  pub advance : (q : ℕ) → IsMember s.members q → Advance (member g q) (member h q)

-- more members pass a weaker test
filter-more : (one other : ℕ → Bool) → ((p : ℕ) → one p ≡ true → other p ≡ true) → (xs : List ℕ) →
    length (filter one xs) ≤ length (filter other xs)
filter-more one other h [] = omega arith
filter-more one other h (x ∷ xs) = grind (arith, h x, filter-more one other h xs)

pub IsMajority-more : (n : ℕ) (one other : ℕ → Bool) → ((p : ℕ) → one p ≡ true → other p ≡ true) → IsMajority n (filter one everyone) →
    IsMajority n (filter other everyone)
IsMajority-more n one other h m = le_trans m (filter-more one other h everyone)

-- who acked among some wires acked among more
pub acked-more : (xs ys : List Wire) → ((w : Wire) → IsIn w xs → IsIn w ys) → (k r p : ℕ) → has_ack xs k r p ≡ true →
    has_ack ys k r p ≡ true
acked-more xs ys sub k r p h =
    let f = Lists.found-list_any (is_ack k r p) xs h in
    Lists.list_any-found (is_ack k r p) f.item ys (sub f.item f.is_in) f.passes

module _ (s : Setting) (g h : State) (up : Grows s g h) where
  pub IsProposed-grows : (k : ℕ) (v : Value) → IsProposed s g k v → IsProposed s h k v
  IsProposed-grows k v f = search (f, up.proposals)

  pub IsCarried-grows : (k ts bound : ℕ) (v : Value) → IsCarried g k ts bound v → IsCarried h k ts bound v
  IsCarried-grows k ts bound v f = search (f, up.sent)

  Reached-grows : (q k : ℕ) (P : Standing → Type 0) → ((c d : Standing) → IsOnward c d → P c → P d) → IsMember s.members q →
      Reached (member g q) k P → Reached (member h q) k P
  Reached-grows q k P keep is = Reached-advance (member g q) (member h q) k P keep (up.advance q is)

  IsHeard-grows : (k r q ts : ℕ) → IsHeard g k r q ts → IsHeard h k r q ts
  IsHeard-grows k r q ts f = record { value = f.value; its_ts = f.its_ts; sent = up.sent (Est k r q f.value f.its_ts) f.sent; low = f.low }

  IsPicked-grows : (k r : ℕ) (v : Value) → IsPicked s g k r v → IsPicked s h k r v
  IsPicked-grows k r v f = search (f, f.others, up.sent, IsHeard-grows)

  pub IsLocked-grows : (k r : ℕ) (v : Value) → IsLocked s g k r v → IsLocked s h k r v
  IsLocked-grows k r v f = record {
    proposed = up.sent (Prop k r v) f.proposed;
    acked = IsMajority-more s.members (has_ack (wires g) k r) (has_ack (wires h) k r) (acked-more (wires g) (wires h) up.sent k r) f.acked;
  }

  pub IsFounded-grows : (w : Wire) → IsFounded s g w → IsFounded s h w
  IsFounded-grows (Est k r q v ts) f =
      let reached = Reached-grows q k (HasRound r) (λ c d on x. omega (arith, on.round)) f.sender f.reached in
      grind (arith, f, reached, IsProposed-grows k v f.proposed, IsCarried-grows k ts r v)
  IsFounded-grows (Prop k r v) f =
      let reached = Reached-grows (coordinator s.members r) k (HasChosen r) (λ c d on. on.chosen r) f.sender f.reached in
      grind (arith, f, reached, IsProposed-grows k v f.proposed, IsPicked-grows k r v f.picked)
  IsFounded-grows (Ack k r q) f =
      let reached = Reached-grows q k (HasTs r) (λ c d on x. omega (arith, on.ts)) f.sender f.reached in
      grind (arith, f, reached)
  IsFounded-grows (Dec k r v) f = IsLocked-grows k r v f
  IsFounded-grows _ f = f

  pub IsSound-grows : (q k : ℕ) (c : Standing) → IsSound s g q k c → IsSound s h q k c
  IsSound-grows q k c f = grind (
    arith,
    f,
    IsProposed-grows k c.estimate f.proposed,
    IsCarried-grows k c.ts (c.round + 1) c.estimate,
    up.sent (Prop k c.round c.estimate),
  )
