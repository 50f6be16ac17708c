-- What a member has sent for the instance that it has open: the estimate of each round that it entered, a reply to each that it is done
-- with, and the proposal of each that it coordinates and chose in.
use Rattle.std.proofs.Common.{◌≡◌, ℕ, ◌+◌, ◌≤◌, ◌<◌, true, false, Some, refl, inl, inr, ◌⊎◌, arith}
use Rattle.std.proofs.lemmas.Bool.{cases_lt}
use Rattle.std.proofs.lemmas.Bool.Decides.{nat_tests}
use Rattle.ct_names.specs.Group.{coordinator, IsMember}
use Rattle.ct_names.specs.Membership.{IsIn}
use Rattle.ct_names.specs.Value.{Value}
use Rattle.ct_model.specs.declared.moves.Move.{Move}
use Rattle.ct_model.specs.declared.moves.Move.TheVariants.{Enter, Choose, Adopt, Suspect, Conclude}
use Rattle.ct_model.specs.AtValue.{Envelope, Standing, Turn}
use Rattle.ct_model.specs.Wire.{envelopes}
use Rattle.ct_model.specs.declared.wire.Wire.TheVariants.{Est, Prop, Ack, Nack}
use Rattle.ct_model.specs.declared.mail.Mail.TheVariants.{One, All}
use Rattle.ct_model.specs.State.{Member}
use Rattle.ct_model.specs.Received.{decided}
use Rattle.ct_model.specs.Phases.{is_rest, is_gather, is_wait, is_tally, entered, chosen, adopted, suspected, concluded}
use Rattle.ct_model.specs.Next.{turn_at, own_ballots}
use Rattle.ct_model.proofs.Consensus.Facts.{HasChosen}
use Rattle.ct_model.proofs.Record.Senders.{letter, in-all}
use Rattle.ct_model.proofs.Steps.Rows.{enter-is, choose-is, adopt-is, suspect-is, conclude-is}

-- the member is done with the round, in which it replied
abbrev pub HasReplied : ℕ → Standing → Type 0
HasReplied r c = (r < c.round) ⊎ ((r ≡ c.round) × (is_gather c.phase ≡ false) × (is_wait c.phase ≡ false))

module _ (posted : Envelope → Type 0) (n p k : ℕ) where
  abbrev pub HasEstimated : ℕ → Type 0
  HasEstimated r = (v : Value) × (ts : ℕ) × posted (letter (coordinator n r) (Est k r p v ts))

  abbrev pub HasAnswered : ℕ → Type 0
  HasAnswered r = posted (letter (coordinator n r) (Ack k r p)) ⊎ posted (letter (coordinator n r) (Nack k r p))

  abbrev pub HasProposed : ℕ → Type 0
  HasProposed r = (v : Value) × ((q : ℕ) → IsMember n q → posted (letter q (Prop k r v)))

  -- what p has sent for instance k, where it stands here
  pub record DoesDuty (c : Standing) : Type 0 where
    pub estimates : (r : ℕ) → 1 ≤ r → r ≤ c.round → HasEstimated r
    pub replies : (r : ℕ) → 1 ≤ r → HasReplied r c → HasAnswered r
    pub proposals : (r : ℕ) → 1 ≤ r → coordinator n r ≡ p → HasChosen r c → HasProposed r

pub duty-more : (old new : Envelope → Type 0) → ((e : Envelope) → old e → new e) → (n p k : ℕ) (c : Standing) → DoesDuty old n p k c →
    DoesDuty new n p k c
duty-more old new more n p k c duty = record {
  estimates = λ r some le. let e = duty.estimates r some le in (e.0, e.1, more (letter (coordinator n r) (Est k r p e.0 e.1)) e.2);
  replies = λ r some over. elim (duty.replies r some over) [
    | inl ack ↦ inl (more (letter (coordinator n r) (Ack k r p)) ack)
    | inr nack ↦ inr (more (letter (coordinator n r) (Nack k r p)) nack)
  ];
  proposals = λ r some own past. let e = duty.proposals r some own past in (e.0, λ q is. more (letter q (Prop k r e.0)) (e.1 q is));
}

-- before the first round nothing has to be sent
pub first-duty : (posted : Envelope → Type 0) (n p k : ℕ) (c : Standing) → c.round ≡ 0 → DoesDuty posted n p k c
first-duty posted n p k c first = grind arith

-- in a turn

module _ (old : Envelope → Type 0) (n p k : ℕ) (c : Standing) (duty : DoesDuty old n p k c) where
  -- sent before, or in the turn
  abbrev Now : Turn → Envelope → Type 0
  Now t e = old e ⊎ IsIn e (envelopes n t.mail)

  kept : (t : Turn) → DoesDuty (Now t) n p k c
  kept t = duty-more old (Now t) (λ e h. inl h) n p k c duty

  enter-duty : is_rest c.phase ≡ true → DoesDuty (Now (entered n p k c)) n p k (entered n p k c).after
  enter-duty rests = record {
    estimates = λ r some le. elim (cases_lt c.round r) [
      | inl lt ↦ let now : r ≡ c.round + 1 = omega arith in rw now (c.estimate, c.ts, inr (inl refl))
      | inr old ↦ (kept (entered n p k c)).estimates r some old
    ];
    replies = λ r some over. (kept (entered n p k c)).replies r some (grind (arith, over));
    proposals = λ r some own past. (kept (entered n p k c)).proposals r some own (grind (arith, nat_tests, past));
  }

  choose-duty : (v : Value) → is_gather c.phase ≡ true → (t : Turn) → t.after.round ≡ c.round → is_wait t.after.phase ≡ true →
      t.mail ≡ All (Prop k c.round v) → DoesDuty (Now t) n p k t.after
  choose-duty v gathers t round waits mail = record {
    estimates = λ r some le. (kept t).estimates r some (omega arith);
    replies = λ r some over. (kept t).replies r some (grind (arith, over));
    proposals = λ r some own past. elim (cases_lt r c.round) [
      | inl lt ↦ (kept t).proposals r some own (inl lt)
      | inr le ↦
          let now : r ≡ c.round = grind (arith, past) in
          rw now (v, λ q is. inr (rw mail (in-all n q (Prop k c.round v) is)))
    ];
  }

  -- a reply ends the phase Wait
  reply-duty : is_wait c.phase ≡ true → (t : Turn) → t.after.round ≡ c.round →
      (t.mail ≡ One (coordinator n c.round) (Ack k c.round p)) ⊎ (t.mail ≡ One (coordinator n c.round) (Nack k c.round p)) →
      DoesDuty (Now t) n p k t.after
  reply-duty waits t round mail = grind (arith, kept t)

  conclude-duty : is_tally c.phase ≡ true → (t : Turn) → t.after.round ≡ c.round → DoesDuty (Now t) n p k t.after
  conclude-duty tallies t round = grind (arith, kept t)

pub turn-duty : (old : Envelope → Type 0) (n p : ℕ) (m : Member) (c : Standing) → DoesDuty old n p m.last c → (a : Move) (t : Turn) →
    turn_at n p m a c ≡ Some t → DoesDuty (λ e. old e ⊎ IsIn e (envelopes n t.mail)) n p m.last t.after
turn-duty old n p m c duty Enter t x =
    let f = enter-is n p m.last (decided m.got m.last) c t x in
    rw (← f.gives) (enter-duty old n p m.last c duty f.rests)
turn-duty old n p m c duty (Choose from) t x =
    let f = choose-is n m.last (own_ballots m c) c from t x in
    rw (← f.gives) (choose-duty old n p m.last c duty f.best.value f.gathers (chosen m.last c f.best) refl refl refl)
turn-duty old n p m c duty Adopt t x =
    let f = adopt-is n p m.last (own_ballots m c) c t x in
    rw (← f.gives) (reply-duty old n p m.last c duty f.waits (adopted n p m.last c f.value) refl (inl refl))
turn-duty old n p m c duty Suspect t x =
    let f = suspect-is n p m.last (own_ballots m c) c t x in
    rw (← f.gives) (reply-duty old n p m.last c duty f.waits (suspected n p m.last c) refl (inr refl))
turn-duty old n p m c duty Conclude t x =
    let f = conclude-is n m.last (own_ballots m c) c t x in
    rw (← f.gives) (conclude-duty old n p m.last c duty f.tallies (concluded n m.last (own_ballots m c) c) refl)
