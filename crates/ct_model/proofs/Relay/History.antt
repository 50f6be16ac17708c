-- What has been sent and received, kept by every step.
use Rattle.std.proofs.Common.{arith, ◌≡◌, ℕ, false, cond, not, ◌==◌, List, [], ◌∷◌, ◌++◌, Some, refl, sym, ap, ◌∙◌, subst}
use Rattle.std.proofs.Common.{inl, inr, ◌⊎◌, eqb-true, length, length-append, replicate}
use Rattle.std.proofs.lemmas.Bool.{and_cases}
use Rattle.std.proofs.lemmas.List.{length-replicate}
use Rattle.ct_names.specs.Group.{coordinator, IsMember}
use Rattle.ct_names.specs.Membership.{IsIn}
use Rattle.ct_names.specs.Value.{Value, has}
use Rattle.ct_names.proofs.Lists
use Rattle.ct_names.proofs.Values
use Rattle.ct_model.specs.declared.step.Step.{Step}
use Rattle.ct_model.specs.declared.step.Step.TheVariants.{Receive}
use Rattle.ct_model.specs.Actor.{actor}
use Rattle.ct_model.specs.AtValue.{Wire, Envelope}
use Rattle.ct_model.specs.Setting.{Setting}
use Rattle.ct_model.specs.Wire.{envelopes}
use Rattle.ct_model.specs.declared.wire.Wire.TheVariants.{Data, Dec}
use Rattle.ct_model.specs.declared.mail.Mail.TheVariants.{Nobody, All}
use Rattle.ct_model.specs.State.{State, member, at_serial}
use Rattle.ct_model.specs.Received.{received, is_decision, has_decision}
use Rattle.ct_model.specs.Next.{Outcome, row, is_relayed, wire_to, after}
use Rattle.ct_model.proofs.Consensus.Facts.{Holds}
use Rattle.ct_model.proofs.Relay.Additions.{IsMade, IsShared, owner}
use Rattle.ct_model.proofs.Basics.Options.{when-is}
use Rattle.ct_model.proofs.Record.Senders.{IsPosted, letter, at-front, posted-old, posted-new, in-all}
use Rattle.ct_model.proofs.Consensus.Readings
use Rattle.ct_model.proofs.Record.Members.{Sent, Sent-cases, member-same, member-other, p_or_other}

-- the envelope of a serial has come to q
pub record IsCome (g : State) (q j : ℕ) : Type 0 where
  pub envelope : Envelope
  pub at : at_serial g.sent j ≡ Some envelope
  pub got : IsIn envelope.wire (member g q).got

-- the same message, or a decision of the same round
abbrev pub IsLike : Wire → Wire → Type 0
IsLike (Data m) w = w ≡ Data m
IsLike (Dec k r v) w = (u : Value) × (w ≡ Dec k r u)
IsLike _ w = ⊥

like-same : (w : Wire) → IsShared w → IsLike w w
like-same w shared = grind arith

like-shared : (w x : Wire) → IsLike w x → IsShared x
like-shared w x same = grind arith

like-trans : (w x y : Wire) → IsLike w x → IsLike x y → IsLike w y
like-trans w x y a b = grind arith

-- a step of x sent q something like the wire
pub record IsSpread (from : List ℕ) (sent : List Envelope) (x q : ℕ) (w : Wire) : Type 0 where
  pub wire : Wire
  pub like : IsLike w wire
  pub posted : IsPosted from sent x (letter q wire)

-- from names, by serial, the member whose step sent it: an origin sent its messages to everyone, a coordinator some
-- decision of each round that has one, and a member each message, and some decision of each round, that it got; and
-- what a Receive names was got
pub record IsHistory (s : Setting) (done : List Step) (from : List ℕ) (g : State) : Type 0 where
  pub count : length from ≡ length g.sent
  pub own : (w : Wire) → IsShared w → Sent g w → (q : ℕ) → IsMember s.members q → IsSpread from g.sent (owner s w) q w
  pub on : (p : ℕ) → IsMember s.members p → (w : Wire) → IsShared w → IsIn w (member g p).got → (q : ℕ) → IsMember s.members q →
      IsSpread from g.sent p q w
  pub come : (q j : ℕ) → IsMember s.members q → IsIn (Receive q j) done → IsCome g q j

-- what is not relayed was got before, or is one's own
kept_back : (s : Setting) (p : ℕ) (got : List Wire) (w : Wire) → IsShared w → is_relayed s p got w ≡ false →
    ((x : Wire) × IsLike w x × IsIn x got) ⊎ (owner s w ≡ p)
unfolding is_relayed
kept_back s p got (Data m) shared h = elim (and_cases (not (has (received got) m)) (not (m.origin == p)) h) [
  | inl a ↦ inl (Data m, refl, Readings.received-got got m (Values.in-has (received got) m (Lists.not-false (has (received got) m) a)))
  | inr b ↦ inr (eqb-true m.origin p (Lists.not-false (m.origin == p) b))
]
kept_back s p got (Dec k r v) shared h = elim (and_cases (not (has_decision got k r)) (not (coordinator s.members r == p)) h) [
  | inl a ↦
      let f = Lists.found-list_any (is_decision k r) got (Lists.not-false (has_decision got k r) a) in
      inl (f.item, Readings.is_decision-wire k r f.item f.passes, f.is_in)
  | inr b ↦ inr (eqb-true (coordinator s.members r) p (Lists.not-false (coordinator s.members r == p) b))
]
kept_back s p got _ shared h = absurd shared

-- the envelope of the serial comes to the member in the step
come-receive : (s : Setting) (g : State) (q j : ℕ) (o : Outcome) → row s g q (member g q) (Receive q j) ≡ Some o →
    (e : Envelope) × (at_serial g.sent j ≡ Some e) × IsIn e.wire o.member.got
unfolding wire_to
come-receive s g q j o e = grind (arith, when-is, Lists.IsIn-append_right)

module _ (s : Setting) (done : List Step) (from : List ℕ) (g : State) (step : Step) (o : Outcome) (hist : IsHistory s done from g)
    (holds : Holds s g) (is : IsMember s.members (actor step)) (made : IsMade s g (actor step) o)
    (rowed : row s g (actor step) (member g (actor step)) step ≡ Some o) where
  -- the actor, the state after the step, and who sent what the step sends
  abbrev p : ℕ
  p = actor step

  abbrev h : State
  h = after s g p o

  abbrev new : List ℕ
  new = replicate (length (envelopes s.members o.mail)) p

  -- a step of x sent q something like the wire, in this step or before
  abbrev Spread : ℕ → ℕ → Wire → Type 0
  Spread x q w = IsSpread (from ++ new) h.sent x q w

  spread-kept : (x q : ℕ) (w : Wire) → IsSpread from g.sent x q w → Spread x q w
  unfolding after
  spread-kept x q w f = grind (arith, posted-old)

  spread-all : (q : ℕ) (w : Wire) → IsShared w → IsMember s.members q → o.mail ≡ All w → Spread p q w
  unfolding after
  spread-all q w shared isq mail = record {
    wire = w;
    like = like-same w shared;
    posted = posted-new from g.sent (envelopes s.members o.mail) p (letter q w) hist.count (rw mail (in-all s.members q w isq));
  }

  spread-like : (q : ℕ) (w x : Wire) → IsLike w x → Spread p q x → Spread p q w
  spread-like q w x like f = record { wire = f.wire; like = like-trans w x f.wire like f.like; posted = f.posted }

  count_kept : length (from ++ new) ≡ length h.sent
  unfolding after
  count_kept = grind (arith, length-append, length-replicate)

  own_kept : (w : Wire) → IsShared w → Sent h w → (q : ℕ) → IsMember s.members q → Spread (owner s w) q w
  own_kept w shared sent q isq = grind (arith, Sent-cases, spread-kept, owner, spread-all)

  on_now : (w : Wire) → IsShared w → IsIn w o.member.got → (q : ℕ) → IsMember s.members q → Spread p q w
  on_now w shared inside q isq = elim (made.gets.got_now w inside) [
    | inl old ↦ spread-kept p q w (hist.on p is w shared old q isq)
    | inr got ↦ elim (Lists.true_or_false (is_relayed s p (member g p).got w)) [
      | inl relayed ↦ spread-all q w shared isq (got.mail ∙ ap (λ b. cond b (All w) Nobody) relayed)
      | inr kept ↦ elim (kept_back s p (member g p).got w shared kept) [
        | inl old ↦ spread-like q w old.0 old.1 (spread-kept p q old.0 (hist.on p is old.0 (like-shared w old.0 old.1) old.2 q isq))
        | inr mine ↦ spread-kept p q w (rw mine at (hist.own w shared got.sent q isq))
      ]
    ]
  ]

  on_kept : (x : ℕ) → IsMember s.members x → (w : Wire) → IsShared w → IsIn w (member h x).got → (q : ℕ) → IsMember s.members q →
      Spread x q w
  on_kept x isx w shared inside q isq =
      grind (arith, p_or_other x p, member-same, member-other, on_now, spread-kept, hist.on)

  still_at : (j : ℕ) (e : Envelope) → at_serial g.sent j ≡ Some e → at_serial h.sent j ≡ Some e
  unfolding after
  still_at j e was = at-front g.sent (envelopes s.members o.mail) j e was

  still_got : (x : ℕ) (w : Wire) → IsMember s.members x → IsIn w (member g x).got → IsIn w (member h x).got
  still_got x w isx inside = grind (arith, p_or_other x p, member-same, member-other, made.gets.more w)

  come_kept : (q j : ℕ) → IsMember s.members q → IsIn (Receive q j) (done ++ step ∷ []) → IsCome h q j
  come_kept q j isq inside = elim (Lists.IsIn-append_cases (Receive q j) done (step ∷ []) inside) [
    | inl old ↦
        let c = hist.come q j isq old in
        record { envelope = c.envelope; at = still_at j c.envelope c.at; got = still_got q c.envelope.wire isq c.got }
    | inr last ↦ elim last [
      | inl same ↦
          let c = come-receive s g q j o (rw (← same) at rowed) in
          let got : IsIn c.0.wire (member h p).got = rw (member-same s g p o holds is) c.2 in
          record { envelope = c.0; at = still_at j c.0 c.1; got = subst (λ z. IsIn c.0.wire (member h z).got) (sym (ap actor same)) got }
      | inr never ↦ absurd never
    ]
  ]

  pub history_kept : IsHistory s (done ++ step ∷ []) (from ++ new) h
  history_kept = record { count = count_kept; own = own_kept; on = on_kept; come = come_kept }
