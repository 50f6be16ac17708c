-- What the row of a step sends.
use Rattle.std.proofs.Common.{arith, ◌≡◌, ℕ, ◌+◌, Bool, true, false, Some, refl, subst}
use Rattle.std.specs.Prelude.{if◌then◌else◌}
use Rattle.ct_names.specs.Group.{coordinator}
use Rattle.ct_names.specs.Message.{Message}
use Rattle.ct_names.specs.Value.{Value}
use Rattle.ct_model.specs.declared.step.Step.{Step}
use Rattle.ct_model.specs.declared.moves.Move.{Move}
use Rattle.ct_model.specs.declared.moves.Move.TheVariants.{Enter, Choose, Adopt, Suspect, Conclude}
use Rattle.ct_model.specs.AtValue.{Wire, Mail, Standing, Turn}
use Rattle.ct_model.specs.Setting.{Setting}
use Rattle.ct_model.specs.declared.wire.Wire.TheVariants.{Data, Est, Prop, Ack, Nack, Dec}
use Rattle.ct_model.specs.declared.mail.Mail.TheVariants.{Nobody, One, All}
use Rattle.ct_model.specs.State.{State, Member}
use Rattle.ct_model.specs.Received.{decided}
use Rattle.ct_model.specs.Phases.{is_tally}
use Rattle.ct_model.specs.Next.{Outcome, row, is_relayed, next_message, turn_at, own_ballots}
use Rattle.ct_model.proofs.Consensus.Sent.{Sent, Carries, Sent-wire}
use Rattle.ct_model.proofs.Steps.Shapes.{by_shape}
use Rattle.ct_model.proofs.Steps.Rows.{enter-is, choose-is, adopt-is, suspect-is, conclude-is}

-- the mail is one of those that the rows have for p, the member m
pub data IsSending (s : Setting) (g : State) (p : ℕ) (m : Member) (mail : Mail) : Type 0 where
  nothing : mail ≡ Nobody → IsSending s g p m mail
  message : (new : Message) → new.origin ≡ p → mail ≡ All (Data new) → IsSending s g p m mail
  relay : (w : Wire) → Sent g w → is_relayed s p m.got w ≡ true → mail ≡ All w → IsSending s g p m mail
  estimate : (k r : ℕ) (v : Value) (ts : ℕ) → mail ≡ One (coordinator s.members r) (Est k r p v ts) → IsSending s g p m mail
  proposal : (k r : ℕ) (v : Value) → mail ≡ All (Prop k r v) → IsSending s g p m mail
  ack : (k r : ℕ) → mail ≡ One (coordinator s.members r) (Ack k r p) → IsSending s g p m mail
  nack : (k r : ℕ) → mail ≡ One (coordinator s.members r) (Nack k r p) → IsSending s g p m mail
  decision : (c : Standing) → m.current ≡ Some c → is_tally c.phase ≡ true → mail ≡ All (Dec m.last c.round c.estimate) →
      IsSending s g p m mail

module _ (s : Setting) (g : State) (p : ℕ) (m : Member) where
  sends-relayed : (w : Wire) → Sent g w → (b : Bool) → is_relayed s p m.got w ≡ b → IsSending s g p m (if b then All w else Nobody)
  sends-relayed w sent true e = relay w sent e refl
  sends-relayed w sent false e = nothing refl

  sends-decision : (c : Standing) → m.current ≡ Some c → is_tally c.phase ≡ true → (b : Bool) →
      IsSending s g p m (if b then All (Dec m.last c.round c.estimate) else Nobody)
  sends-decision c at tallies true = decision c at tallies refl
  sends-decision c at tallies false = nothing refl

  sends-turn : (a : Move) (c : Standing) (t : Turn) → m.current ≡ Some c → turn_at s.members p m a c ≡ Some t → IsSending s g p m t.mail
  sends-turn Enter c t at h =
      subst (λ (x : Turn). IsSending s g p m x.mail) (enter-is s.members p m.last (decided m.got m.last) c t h).gives
      (estimate m.last (c.round + 1) c.estimate c.ts refl)
  sends-turn (Choose from) c t at h =
      let f = choose-is s.members m.last (own_ballots m c) c from t h in
      subst (λ (x : Turn). IsSending s g p m x.mail) f.gives (proposal m.last c.round f.best.value refl)
  sends-turn Adopt c t at h =
      subst (λ (x : Turn). IsSending s g p m x.mail) (adopt-is s.members p m.last (own_ballots m c) c t h).gives (ack m.last c.round refl)
  sends-turn Suspect c t at h =
      subst (λ (x : Turn). IsSending s g p m x.mail) (suspect-is s.members p m.last (own_ballots m c) c t h).gives
      (nack m.last c.round refl)
  sends-turn Conclude c t at h =
      let f = conclude-is s.members m.last (own_ballots m c) c t h in
      subst (λ (x : Turn). IsSending s g p m x.mail) f.gives (sends-decision c at f.tallies _)

  pub row-sends : (step : Step) (o : Outcome) → row s g p m step ≡ Some o → IsSending s g p m o.mail
  row-sends step o = by_shape s g p m (λ x. IsSending s g p m x.mail) step o (record {
    submits = λ c good. message (next_message g.submitted p c) refl refl;
    gets = λ k w at. sends-relayed w (Sent-wire g p k w at) (is_relayed s p m.got w) refl;
    opens = λ idle some. nothing refl;
    turns = sends-turn;
    closes = λ c v at decision delivers. nothing refl;
    follows = λ v idle decision delivers. nothing refl;
    marks = λ crashed. nothing refl;
  })

-- what is sent if a test passes
pub carried-if : (b : Bool) (w x : Wire) → Carries (if b then All w else Nobody) x → (b ≡ true) × (x ≡ w)
carried-if b w x c = grind arith
