-- What a step sends of messages and decisions, and what it adds to what its member got.
use Rattle.std.proofs.Common.{arith, ◌≡◌, ℕ, cond, [], ◌∷◌, refl, inl, ◌⊎◌, Some}
use Rattle.ct_names.specs.Group.{coordinator, IsMember}
use Rattle.ct_names.specs.Membership.{IsIn}
use Rattle.ct_names.proofs.Lists
use Rattle.ct_model.specs.declared.step.Step.{Step}
use Rattle.ct_model.specs.Actor.{actor}
use Rattle.ct_model.specs.AtValue.{Wire, Mail}
use Rattle.ct_model.specs.Setting.{Setting}
use Rattle.ct_model.specs.declared.wire.Wire.TheVariants.{Data, Dec}
use Rattle.ct_model.specs.declared.mail.Mail.TheVariants.{Nobody, All}
use Rattle.ct_model.specs.State.{State, member}
use Rattle.ct_model.specs.Next.{Outcome, plain, row, submit, receive, begin, turned, deliver, follow, is_relayed}
use Rattle.ct_model.proofs.Consensus.Facts.{Holds}
use Rattle.ct_model.proofs.Consensus.Sent.{Sent, Carries, Sent-wire}
use Rattle.ct_model.proofs.Steps.Shapes.{by_shape}
use Rattle.ct_model.proofs.Steps.Mail.{IsSending, row-sends}

-- a wire that p got in the step; where it is relayed, the step sends it to all
pub record IsGotNow (s : Setting) (g : State) (p : ℕ) (o : Outcome) (w : Wire) : Type 0 where
  pub sent : Sent g w
  pub mail : o.mail ≡ cond (is_relayed s p (member g p).got w) (All w) Nobody

abbrev pub GotNow : Setting → State → ℕ → Outcome → Type 0
GotNow s g p o = (w : Wire) → IsIn w o.member.got → IsIn w (member g p).got ⊎ IsGotNow s g p o w

-- messages and decisions, which are relayed
abbrev pub IsShared : Wire → Type 0
IsShared (Data m) = Unit {0}
IsShared (Dec k r v) = Unit {0}
IsShared _ = ⊥

-- only its origin sends a message as new, and only the coordinator of its round a decision
abbrev pub owner : Setting → Wire → ℕ
owner s (Data m) = m.origin
owner s (Dec k r v) = coordinator s.members r
owner s _ = 0

-- what is sent of these was sent before or is its owner's, and goes to all
abbrev pub IsOwned : Setting → State → ℕ → Mail → Wire → Type 0
IsOwned s g p mail w = (Sent g w ⊎ (owner s w ≡ p)) × (mail ≡ All w)

-- what a step gets
pub record IsGetting (s : Setting) (g : State) (p : ℕ) (o : Outcome) : Type 0 where
  pub more : (w : Wire) → IsIn w (member g p).got → IsIn w o.member.got
  pub got_now : GotNow s g p o

-- what a step does to messages and decisions
pub record IsMade (s : Setting) (g : State) (p : ℕ) (o : Outcome) : Type 0 where
  pub gets : IsGetting s g p o
  pub owned : (w : Wire) → IsShared w → Carries o.mail w → IsOwned s g p o.mail w

sending-owned : (s : Setting) (g : State) (p : ℕ) (mail : Mail) → Holds s g → IsMember s.members p → IsSending s g p (member g p) mail →
    (w : Wire) → IsShared w → Carries mail w → IsOwned s g p mail w
sending-owned s g p mail holds is h w shared c = grind (arith, holds.sound p is)

gets-nothing : (s : Setting) (g : State) (p : ℕ) (o : Outcome) → o.member.got ≡ (member g p).got → IsGetting s g p o
gets-nothing s g p o same = record { more = λ w h. rw same h; got_now = λ w h. inl (rw same at h) }

gets-one : (s : Setting) (g : State) (p : ℕ) (w : Wire) → Sent g w → IsGetting s g p (receive s p (member g p) w)
gets-one s g p w sent = record {
  more = λ x h. Lists.IsIn-append_left x (member g p).got (w ∷ []) h;
  got_now = λ x h. grind (arith, Lists.IsIn-append_cases x (member g p).got (w ∷ []) h);
}

step-gets : (s : Setting) (g : State) (p : ℕ) (step : Step) (o : Outcome) → row s g p (member g p) step ≡ Some o → IsGetting s g p o
step-gets s g p step o = by_shape s g p (member g p) (IsGetting s g p) step o (record {
  submits = λ c good. gets-nothing s g p (submit g p (member g p) c) refl;
  gets = λ k w at. gets-one s g p w (Sent-wire g p k w at);
  opens = λ idle some. gets-nothing s g p (begin s p (member g p)) refl;
  turns = λ a c t open_at taken. gets-nothing s g p (turned (member g p) t) refl;
  closes = λ c v open_at has delivers. gets-nothing s g p (deliver (member g p) v) refl;
  follows = λ v idle has delivers. gets-nothing s g p (follow (member g p) v) refl;
  marks = λ crashed. gets-nothing s g p (plain (record (member g p) { crashed = crashed }) Nobody) refl;
})

pub made-step : (s : Setting) (g : State) (step : Step) (o : Outcome) → Holds s g → IsMember s.members (actor step) →
    row s g (actor step) (member g (actor step)) step ≡ Some o → IsMade s g (actor step) o
made-step s g step o holds is e =
    let p : ℕ = actor step in
    record { gets = step-gets s g p step o e; owned = sending-owned s g p o.mail holds is (row-sends s g p (member g p) step o e) }
