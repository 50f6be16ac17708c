-- What the outcome of a step has to show, so that the facts hold after it.
use Rattle.std.proofs.Common.{arith, ◌≡◌, ℕ, ◌≤◌, ◌<◌, Some, refl, ◌∙◌, inl, inr}
use Rattle.ct_names.specs.Group.{IsMember}
use Rattle.ct_names.specs.Membership.{IsIn}
use Rattle.ct_names.specs.Value.{Value}
use Rattle.ct_names.proofs.Lists
use Rattle.ct_model.specs.AtValue.{Wire, Mail, Standing}
use Rattle.ct_model.specs.Setting.{Setting}
use Rattle.ct_model.specs.declared.wire.Wire.TheVariants.{Est, Prop, Ack}
use Rattle.ct_model.specs.State.{State, member}
use Rattle.ct_model.specs.Next.{Outcome, after}
use Rattle.ct_model.proofs.Consensus.Sent.{Sent, Carries, Sent-old, Sent-cases}
use Rattle.ct_model.proofs.Consensus.Facts.{IsFounded, IsSound, Holds}
use Rattle.ct_model.proofs.Record.Frame.{after-size}
use Rattle.ct_model.proofs.Consensus.Growth.{Advance, Grows, IsFounded-grows, IsSound-grows}
use Rattle.ct_model.proofs.Consensus.Growth.Advance.{stays}
use Rattle.ct_model.proofs.Record.Members.{member-same, member-other, p_or_other}

-- what holds of a wire that is sent now, where others were sent before: a round has one proposal, and who acked it sends its later
-- estimates with its ts or a larger one
abbrev pub IsTimely : State → Wire → Type 0
IsTimely g (Prop k r v) = (w : Value) → Sent g (Prop k r w) → v ≡ w
IsTimely g (Est k later q v ts) = (r : ℕ) → Sent g (Ack k r q) → r < later → r ≤ ts
IsTimely g (Ack k r q) = (later : ℕ) (v : Value) (ts : ℕ) → Sent g (Est k later q v ts) → r < later → r ≤ ts
IsTimely g _ = Unit {0}

pub record IsAllowed (s : Setting) (g : State) (p : ℕ) (o : Outcome) : Type 0 where
  pub advance : Advance (member g p) o.member
  pub got : (w : Wire) → IsIn w o.member.got → Sent g w
  pub sound : (c : Standing) → o.member.current ≡ Some c → IsSound s (after s g p o) p o.member.last c
  pub sent : (w : Wire) → Carries o.mail w → IsFounded s (after s g p o) w × IsTimely g w

-- a step that moves its member on leaves a later state
pub grows : (s : Setting) (g : State) (p : ℕ) (o : Outcome) → Holds s g → IsMember s.members p → Advance (member g p) o.member →
    Grows s g (after s g p o)
grows s g p o holds is advance = record {
  sent = λ w h. Sent-old s g p o w h;
  proposals = λ x h. unfold after in Lists.IsIn-append_left x g.proposals o.proposals h;
  advance = λ q isq. elim (p_or_other q p) [
    | inl e ↦ rw (e, member-same s g p o holds is) advance
    | inr ne ↦ rw (member-other s g p q o is isq ne) (stays refl refl)
  ];
}

one_wire : (mail : Mail) (w x : Wire) → Carries mail w → Carries mail x → w ≡ x
one_wire mail w x a b = grind arith

module _ (s : Setting) (g : State) (p : ℕ) (o : Outcome) (holds : Holds s g) (is : IsMember s.members p) (ok : IsAllowed s g p o) where
  -- the state after the step
  abbrev h : State
  h = after s g p o

  later_state : Grows s g h
  later_state = grows s g p o holds is ok.advance

  pub kept : Holds s h
  kept = record {
    size = after-size s g p o ∙ holds.size;
    got = λ q isq w x. Sent-old s g p o w
        (grind (arith, p_or_other q p, member-same s g p o holds is, member-other s g p q o is isq, ok.got w, holds.got q isq w));
    sound = λ q isq. elim (p_or_other q p) [
      | inl e ↦ rw (e, member-same s g p o holds is) ok.sound
      | inr ne ↦ rw (member-other s g p q o is isq ne)
          (λ c x. IsSound-grows s g h later_state q (member g q).last c (holds.sound q isq c x))
    ];
    founded = λ w x. grind (arith, Sent-cases s g p o w x, holds.founded w, IsFounded-grows s g h later_state w, ok.sent w);
    one_proposal = λ k r v w a b. grind (
      arith,
      Sent-cases s g p o (Prop k r v) a,
      Sent-cases s g p o (Prop k r w) b,
      holds.one_proposal k r v w,
      λ (x : Carries o.mail (Prop k r v)). (ok.sent (Prop k r v) x).1 w,
      λ (x : Carries o.mail (Prop k r w)). (ok.sent (Prop k r w) x).1 v,
      one_wire o.mail (Prop k r v) (Prop k r w),
    );
    ts_after_ack = λ k r later q v ts a b lt. grind (
      arith,
      Sent-cases s g p o (Ack k r q) a,
      Sent-cases s g p o (Est k later q v ts) b,
      holds.ts_after_ack k r later q v ts,
      λ (x : Carries o.mail (Ack k r q)). (ok.sent (Ack k r q) x).1 later v ts,
      λ (x : Carries o.mail (Est k later q v ts)). (ok.sent (Est k later q v ts) x).1 r,
      one_wire o.mail (Ack k r q) (Est k later q v ts),
    );
  }
