-- The shapes of outcomes that turn in no round keep the facts, and so every step does.
use Rattle.std.proofs.Common.{◌≡◌, ℕ, ◌+◌, true, List, [], ◌∷◌, Some, refl, sym, ◌∙◌, subst, inl, arith}
use Rattle.ct_names.specs.Group.{IsMember}
use Rattle.ct_names.specs.Membership.{IsIn}
use Rattle.ct_names.specs.Value.{Value}
use Rattle.ct_names.proofs.Lists
use Rattle.ct_model.specs.declared.phase.Phase.TheVariants.{Rest}
use Rattle.ct_model.specs.declared.step.Step.{Step}
use Rattle.ct_model.specs.AtValue.{Wire, Standing}
use Rattle.ct_model.specs.Setting.{Setting}
use Rattle.ct_model.specs.declared.mail.Mail.TheVariants.{Nobody}
use Rattle.ct_model.specs.State.{State, Member, member}
use Rattle.ct_model.specs.Safe.{IsProposed}
use Rattle.ct_model.specs.Next.{Outcome, plain, row, submit, receive, is_relayed, begin, close, proposed, after}
use Rattle.ct_model.proofs.Consensus.Sent.{Sent, Carries, Sent-wire}
use Rattle.ct_model.proofs.Consensus.Facts.{IsFounded, IsSound, Holds}
use Rattle.ct_model.proofs.Consensus.Growth.{Advance, IsFounded-grows, IsSound-grows}
use Rattle.ct_model.proofs.Consensus.Growth.Advance.{stays, opens, closes}
use Rattle.ct_model.proofs.Consensus.Obligations.{IsAllowed, IsTimely, grows}
use Rattle.ct_model.proofs.Consensus.Turns.{allowed-turn}
use Rattle.ct_model.proofs.Basics.Options.{some-same}
use Rattle.ct_model.proofs.Steps.Mail.{carried-if}
use Rattle.ct_model.proofs.Steps.Shapes.{by_shape}

relayed_timely : (s : Setting) (g : State) (p : ℕ) (got : List Wire) (w : Wire) → is_relayed s p got w ≡ true → IsTimely g w
unfolding is_relayed
relayed_timely s g p got w h = grind arith

module _ (s : Setting) (g : State) (p : ℕ) (holds : Holds s g) (is : IsMember s.members p) where
  abbrev m : Member
  m = member g p

  -- what is left to show where the instances stay
  allowed-silent : (o : Outcome) → o.member.last ≡ m.last → o.member.current ≡ m.current → ((w : Wire) → IsIn w o.member.got → Sent g w) →
      ((w : Wire) → Carries o.mail w → IsFounded s (after s g p o) w × IsTimely g w) → IsAllowed s g p o
  allowed-silent o last current got sent = record {
    advance = stays last current;
    got = got;
    sound = λ c x. subst (λ k. IsSound s (after s g p o) p k c) (sym last)
        (IsSound-grows s g (after s g p o) (grows s g p o holds is (stays last current)) p m.last c (holds.sound p is c (sym current ∙ x)));
    sent = sent;
  }

  allowed-receive : (w : Wire) → Sent g w → IsAllowed s g p (receive s p m w)
  allowed-receive w sent =
      let o : Outcome = receive s p m w in
      allowed-silent o refl refl (λ x h. grind (arith, Lists.IsIn-append_cases x m.got (w ∷ []) h, holds.got p is x, sent))
      (λ x c.
      let r = carried-if (is_relayed s p m.got w) w x c in
      rw r.1 (
        IsFounded-grows s g (after s g p o) (grows s g p o holds is (stays refl refl)) w (holds.founded w sent),
        relayed_timely s g p m.got w r.0,
      ))

  -- the standing in a new instance
  abbrev fresh : Standing
  fresh = record { round = 0; phase = Rest; estimate = proposed s m; ts = 0 }

  begun_sound : IsSound s (after s g p (begin s p m)) p (m.last + 1) fresh
  unfolding after
  begun_sound =
      let new : IsProposed s (after s g p (begin s p m)) (m.last + 1) (proposed s m) =
      record { by = p; member = is; is_in = Lists.IsIn-append_right _ g.proposals (begin s p m).proposals (inl refl) } in
      grind (arith, new)

  -- the member closes an instance, and moves on so
  allowed-close : (k : ℕ) (v : Value) → Advance m (close m k v).member → IsAllowed s g p (close m k v)
  allowed-close k v advance = grind (arith, advance, holds.got p is)

  pub allowed-step : (step : Step) (o : Outcome) → row s g p (member g p) step ≡ Some o → IsAllowed s g p o
  allowed-step step o = by_shape s g p m (IsAllowed s g p) step o (record {
    submits = λ c good. allowed-silent (submit g p m c) refl refl (λ w x. holds.got p is w x) (λ w same. rw same (tt, tt));
    gets = λ k w at. allowed-receive w (Sent-wire g p k w at);
    opens = λ idle some. record {
      advance = opens refl;
      got = holds.got p is;
      sound = λ d x. rw (← some-same fresh d x) begun_sound;
      sent = λ w x. absurd x;
    };
    turns = λ a c t at x. allowed-turn s g p holds is c at a t x;
    closes = λ c v open_at has delivers. allowed-close m.last v (closes refl refl);
    follows = λ v idle has delivers. allowed-close (m.last + 1) v (opens refl);
    marks = λ crashed. allowed-silent (plain (record m { crashed = crashed }) Nobody) refl refl (λ w x. holds.got p is w x)
        (λ w x. absurd x);
  })
