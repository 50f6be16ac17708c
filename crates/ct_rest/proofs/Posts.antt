-- After every run each member has sent what it has to for its open instance, and received something that it didn't deliver; and each
-- message was sent by its origin to everyone.
use Rattle.std.proofs.lemmas.Bool.Decides.{nat_tests}
use Rattle.std.proofs.Common.{arith}
use Rattle.std.proofs.Common.{◌≡◌, ℕ, ◌+◌, false, List, [], ◌∷◌, ◌++◌, Some, refl, sym, ap, subst, inl, inr, ◌⊎◌, length, replicate}
use Rattle.ct_names.specs.Batch.{Batch}
use Rattle.ct_names.specs.Group.{IsMember}
use Rattle.ct_names.specs.Membership.{IsIn}
use Rattle.ct_names.specs.Message.{Message}
use Rattle.ct_names.proofs.Lists
use Rattle.ct_names.proofs.Values
use Rattle.ct_model.specs.declared.step.Step.{Step}
use Rattle.ct_model.specs.Actor.{actor}
use Rattle.ct_model.specs.AtValue.{Wire, Envelope, Standing}
use Rattle.ct_model.specs.Setting.{Setting}
use Rattle.ct_model.specs.Wire.{envelopes}
use Rattle.ct_model.specs.declared.wire.Wire.TheVariants.{Data}
use Rattle.ct_model.specs.declared.mail.Mail.TheVariants.{Nobody, All}
use Rattle.ct_model.specs.State.{State, Member, member, joined, first_state}
use Rattle.ct_model.specs.Received.{received}
use Rattle.ct_model.specs.Next.{Outcome, plain, row, submit, receive, proposed, is_empty, after}
use Rattle.ct_model.specs.Run.{run}
use Rattle.ct_model.specs.Senders.{senders}
use Rattle.ct_model.proofs.Basics.Options.{some-same, some-none}
use Rattle.ct_model.proofs.Consensus.Facts.{Holds}
use Rattle.ct_model.proofs.Consensus.Readings
use Rattle.ct_model.proofs.Delivery.Proposals.{proposed-from}
use Rattle.ct_model.proofs.Record.Frame.{after-submitted}
use Rattle.ct_model.proofs.Record.Members.{member-same, member-other, p_or_other}
use Rattle.ct_model.proofs.Record.Senders.{IsPosted, letter, posted-old, posted-new, in-all}
use Rattle.ct_model.proofs.Record.Start.{member-first}
use Rattle.ct_model.proofs.Relay.Relaying.{posted-run}
use Rattle.ct_model.proofs.Steps.Shapes.{by_shape}
use Rattle.ct_rest.proofs.Duties.{DoesDuty, duty-more, first-duty, turn-duty}

-- a message was received, and not delivered
pub record HasMore (got : List Wire) (batches : List Batch) : Type 0 where
  pub message : Message
  pub is_received : IsIn message (received got)
  pub fresh : IsIn message (joined batches) → ⊥

got-more : (got : List Wire) (batches : List Batch) (w : Wire) → HasMore got batches → HasMore (got ++ w ∷ []) batches
got-more got batches w f = grind (arith, nat_tests, Readings.got-received, Lists.IsIn-append_left, Readings.received-got)

first-of : (list : List Message) → is_empty list ≡ false → (x : Message) × IsIn x list
first-of [] e = absurd (cc)
first-of (x ∷ list) e = (x, inl refl)

proposed-more : (s : Setting) (m : Member) → is_empty (proposed s m) ≡ false → HasMore m.got m.batches
proposed-more s m some = grind (arith, nat_tests, first-of, proposed-from, Values.minus-from, Values.minus-out)

-- where p has an instance open, it has sent what it has to, and has something to deliver
abbrev pub IsAtWork : (Envelope → Type 0) → ℕ → ℕ → Member → Type 0
IsAtWork posted n p m = (c : Standing) → m.current ≡ Some c → DoesDuty posted n p m.last c × HasMore m.got m.batches

module _ (s : Setting) (g : State) (p : ℕ) (old : Envelope → Type 0) (work : IsAtWork old s.members p (member g p)) where
  abbrev m : Member
  m = member g p

  abbrev Now : Outcome → Envelope → Type 0
  Now o e = old e ⊎ IsIn e (envelopes s.members o.mail)

  -- what a step of p leaves
  record IsDutiful (o : Outcome) : Type 0 where
    busy : IsAtWork (Now o) s.members p o.member
    submits : (x : Message) → IsIn x o.submitted → (x.origin ≡ p) × (o.mail ≡ All (Data x))

  still : (o : Outcome) (c : Standing) → m.current ≡ Some c → DoesDuty (Now o) s.members p m.last c × HasMore m.got m.batches
  still o c at = let w = work c at in (duty-more old (Now o) (λ e h. inl h) s.members p m.last c w.0, w.1)

  dutiful-step : (step : Step) (o : Outcome) → row s g p m step ≡ Some o → IsDutiful o
  dutiful-step step o = by_shape s g p m IsDutiful step o (record {
    submits = λ c good. grind (arith, still (submit g p m c));
    gets = λ k w came. record {
      busy = λ d at. let f = still (receive s p m w) d at in (f.0, got-more m.got m.batches w f.1);
      submits = λ x h. absurd h;
    };
    opens = λ idle some. record {
      busy = λ d at. (
        first-duty _ s.members p (m.last + 1) d (ap (λ (x : Standing). x.round) (sym (some-same _ d at))),
        proposed-more s m some,
      );
      submits = λ x h. absurd h;
    };
    turns = λ a c t at taken. grind (arith, work c at, turn-duty old s.members p m c (work c at).0 a t taken);
    closes = λ c v at has delivers. grind arith;
    follows = λ v idle has delivers. grind arith;
    marks = λ crashed. grind (arith, still (plain (record m { crashed = crashed }) Nobody));
  })

-- by names of senders: each member's work, and that messages went from their origins to everyone
pub record HasPosted (s : Setting) (from : List ℕ) (g : State) : Type 0 where
  pub work : (p : ℕ) → IsMember s.members p → IsAtWork (IsPosted from g.sent p) s.members p (member g p)
  pub submitted : (x : Message) → IsIn x g.submitted → (q : ℕ) → IsMember s.members q →
      IsPosted from g.sent x.origin (letter q (Data x))

module _ (s : Setting) (from : List ℕ) (g : State) (step : Step) (o : Outcome) (holds : Holds s g)
    (count : length from ≡ length g.sent) (is : IsMember s.members (actor step))
    (rowed : row s g (actor step) (member g (actor step)) step ≡ Some o) (was : HasPosted s from g) where
  abbrev p : ℕ
  p = actor step

  abbrev h : State
  h = after s g p o

  abbrev names : List ℕ
  names = from ++ replicate (length (envelopes s.members o.mail)) p

  posted_kept : (x : ℕ) (e : Envelope) → IsPosted from g.sent x e → IsPosted names h.sent x e
  unfolding after
  posted_kept x e f =
      posted-old from (replicate (length (envelopes s.members o.mail)) p) g.sent (envelopes s.members o.mail) x e f

  posted_now : (e : Envelope) → IsIn e (envelopes s.members o.mail) → IsPosted names h.sent p e
  unfolding after
  posted_now e f = posted-new from g.sent (envelopes s.members o.mail) p e count f

  does : IsDutiful s g p (IsPosted from g.sent p) (was.work p is) o
  does = dutiful-step s g p (IsPosted from g.sent p) (was.work p is) step o rowed

  posts_kept : HasPosted s names h
  posts_kept = record {
    work = λ x isx. elim (p_or_other x p) [
      | inl e ↦ rw (e, member-same s g p o holds is) (λ d at.
          let f = does.busy d at in (
            duty-more _ (IsPosted names h.sent p) (λ e x. elim x [ inl old ↦ posted_kept p e old | inr new ↦ posted_now e new ])
                s.members p o.member.last d f.0,
            f.1,
          ))
      | inr ne ↦ rw (member-other s g p x o is isx ne) (λ d at.
          let f = was.work x isx d at in
          (duty-more (IsPosted from g.sent x) (IsPosted names h.sent x) (posted_kept x) s.members x (member g x).last d f.0, f.1))
    ];
    submitted = λ x inside q isq. elim (Lists.IsIn-append_cases x g.submitted o.submitted (rw after-submitted at inside)) [
      | inl old ↦ posted_kept x.origin (letter q (Data x)) (was.submitted x old q isq)
      | inr new ↦
          let f = does.submits x new in
          subst (λ z. IsPosted names h.sent z (letter q (Data x))) (sym f.0)
          (posted_now (letter q (Data x)) (rw f.1 (in-all s.members q (Data x) isq)))
    ];
  }

pub posts-run : (s : Setting) (steps : List Step) (g : State) → run s steps ≡ Some g → HasPosted s (senders s steps) g
posts-run s steps g e = (posted-run s (HasPosted s) (posts_kept s) (record {
  work = λ p is c at. some-none c (rw (member-first s p) at at);
  submitted = λ x inside. absurd (unfold first_state in inside);
}) steps g e).1
