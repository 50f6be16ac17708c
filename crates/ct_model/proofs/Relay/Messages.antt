-- What is known of messages holds after every step.
use Rattle.std.proofs.Common.{◌≡◌, ℕ, zero, suc, ◌+◌, ◌-◌, ◌<◌, Bool, true, false, List, [], ◌∷◌, ◌++◌, length, refl, ap}
use Rattle.std.proofs.Common.{◌∙◌, arith, Some, ◌⊎◌, inl, inr}
use Rattle.std.specs.Prelude.{slice_get, if◌then◌else◌, ◌==◌}
use Rattle.std.proofs.lemmas.Bool.{cases_eq}
use Rattle.std.proofs.lemmas.Bool.Decides.{nat_tests}
use Rattle.std.proofs.lemmas.List.{append-nil}
use Rattle.ct_names.specs.declared.command.Command.{Command}
use Rattle.ct_names.specs.Group.{is_member}
use Rattle.ct_names.specs.Message.{Message}
use Rattle.ct_names.specs.Value.{has}
use Rattle.ct_names.proofs.Receipts.{has-push}
use Rattle.ct_names.proofs.Values.{same_message, is_message-refl}
use Rattle.ct_model.specs.declared.step.Step.{Step}
use Rattle.ct_model.specs.declared.moves.Move.{Move}
use Rattle.ct_model.specs.Actor.{actor}
use Rattle.ct_model.specs.AtValue.{Wire, Envelope, Mail, Standing, Turn}
use Rattle.ct_model.specs.Knowledge.{CarriesOne, KnowsMessages}
use Rattle.ct_model.specs.Setting.{Setting}
use Rattle.ct_model.specs.Wire.{envelopes}
use Rattle.ct_model.specs.declared.wire.Wire.TheVariants.{Data}
use Rattle.ct_model.specs.declared.mail.Mail.TheVariants.{Nobody, One, All}
use Rattle.ct_model.specs.State.{State, Member, member, is_crashed, submissions}
use Rattle.ct_model.specs.Received.{received, received_by}
use Rattle.ct_model.specs.Next.{Outcome, plain, row, submit, receive, begin, turned, turn_at, deliver, follow}
use Rattle.ct_model.specs.Next.{next_message, is_relayed, after, next}
use Rattle.ct_model.proofs.Record.Frame.{after-sent, after-submitted, after-size, member-same, member-other, at_place}
use Rattle.ct_model.proofs.Record.Frame.{submissions-append, submissions-next}
use Rattle.ct_model.specs.Phases.{enter, choose, adopt, suspect, conclude}
use Rattle.ct_model.proofs.Steps.Shapes.{by_shape}
use Rattle.ct_model.proofs.Record.Envelopes.{wire_to-sent}
use Rattle.ct_model.proofs.Consensus.Sent.{carries-mail, get-wire}
use Rattle.ct_model.proofs.Relay.Receipts.{received-push, joined_by}

known_push : (list : List Message) (m x : Message) → has (list ++ x ∷ []) m ≡ true → (has list m ≡ true) ⊎ (m ≡ x)
known_push list m x h = grind (arith, has-push list x m, same_message x m)

known_more : (list : List Message) (m x : Message) → has list m ≡ true → has (list ++ x ∷ []) m ≡ true
known_more list m x h = grind (arith, has-push list x m)

known_last : (list : List Message) (x : Message) → has (list ++ x ∷ []) x ≡ true
known_last list x = grind (arith, has-push list x x, is_message-refl x)

carries_more : (list : List Message) (x : Message) (w : Wire) → CarriesOne list w → CarriesOne (list ++ x ∷ []) w
carries_more list x w h = grind (arith, known_more)

in_either : (xs ys : List Envelope) (i : ℕ) (e : Envelope) → slice_get (xs ++ ys) i ≡ Some e →
    ((j : ℕ) × (slice_get xs j ≡ Some e)) ⊎ ((j : ℕ) × (slice_get ys j ≡ Some e))
in_either [] ys i e h = inr (i, h)
in_either (x ∷ xs) ys zero e h = inl (zero, h)
in_either (x ∷ xs) ys (suc i) e h = elim (in_either xs ys i e h) [ inl a ↦ inl (suc a.0, a.1) | inr a ↦ inr a ]

-- what the mail carries is one of these
abbrev MailCarries : List Message → Mail → Type 0
MailCarries list Nobody = Unit {0}
MailCarries list (One to w) = CarriesOne list w
MailCarries list (All w) = CarriesOne list w

mail_carries : (n : ℕ) (list : List Message) (mail : Mail) (i : ℕ) (e : Envelope) → MailCarries list mail →
    slice_get (envelopes n mail) i ≡ Some e → CarriesOne list e.wire
mail_carries n list Nobody i e c h = absurd (carries-mail n Nobody e.wire (get-wire (envelopes n Nobody) i e h))
mail_carries n list x i e c h = rw (carries-mail n x e.wire (get-wire (envelopes n x) i e h)) c

pub received-by : (g : State) (p : ℕ) → received_by g p ≡ received (member g p).got
received-by g p = unfold received_by in refl

module _ (s : Setting) (g : State) (p : ℕ) (o : Outcome) (k : KnowsMessages s g) (there : p - 1 < length g.members) where
  -- a message that a member has received after the step was received before, or by the actor in it
  received_cases : ((m : Message) → has (received o.member.got) m ≡ true → has g.submitted m ≡ true) → (q : ℕ) (m : Message) →
      has (received_by (after s g p o) q) m ≡ true → has g.submitted m ≡ true
  unfolding received_by
  received_cases here q m h = elim (cases_eq (q - 1) (p - 1)) [
    | inl same ↦ here m (rw (at_place (λ x. x) (after s g p o) q p same, member-same s g p o there) at h)
    | inr other ↦ k.received q m (rw (member-other s g p q o other) at h)
  ]

  -- a step that submits nothing
  knows-silent : o.submitted ≡ [] → MailCarries g.submitted o.mail →
      ((m : Message) → has (received o.member.got) m ≡ true → has g.submitted m ≡ true) → KnowsMessages s (after s g p o)
  knows-silent none mail here = grind (arith, after-submitted, append-nil, in_either, after-sent, mail_carries, received_cases)

  -- a step that submits the next message of its actor
  knows-submitting : (c : Command) → is_member s.members p ≡ true → o.submitted ≡ next_message g.submitted p c ∷ [] →
      o.mail ≡ All (Data (next_message g.submitted p c)) → o.member.got ≡ (member g p).got → KnowsMessages s (after s g p o)
  unfolding received_by
  knows-submitting c group one mail got = record {
    origin = λ m h. grind (arith, old_or_new m h, k.origin m);
    positive = λ m h. grind (arith, old_or_new m h, k.positive m);
    numbered = λ m h. grind (arith, nat_tests, old_or_new m h, k.numbered m, counted m.origin);
    unique = λ a b ha hb same_origin same_number.
        grind (arith, old_or_new a ha, old_or_new b hb, k.unique a b, k.numbered a, k.numbered b);
    sent = λ i e h. rw submitted_is (elim (in_either g.sent (envelopes s.members o.mail) i e (rw (after-sent s g p o) at h)) [
      | inl a ↦ carries_more g.submitted new e.wire (k.sent a.0 e a.1)
      | inr a ↦ mail_carries s.members (g.submitted ++ new ∷ []) (All (Data new)) a.0 e (known_last g.submitted new) (rw mail at a.1)
    ]);
    received = λ q m h. rw submitted_is (known_more g.submitted m new (received_cases (λ x r. k.received p x (rw got at r)) q m h));
  }
    where
      new : Message
      new = next_message g.submitted p c

      submitted_is : (after s g p o).submitted ≡ g.submitted ++ new ∷ []
      submitted_is = after-submitted s g p o ∙ ap (λ ms. g.submitted ++ ms) one

      old_or_new : (m : Message) → has (after s g p o).submitted m ≡ true → (has g.submitted m ≡ true) ⊎ (m ≡ new)
      old_or_new m h = known_push g.submitted m new (rw submitted_is at h)

      counted : (q : ℕ) → submissions (after s g p o).submitted q ≡ submissions g.submitted q + (if p == q then 1 else 0)
      counted q = rw (submitted_is, submissions-append g.submitted (new ∷ []) q, submissions-next g.submitted p q c) refl

-- the outcome of a step that is enabled
pub record IsStep (s : Setting) (g : State) (step : Step) (h : State) : Type 0 where
  pub outcome : Outcome
  pub in_group : is_member s.members (actor step) ≡ true
  pub up : is_crashed g (actor step) ≡ false
  pub row : row s g (actor step) (member g (actor step)) step ≡ Some outcome
  pub gives : after s g (actor step) outcome ≡ h

pub next-is : (s : Setting) (g : State) (step : Step) (h : State) → next s g step ≡ Some h → IsStep s g step h
unfolding next
next-is s g step h e = grind arith

pub in_members : (s : Setting) (g : State) (p : ℕ) → length g.members ≡ s.members → is_member s.members p ≡ true → p - 1 < length g.members
in_members s g p size group = grind (arith, nat_tests)

relay_carries : (list : List Message) (b : Bool) (w : Wire) → CarriesOne list w → MailCarries list (if b then All w else Nobody)
relay_carries list b w h = grind arith

joined_known : (list known : List Message) (w : Wire) → CarriesOne known w → ((m : Message) → has list m ≡ true → has known m ≡ true) →
    (m : Message) → has (joined_by list w) m ≡ true → has known m ≡ true
joined_known list known w c old m h = grind (arith, known_push list m, old)

-- a turn sends no message
turn_carries : (list : List Message) (n p : ℕ) (m : Member) (a : Move) (c : Standing) (t : Turn) → turn_at n p m a c ≡ Some t
    → MailCarries list t.mail
unfolding enter choose adopt suspect conclude
turn_carries list n p m a c t h = grind arith

module _ (s : Setting) (g : State) (p : ℕ) (k : KnowsMessages s g) (there : p - 1 < length g.members) (group : is_member s.members p ≡ true)
  where
    abbrev m : Member
    m = member g p

    -- what the member received before was submitted
    received_before : (x : Message) → has (received (member g p).got) x ≡ true → has g.submitted x ≡ true
    unfolding received_by
    received_before = k.received p

    knows-outcome : (step : Step) (o : Outcome) → row s g p (member g p) step ≡ Some o → KnowsMessages s (after s g p o)
    knows-outcome step o = by_shape s g p m (λ x. KnowsMessages s (after s g p x)) step o (record {
      submits = λ c good. knows-submitting s g p (submit g p m c) k there c group refl refl refl;
      gets = λ i w at.
          let sent = wire_to-sent g p i w at in
          let carries = rw sent.wire at (k.sent sent.place sent.envelope sent.there) in
          knows-silent s g p (receive s p m w) k there refl (relay_carries g.submitted (is_relayed s p m.got w) w carries)
          (λ x h.
          joined_known (received m.got) g.submitted w carries received_before x (rw (received-push m.got w) at h));
      opens = λ idle some. knows-silent s g p (begin s p m) k there refl tt received_before;
      turns = λ a c t open_at taken.
          knows-silent s g p (turned m t) k there refl (turn_carries g.submitted s.members p m a c t taken) received_before;
      closes = λ c v open_at has delivers. knows-silent s g p (deliver m v) k there refl tt received_before;
      follows = λ v idle has delivers. knows-silent s g p (follow m v) k there refl tt received_before;
      marks = λ crashed. knows-silent s g p (plain (record m { crashed = crashed }) Nobody) k there refl tt received_before;
    })

pub knows-next : (s : Setting) (g : State) (step : Step) (h : State) → next s g step ≡ Some h → length g.members ≡ s.members →
    KnowsMessages s g → KnowsMessages s h
knows-next s g step h e size k =
    let t = next-is s g step h e in
    rw t.gives at (knows-outcome s g (actor step) k (in_members s g (actor step) size t.in_group) t.in_group step t.outcome t.row)

pub size-next : (s : Setting) (g : State) (step : Step) (h : State) → next s g step ≡ Some h → length g.members ≡ s.members →
    length h.members ≡ s.members
size-next s g step h e size = let t = next-is s g step h e in rw (← t.gives, after-size s g (actor step) t.outcome) size
