-- The fields after a step are those of the longer record.
use Rattle.std.proofs.Common.{◌≡◌, ℕ, ◌+◌, ◌-◌, ◌<◌, ◌≤◌, true, List, ◌++◌, length, map, set, refl, ap, sym, ◌∙◌, subst, arith, inl, inr}
use Rattle.std.specs.Prelude.{not}
use Rattle.std.proofs.lemmas.Bool.{cases_eq}
use Rattle.std.proofs.lemmas.List.{map-append, length-set}
use Rattle.ct_names.specs.Group.{is_member}
use Rattle.ct_names.specs.declared.limit.TheConstants.{MAX_ENVELOPES}
use Rattle.ct_names.specs.Value.{Value}
use Rattle.ct_model.specs.declared.step.Step.{Step}
use Rattle.ct_model.specs.Actor.{actor}
use Rattle.ct_model.specs.declared.envelope.Envelope.{Envelope as AnyEnvelope}
use Rattle.ct_model.specs.Wire.{envelopes}
use Rattle.ct_model.specs.State.{joined, State, Member, Proposal, member, submissions}
use Rattle.ct_names.specs.Batch.{Batch}
use Rattle.ct_model.specs.Received.{received}
use Rattle.ct_relay.specs.Taken.{Taken, is_first}
use Rattle.ct_instances.specs.Keeping.{KeepsInstances}
use Rattle.ct_model.specs.Next.{Outcome, after}
use Rattle.ct_model.specs.Waiting.{line_change, changed, serials_to}
use Rattle.ct_model.specs.Rehearsal.{Rehearsal, state_of, line_of, extended}
use Rattle.ct_model.proofs.Record.Frame.{after-sent, after-submitted, length-after-sent, member-same, member-other, submissions-append}
use Rattle.ct_model.proofs.Relay.Messages.{knows-next, in_members}
use Rattle.ct_model.proofs.Record.Limits.{row-submits}
use Rattle.ct_model.proofs.Record.Taken.{IsTaken, next-step, state-step, line-step, lawful-step}
use Rattle.ct_network.specs.Network.{NetworkView, line_at}
use Rattle.ct_model.specs.declared.mail.Mail.{Mail as AnyMail}
use Rattle.ct_model.specs.declared.mail.Mail.TheVariants.{Nobody}
use Rattle.ct_world.proofs.Basics.Posts.{IsLeft, IsPosted, posted-nothing}
use Rattle.ct_instances.specs.Named.{NamesEnvelopes, NamesMail}
use Rattle.ct_instances.proofs.Named.{grows_envelopes, named_append, named_length, named_posts, named_serials}
use Rattle.ct_instances.proofs.Keeping.{keeps-grown}
use Rattle.ct_table.specs.Table.{table}
use Rattle.ct_world.specs.declared.seat.Seat.{Seat}
use Rattle.ct_world.specs.Seats.{Keeps, was_got}
use Rattle.ct_world.specs.Kept.{Fields, IsWorld, values_of, seat_of}
use Rattle.ct_world.proofs.Basics.Members.{apart, place, seat-same, seat-other}

-- what a step makes of the fields besides the network: what is proposed joins the values, and the seat of the actor keeps what
-- the outcome says of it; this is its mail
pub record IsTurnedInto (w : Rehearsal) (step : Step) (o : Outcome) (f new : Fields) (mail : AnyMail ℕ) : Type 0 where
  pub seat : Seat
  pub values : new.book.values ≡ f.book.values ++ map (λ x. x.value) o.proposals
  pub named : NamesMail new.book.values mail o.mail
  pub seats : new.seats ≡ set f.seats (actor step - 1) seat
  pub keeps : Keeps w.setting.members new.book.values (actor step) o.member seat
  pub submitted : seat.submitted ≡ submissions (state_of w).submitted (actor step) + submissions o.submitted (actor step)

-- the seat of a member that got and delivered nothing meanwhile
pub seat-kept : {n p : ℕ} {values values' : List Value} {m m' : Member} {seat seat' : Seat} → Keeps n values p m seat →
    seat'.crashed ≡ m'.crashed → seat'.relay ≡ seat.relay → seat'.caster.received ≡ seat.caster.received →
    seat'.caster.batches ≡ seat.caster.batches → seat'.table ≡ seat.table → m'.got ≡ m.got → m'.batches ≡ m.batches →
    seat'.caster.instance ≡ m'.last → KeepsInstances n values' p m' seat'.instances → Keeps n values' p m' seat'
seat-kept k crashed relay same_received delivered same_table got batches begun instances = record {
  crashed = crashed;
  me = ap (λ (r : Taken). r.me) relay ∙ k.me;
  taken = λ name. ap (λ (r : Taken). is_first r.ids name) relay ∙ k.taken name ∙ ap (λ list. not (was_got list name)) (sym got);
  received = same_received ∙ k.received ∙ ap received (sym got);
  batches = delivered ∙ k.batches ∙ ap (map (λ (b : Batch). b.messages)) (sym batches);
  table = same_table ∙ k.table ∙ ap (λ (list : List Batch). table (joined list)) (sym batches);
  begun = begun;
  instances = instances;
}

-- one value more leaves what is kept
seat-grown : {n p : ℕ} {values : List Value} {m : Member} {seat : Seat} (more : List Value) → Keeps n values p m seat →
    Keeps n (values ++ more) p m seat
seat-grown {n} {p} {values} {m} {seat} more k =
    seat-kept k k.crashed refl refl refl refl refl refl k.begun (keeps-grown n values more p m seat.instances k.instances)

after-proposals : (w : Rehearsal) (p : ℕ) (o : Outcome) → values_of (after w.setting (state_of w) p o) ≡ values_of (state_of w)
    ++ map (λ (x : Proposal). x.value) o.proposals
unfolding after
after-proposals w p o = map-append (λ (x : Proposal). x.value) (state_of w).proposals o.proposals

module _ {w : Rehearsal} {step : Step} {o : Outcome} {f new : Fields} {mail : AnyMail ℕ} {left : NetworkView} (world : IsWorld w f)
    (taken : IsTaken w step o) (l : IsLeft step w.setting.members f.network left) (s : IsTurnedInto w step o f new mail)
    (posted : IsPosted left new.network mail) where
  abbrev h : State
  h = after w.setting (state_of w) (actor step) o

  state_is : state_of (extended w step) ≡ h
  state_is = state-step w step o world.lawful taken

  there : actor step - 1 < length (state_of w).members
  there = in_members w.setting (state_of w) (actor step) world.lawful.size taken.present.in_group

  within : actor step - 1 < length f.seats
  within = let a = place w.setting.members (actor step) taken.present.in_group in omega (arith, world.seated)

  values : new.book.values ≡ values_of h
  values = s.values ∙ ap (λ vs. vs ++ map (λ (x : Proposal). x.value) o.proposals) world.values ∙ sym (after-proposals w (actor step) o)

  abbrev posts : List (AnyEnvelope ℕ)
  posts = envelopes w.setting.members mail

  posts_named : NamesEnvelopes new.book.values posts (envelopes w.setting.members o.mail)
  posts_named = named_posts new.book.values w.setting.members mail o.mail s.named

  sent : NamesEnvelopes new.book.values new.network.sent h.sent
  sent =
      let grown : NamesEnvelopes new.book.values f.network.sent (state_of w).sent =
      subst (λ vs. NamesEnvelopes vs f.network.sent (state_of w).sent) (sym s.values)
      (grows_envelopes f.book.values (map (λ (x : Proposal). x.value) o.proposals) f.network.sent (state_of w).sent world.sent) in
      let joined : new.network.sent ≡ f.network.sent ++ posts =
      posted.sent ∙ ap (λ n. left.sent ++ envelopes n mail) l.lined ∙ ap (λ es. es ++ posts) l.sent in
      rw (joined, after-sent w.setting (state_of w) (actor step) o) (named_append new.book.values f.network.sent posts (state_of w).sent
      (envelopes w.setting.members o.mail) grown posts_named)

  line : (q : ℕ) → is_member w.setting.members q ≡ true → line_at new.network.lines q ≡ line_of (extended w step) q
  line q group =
      posted.joined q (ap (λ n. is_member n q) l.lined ∙ group)
      ∙ ap (λ n. line_at left.lines q ++ serials_to q (length left.sent) (envelopes n mail)) l.lined
      ∙ ap (λ ks. ks ++ serials_to q (length left.sent) posts)
      (l.line q group ∙ ap (changed q (line_change step)) (world.line q group))
      ∙ ap (λ ks. changed q (line_change step) (line_of w q) ++ ks)
      (ap (λ k. serials_to q k posts) (ap length l.sent ∙ named_length f.book.values f.network.sent (state_of w).sent world.sent)
      ∙ named_serials new.book.values posts (envelopes w.setting.members o.mail) q (length (state_of w).sent) posts_named)
      ∙ sym (line-step w step o world.lawful taken q)

  grown_other : (q : ℕ) → is_member w.setting.members q ≡ true →
      Keeps w.setting.members new.book.values q (member (state_of w) q) (seat_of f.seats q)
  grown_other q group = subst (λ vs. Keeps w.setting.members vs q (member (state_of w) q) (seat_of f.seats q)) (sym s.values)
      (seat-grown (map (λ (x : Proposal). x.value) o.proposals) (world.seat q group))

  seat : (q : ℕ) → is_member w.setting.members q ≡ true → Keeps w.setting.members new.book.values q (member h q) (seat_of new.seats q)
  seat q group = rw s.seats (elim (cases_eq q (actor step)) [
    | inl e ↦ subst (λ r. Keeps w.setting.members new.book.values r (member (after w.setting (state_of w) (actor step) o) r)
        (seat_of (set f.seats (actor step - 1) s.seat) r)) (sym e)
        (rw (seat-same f.seats (actor step) s.seat within, member-same w.setting (state_of w) (actor step) o there) s.keeps)
    | inr ne ↦
        let away = apart w.setting.members (actor step) q taken.present.in_group group ne in
        rw (seat-other f.seats (actor step) q s.seat away, member-other w.setting (state_of w) (actor step) q o away) (grown_other q group)
  ])

  submitted : (q : ℕ) → is_member w.setting.members q ≡ true → (seat_of new.seats q).submitted ≡ submissions h.submitted q
  submitted q group = rw (
    s.seats,
    after-submitted w.setting (state_of w) (actor step) o,
    submissions-append (state_of w).submitted o.submitted q,
  ) (elim (cases_eq q (actor step)) [
    | inl e ↦ subst (λ r. (seat_of (set f.seats (actor step - 1) s.seat) r).submitted ≡ submissions (state_of w).submitted r
        + submissions o.submitted r) (sym e)
        (rw (seat-same f.seats (actor step) s.seat within) s.submitted)
    | inr ne ↦
        let away = apart w.setting.members (actor step) q taken.present.in_group group ne in
        let none = row-submits w.setting (state_of w) (actor step) (member (state_of w) (actor step)) step o taken.row q ne in
        let was = world.submitted q group in
        rw (seat-other f.seats (actor step) q s.seat away) (omega (arith, none, was))
  ])

  pub refined : IsWorld (extended w step) new
  refined = record {
    lawful = lawful-step w step o world.lawful taken;
    messages = rw state_is (knows-next w.setting (state_of w) step (after w.setting (state_of w) (actor step) o)
        (next-step w step o world.lawful taken) world.lawful.size world.messages);
    fixed = world.fixed;
    values = rw state_is values;
    sent = rw state_is sent;
    lined = posted.lined ∙ l.lined;
    line = line;
    seated = ap length s.seats ∙ length-set f.seats (actor step - 1) s.seat ∙ world.seated;
    seat = λ q group. rw state_is (seat q group);
    submitted = λ q group. rw state_is (submitted q group);
  }

-- where it sends nothing
pub refined-quiet : {w : Rehearsal} {step : Step} {o : Outcome} {f new : Fields} → IsWorld w f → IsTaken w step o →
    IsLeft step w.setting.members f.network new.network → IsTurnedInto w step o f new Nobody → IsWorld (extended w step) new
refined-quiet {new = new} world taken l s = refined world taken l s (posted-nothing new.network)

-- the mail of a step that is taken
module _ {w : Rehearsal} {step : Step} {o : Outcome} {f : Fields} {n : ℕ} (mail : AnyMail ℕ) (world : IsWorld w f)
    (taken : IsTaken w step o) (named : NamesMail f.book.values mail o.mail) (members : n ≡ w.setting.members) where
  -- it is as many envelopes as with the values themselves
  pub mail-number : length (envelopes w.setting.members o.mail) ≡ length (envelopes n mail)
  mail-number = sym (ap (λ k. length (envelopes k mail)) members ∙ named_length f.book.values (envelopes w.setting.members mail)
      (envelopes w.setting.members o.mail) (named_posts f.book.values w.setting.members mail o.mail named))

  -- and they fit
  pub mail-few : {sent : List (AnyEnvelope ℕ)} → sent ≡ f.network.sent → length sent + length (envelopes n mail) ≤ MAX_ENVELOPES
  mail-few same =
      let number = mail-number in
      let few = taken.within.few_envelopes in
      let all = length-after-sent w.setting (state_of w) (actor step) o in
      let was = named_length f.book.values f.network.sent (state_of w).sent world.sent in
      let as_many = ap length same in
      omega arith
