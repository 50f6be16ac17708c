-- What a member got has gone from it to everyone, so who gets all of it catches up.
use Rattle.std.proofs.Common.{◌≡◌, ℕ, ◌-◌, List, [], ◌∷◌, ◌++◌, Some, arith, append_assoc, append-nil, length}
use Rattle.std.proofs.Common.{length-append, replicate}
use Rattle.ct_names.specs.Group.{IsMember}
use Rattle.ct_names.specs.Membership.{IsIn}
use Rattle.ct_model.specs.declared.step.Step.{Step}
use Rattle.ct_model.specs.Actor.{actor}
use Rattle.ct_model.specs.AtValue.{Wire}
use Rattle.ct_model.specs.Setting.{Setting}
use Rattle.ct_model.specs.Wire.{envelopes}
use Rattle.ct_model.specs.declared.wire.Wire.TheVariants.{Data, Dec}
use Rattle.ct_model.specs.State.{State, first_state, member}
use Rattle.ct_model.specs.Received.{received_by}
use Rattle.ct_model.specs.Next.{Outcome, row, after, next}
use Rattle.ct_model.specs.Run.{run, run_from}
use Rattle.ct_model.specs.Senders.{senders, senders_from}
use Rattle.ct_model.specs.Relayed.{IsArrived, HasCaughtUp}
use Rattle.ct_model.proofs.Consensus.Facts.{Holds, member_is}
use Rattle.ct_model.proofs.Record.Start.{member-first}
use Rattle.ct_model.proofs.Relay.History.{IsSpread, IsHistory, history_kept}
use Rattle.ct_model.proofs.Relay.Messages.{next-is}
use Rattle.ct_model.proofs.Relay.Additions.{made-step}
use Rattle.ct_model.proofs.Basics.Options.{some-same, made-then}
use Rattle.ct_model.proofs.Record.Senders.{IsPosted, letter}
use Rattle.ct_model.proofs.Consensus.Readings
use Rattle.ct_model.proofs.Consensus.Runs.{Holds-first, Holds-next}

history-first : (s : Setting) → IsHistory s [] [] (first_state s)
unfolding first_state
history-first s = grind (arith, member-first)

sent-length : (s : Setting) (g : State) (p : ℕ) (o : Outcome) →
    length (after s g p o).sent - length g.sent ≡ length (envelopes s.members o.mail)
unfolding after
sent-length s g p o = omega (arith, length-append g.sent (envelopes s.members o.mail))

-- what every step keeps, by names of senders, holds after a run with its history
module _ (s : Setting) (P : List ℕ → State → Type 0)
    (keeps : (from : List ℕ) (g : State) (step : Step) (o : Outcome) → Holds s g → length from ≡ length g.sent →
    IsMember s.members (actor step) → row s g (actor step) (member g (actor step)) step ≡ Some o → P from g →
    P (from ++ replicate (length (envelopes s.members o.mail)) (actor step)) (after s g (actor step) o)) where
  abbrev Kept : List Step → List ℕ → State → Type 0
  Kept done from g = IsHistory s done from g × P from g

  kept-next : (done : List Step) (from : List ℕ) (g : State) (step : Step) (mid : State) → next s g step ≡ Some mid → Holds s g →
      Kept done from g → Kept (done ++ step ∷ []) (from ++ replicate (length mid.sent - length g.sent) (actor step)) mid
  kept-next done from g step mid e holds kept =
      let t = next-is s g step mid e in
      let acts : IsMember s.members (actor step) = member_is s.members (actor step) t.in_group in
      rw (← t.gives, sent-length s g (actor step) t.outcome) (
        history_kept s done from g step t.outcome kept.0 holds acts (made-step s g step t.outcome holds acts t.row) t.row,
        keeps from g step t.outcome holds kept.0.count acts t.row kept.1,
      )

  kept-from : (done : List Step) (from : List ℕ) (g h : State) (steps : List Step) → run_from s g steps ≡ Some h → Holds s g →
      Kept done from g → Kept (done ++ steps) (from ++ senders_from s g steps) h
  unfolding run_from senders_from
  kept-from done from g h [] e holds kept = rw (append-nil done, append-nil from, ← some-same g h e) kept
  kept-from done from g h (step ∷ steps) e holds kept =
      let made = made-then (λ mid. run_from s mid steps) (next s g step) h e in
      let mid : State = made.from in
      let sent_now : List ℕ = replicate (length mid.sent - length g.sent) (actor step) in
      let rest = kept-from (done ++ step ∷ []) (from ++ sent_now) mid h steps made.gives (Holds-next s g step mid made.is holds)
      (kept-next done from g step mid made.is holds kept) in
      rw made.is (rw (append_assoc done (step ∷ []) steps, append_assoc from sent_now (senders_from s mid steps)) at rest)

  pub posted-run : P [] (first_state s) → (steps : List Step) (g : State) → run s steps ≡ Some g →
      IsHistory s steps (senders s steps) g × P (senders s steps) g
  unfolding run senders
  posted-run first steps g e = kept-from [] [] (first_state s) g steps e (Holds-first s) (history-first s, first)

pub history-run : (s : Setting) (steps : List Step) (g : State) → run s steps ≡ Some g → IsHistory s steps (senders s steps) g
history-run s steps g e = (posted-run s (λ from g. Unit {0}) (λ from g step o holds count is rowed kept. tt) tt steps g e).0

-- what p posted to q has come to q
pub posted-come : (s : Setting) (steps : List Step) (g : State) (p q : ℕ) (w : Wire) → IsHistory s steps (senders s steps) g →
    IsMember s.members q → IsArrived s steps g p q → IsPosted (senders s steps) g.sent p (letter q w) → IsIn w (member g q).got
posted-come s steps g p q w hist isq arrived f = grind (arith, hist.come)

pub caught_up : (s : Setting) (steps : List Step) (g : State) → run s steps ≡ Some g → (p q : ℕ) → IsMember s.members p →
    IsMember s.members q → IsArrived s steps g p q → HasCaughtUp g p q
unfolding received_by
caught_up s steps g e p q isp isq arrived =
    let hist = history-run s steps g e in
    let come : (w : Wire) (f : IsSpread (senders s steps) g.sent p q w) → IsIn f.wire (member g q).got =
    λ w f. posted-come s steps g p q f.wire hist isq arrived f.posted in
    record {
      messages = λ m h.
          let f = hist.on p isp (Data m) tt (Readings.received-got (member g p).got m h) q isq in
          Readings.got-received (member g q).got m (rw f.like at (come (Data m) f));
      decisions = λ k v h.
          let d = Readings.decided-got (member g p).got k v h in
          let f = hist.on p isp (Dec k d.round v) tt d.is_in q isq in
          Readings.got-decided (member g q).got k d.round f.like.0 (rw f.like.1 at (come (Dec k d.round v) f));
    }
