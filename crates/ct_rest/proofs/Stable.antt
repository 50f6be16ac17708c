-- Where nobody sent a nack of a round, who replied in it acked, so that its coordinator concludes it by the decision.
use Rattle.std.proofs.Common.{◌≡◌, ℕ, true, List, ◌++◌, Some, sym, ap, ◌∙◌, inl, inr, ◌⊎◌, arith}
use Rattle.std.proofs.lemmas.Bool.Decides.{nat_tests}
use Rattle.ct_names.specs.Group.{everyone, is_majority}
use Rattle.ct_names.specs.Membership.{IsIn, IsWithoutRepeats}
use Rattle.ct_names.specs.Value.{Value}
use Rattle.ct_names.proofs.Groups.{once-everyone, majority_of}
use Rattle.ct_names.proofs.Lists
use Rattle.ct_model.specs.declared.moves.Move.TheVariants as moves
use Rattle.ct_model.specs.declared.step.Step.{Step}
use Rattle.ct_model.specs.declared.step.Step.TheVariants.{Conclude}
use Rattle.ct_model.specs.AtValue.{Wire, Standing}
use Rattle.ct_model.specs.Setting.{Setting}
use Rattle.ct_model.specs.Wire.{envelopes}
use Rattle.ct_model.specs.declared.wire.Wire.TheVariants.{Nack, Dec}
use Rattle.ct_model.specs.declared.mail.Mail.TheVariants.{All}
use Rattle.ct_model.specs.State.{State, Member, member, wires}
use Rattle.ct_model.specs.Received.{Ballots, ballots, is_ack, is_reply, has_ack, has_reply}
use Rattle.ct_model.specs.Next.{next, own_ballots, turn_at}
use Rattle.ct_model.specs.Run.{run}
use Rattle.ct_model.proofs.Basics.Options.{some-same}
use Rattle.ct_model.proofs.Consensus.Facts.{member_is}
use Rattle.ct_model.proofs.Consensus.Runs.{Holds-run}
use Rattle.ct_model.proofs.Record.Frame.{after-sent}
use Rattle.ct_model.proofs.Relay.Messages.{next-is}
use Rattle.ct_model.proofs.Steps.Rows.{round_row-is, conclude-is}
use Rattle.ct_rest.proofs.Ballots.{majority_of_more}

reply_acks : (k r q : ℕ) (w : Wire) → is_reply k r q w ≡ true → (is_ack k r q w ≡ true) ⊎ (w ≡ Nack k r q)
reply_acks k r q w h = grind (arith, nat_tests)

-- who replied acked
all_acked : (got : List Wire) (k r : ℕ) → ((q : ℕ) → IsIn (Nack k r q) got → ⊥) → (q : ℕ) → IsIn q (ballots got k r).replied →
    IsIn q (ballots got k r).acked
unfolding ballots
all_acked got k r unopposed q h =
    let f = Lists.found-list_any (is_reply k r q) got (Lists.IsIn-filter_passes (has_reply got k r) q everyone h) in
    Lists.IsIn-filter (has_ack got k r) q everyone (elim (reply_acks k r q f.item f.passes) [
      | inl ack ↦ Lists.list_any-found (is_ack k r q) f.item got f.is_in ack
      | inr nack ↦ absurd (unopposed q (rw nack at f.is_in))
    ]) (Lists.IsIn-filter_from (has_reply got k r) q everyone h)

replied_once : (got : List Wire) (k r : ℕ) → IsWithoutRepeats (ballots got k r).replied
unfolding ballots
replied_once got k r = Lists.IsWithoutRepeats-filter (has_reply got k r) everyone once-everyone

pub decides : (s : Setting) (steps : List Step) (g h : State) (p : ℕ) (c : Standing) → run s steps ≡ Some g →
    (member g p).current ≡ Some c → ((q : ℕ) → IsIn (Nack (member g p).last c.round q) (wires g) → ⊥) → next s g (Conclude p) ≡ Some h →
    h.sent ≡ g.sent ++ envelopes s.members (All (Dec (member g p).last c.round c.estimate))
decides s steps g h p c runs at unopposed e =
    let m : Member = member g p in
    let got : Ballots Value = own_ballots m c in
    let t = next-is s g (Conclude p) h e in
    let u = round_row-is m (turn_at s.members p m moves.Conclude) t.outcome t.row in
    let same : u.standing ≡ c = some-same u.standing c (sym u.is_open ∙ at) in
    let f = conclude-is s.members m.last got c u.turn (rw same at u.taken) in
    let holds = Holds-run s steps g runs in
    let acked : is_majority s.members got.acked ≡ true =
    majority_of_more s.members got.replied got.acked (replied_once m.got m.last c.round) (majority_of s.members got.replied f.majority)
    (all_acked m.got m.last c.round (λ q x. unopposed q (holds.got p (member_is s.members p t.in_group) (Nack m.last c.round q) x))) in
    let mail : t.outcome.mail ≡ All (Dec m.last c.round c.estimate) = grind (arith, u.gives, f.gives, acked) in
    rw (← t.gives) (after-sent s g p t.outcome ∙ ap (λ x. g.sent ++ envelopes s.members x) mail)
