-- The five steps of a round: what the instances of the member and the network did is the step.
use Rattle.std.proofs.Common.{◌≡◌, ℕ, ◌-◌, ◌<◌, true, List, length, set, refl, ap, sym, ◌∙◌, subst, append-nil, arith, Some}
use Rattle.ct_names.specs.Group.{is_member, IsMember}
use Rattle.ct_names.specs.Value.{Value}
use Rattle.ct_model.specs.declared.step.Step.{Step}
use Rattle.ct_model.specs.Actor.{actor}
use Rattle.ct_model.specs.AtValue.{Wire, Mail, Turn}
use Rattle.ct_model.specs.declared.mail.Mail.{Mail as AnyMail}
use Rattle.ct_model.specs.declared.mail.Mail.TheVariants.{Nobody, One, All}
use Rattle.ct_model.specs.State.{member}
use Rattle.ct_model.specs.Next.{turned}
use Rattle.ct_model.specs.Rehearsal.{Rehearsal, state_of, extended}
use Rattle.ct_model.proofs.Record.Taken.{IsTaken}
use Rattle.ct_network.specs.Network.{IsAddressed}
use Rattle.ct_instances.specs.Kept.{Kept}
use Rattle.ct_instances.specs.Keeping.{KeepsInstances}
use Rattle.ct_instances.specs.Named.{NamesMail}
use Rattle.ct_world.specs.Kept.{Fields, IsWorld, seat_of}
use Rattle.ct_model.proofs.Record.Addressees.{addressed-step}
use Rattle.ct_world.proofs.Steps.Doing.{IsAllowed}
use Rattle.ct_model.specs.Waiting.{line_change}
use Rattle.ct_model.specs.Waiting.LineChange.{Leaves}
use Rattle.ct_world.proofs.Basics.Posts.{IsPosted, left-plain}
use Rattle.ct_world.proofs.Steps.Refines.{refined, seat-kept}

-- the member's instances took a step of a round, with this mail; it is the step of the record
pub record IsTurned (w : Rehearsal) (step : Step) (f : Fields) (kept : Kept) (mail : AnyMail ℕ) : Type 0 where
  pub turn : Turn
  pub named : NamesMail f.book.values mail turn.mail
  pub keeps : KeepsInstances w.setting.members f.book.values (actor step)
      (record (member (state_of w) (actor step)) { current = Some turn.after }) kept
  pub taken : IsTaken w step (turned (member (state_of w) (actor step)) turn)

group_member : (n p : ℕ) → IsMember n p → is_member n p ≡ true
group_member n p h = grind arith

-- mail goes to members where the mail with the values themselves does
named_addressed : (values : List Value) (n : ℕ) (x : AnyMail ℕ) (mail : Mail) → NamesMail values x mail →
    ((to : ℕ) (w : Wire) → mail ≡ One to w → IsMember n to) → IsAddressed n x
named_addressed values n Nobody mail h to_member = tt
named_addressed values n (One to x) (One q w) h to_member =
    let same : to ≡ q = cc in
    ap (is_member n) same ∙ group_member n q (to_member q w refl)
named_addressed values n (One to x) _ h to_member = absurd (cc)
named_addressed values n (All x) mail h to_member = tt

module _ {w : Rehearsal} {step : Step} {f : Fields} {kept : Kept} {mail : AnyMail ℕ} (may : IsAllowed w step f)
    (t : IsTurned w step f kept mail) where
  -- what the network's post asks for
  pub turn_addressed : IsAddressed (length f.network.lines) mail
  turn_addressed =
      let some : 0 < w.setting.members = omega (arith, may.within, may.world.seated) in
      rw may.world.lined
      (named_addressed f.book.values w.setting.members mail t.turn.mail t.named
      (λ to x e. addressed-step w.setting (state_of w) (actor step) (member (state_of w) (actor step)) step
      (turned (member (state_of w) (actor step)) t.turn) to x some t.taken.row e))

  -- after the post the fields are those of the longer record
  pub turn_steps : {new : Fields} → line_change step ≡ Leaves →
      new.seats ≡ set f.seats (actor step - 1) (record (seat_of f.seats (actor step)) { instances = kept }) →
      new.book.values ≡ f.book.values → IsPosted f.network new.network mail → IsWorld (extended w step) new
  turn_steps plain seats values posted =
      refined {mail = mail} {left = f.network} may.world t.taken (left-plain may.world.lined plain refl refl) (record {
        seat = record (seat_of f.seats (actor step)) { instances = kept };
        named = subst (λ vs. NamesMail vs mail t.turn.mail) (sym values) t.named;
        values = values ∙ sym (append-nil f.book.values);
        seats = seats;
        keeps = rw values (seat-kept may.keeps may.keeps.crashed refl refl refl refl refl refl may.keeps.begun t.keeps);
        submitted = may.submitted;
      }) posted
