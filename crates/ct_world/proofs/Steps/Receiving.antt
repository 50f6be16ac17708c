-- Receive.
use Rattle.std.proofs.Common.{◌≡◌, ℕ, ◌-◌, ◌<◌, Bool, true, List, [], ◌∷◌, length, arith, set, Some, refl, ap, sym, ◌∙◌, subst, append-nil}
use Rattle.std.specs.Prelude.{Option, if◌then◌else◌}
use Rattle.std.proofs.lemmas.List.{length-set}
use Rattle.ct_model.specs.declared.step.Step.TheVariants.{Receive}
use Rattle.ct_model.specs.Cause.{cause, overflow}
use Rattle.ct_model.specs.Counted.{NamesSomebody}
use Rattle.ct_model.specs.Lawful.{is_waiting}
use Rattle.ct_model.specs.Next.{is_relayed}
use Rattle.ct_model.specs.Rehearsal.{Rehearsal, state_of, extended}
use Rattle.ct_model.specs.State.{Member, member, at_serial}
use Rattle.ct_model.specs.Waiting.{without}
use Rattle.ct_model.specs.declared.envelope.Envelope.{Envelope as AnyEnvelope}
use Rattle.ct_model.specs.declared.wire.Wire.{Wire as AnyWire}
use Rattle.ct_model.specs.declared.wire.Wire.TheVariants.{Data, Dec}
use Rattle.ct_model.specs.declared.mail.Mail.{Mail as AnyMail}
use Rattle.ct_model.specs.declared.mail.Mail.TheVariants.{Nobody, All}
use Rattle.ct_model.proofs.Basics.Options.{some-same}
use Rattle.ct_model.proofs.Steps.Receive.{receive_outcome, receive_outcome-is, receive_taken, receive_waits, cause-receive}
use Rattle.ct_model.proofs.Record.Taken.{IsTaken}
use Rattle.ct_names.specs.Value.{Value}
use Rattle.ct_network.specs.Network.{NetworkView, line_at}
use Rattle.ct_relay.specs.Taken.{is_first}
use Rattle.ct_relay.specs.declared.relay_id.RelayId.TheVariants as id
use Rattle.ct_instances.specs.Named.{NamesWire, NamesMail}
use Rattle.ct_instances.proofs.Named.{named_all, named_sender, named_wire}
use Rattle.ct_world.specs.declared.seat.Seat.{Seat}
use Rattle.ct_world.specs.Seats.{Content, HasReceived, CanReceive, Keeps, content, is_new, is_passed_on, passed_on}
use Rattle.ct_world.specs.Kept.{Fields, IsWorld, IsActor, values_of, seat_of}
use Rattle.ct_world.proofs.Steps.Doing.{IsAllowed}
use Rattle.ct_world.proofs.Basics.Members.{seat-same}
use Rattle.ct_world.proofs.Basics.Posts.{IsPosted, left-changed}
use Rattle.ct_world.proofs.Steps.Receipts.{receive_keeps, passes}
use Rattle.ct_world.proofs.Steps.Refines.{refined}
use Rattle.ct_world.proofs.Basics.Waits.{IsAwaited, awaited-is}

-- why it is refused
pub cause_by : {w : Rehearsal} {f : Fields} {p : ℕ} (k : ℕ) {n : ℕ} {seat : Seat} {x : AnyEnvelope ℕ} {b : Bool} → IsWorld w f →
    IsActor w p seat → n ≡ w.setting.members → is_waiting w p k ≡ true → at_serial f.network.sent k ≡ Some x →
    is_passed_on n seat.relay x.wire ≡ b → cause w (Receive p k) ≡ overflow w (if b then w.setting.members else 0)
cause_by {w} {f} {p} k {seat = seat} {x} world actor members waits is passed =
    let a = awaited-is p k world waits is in
    let names : NamesWire (values_of (state_of w)) x.wire a.envelope.wire =
    subst (λ vs. NamesWire vs x.wire a.envelope.wire) world.values (named_wire f.book.values x a.envelope a.names) in
    cause-receive w p k a.envelope world.lawful actor.present a.letter waits
    ∙ ap (λ t. overflow w (if t then w.setting.members else 0))
    (sym (passes actor.sits.keeps w.setting x.wire a.envelope.wire refl names a.known)
    ∙ ap (λ j. is_passed_on j seat.relay x.wire) (sym members) ∙ passed)

pub left_lined : (lines : List (List ℕ)) {left : List (List ℕ)} {n : ℕ} (i : ℕ) (line : List ℕ) → left ≡ set lines i line →
    length lines ≡ n → length left ≡ n
left_lined lines i line is lined = ap length is ∙ length-set lines i line ∙ lined

-- a Receive that is allowed waits
pub receive_awaits : {w : Rehearsal} {p k : ℕ} {f : Fields} → IsAllowed w (Receive p k) f → is_waiting w p k ≡ true
receive_awaits {w} {p} {k} may = receive_waits w p k may.allowed

module _ {w : Rehearsal} {p k : ℕ} {f : Fields} {x : AnyEnvelope ℕ} (may : IsAllowed w (Receive p k) f)
    (is : at_serial f.network.sent k ≡ Some x) where
  -- the envelope that is received
  pub carried : IsAwaited w f p k x
  carried = awaited-is p k may.world (receive_waits w p k may.allowed) is

  names : NamesWire f.book.values x.wire carried.envelope.wire
  names = named_wire f.book.values x carried.envelope carried.names

  pub received_named : NamesSomebody x.wire
  received_named = named_sender f.book.values x.wire carried.envelope.wire names carried.somebody

  pub received_taken : IsTaken w (Receive p k) (receive_outcome w p carried.envelope.wire)
  received_taken = receive_taken w p k carried.envelope may.world.lawful may.allowed carried.letter

  -- the mail

  module _ {mail : AnyMail ℕ} (mail_is : mail ≡ passed_on w.setting.members (seat_of f.seats p).relay x.wire) where
    pub named_mail : NamesMail f.book.values mail (receive_outcome w p carried.envelope.wire).mail
    named_mail =
        let b : Bool = is_relayed w.setting p (member (state_of w) p).got carried.envelope.wire in
        rw (receive_outcome-is w p carried.envelope.wire)
        (subst (λ z. NamesMail f.book.values z (if b then All carried.envelope.wire else Nobody))
        (sym (mail_is ∙ ap (λ t. if t then All x.wire else Nobody)
        (passes may.keeps w.setting x.wire carried.envelope.wire refl names carried.known)))
        (named_all f.book.values b x.wire carried.envelope.wire names))

  -- the fields after it
  pub receive_steps : {new : Fields} {seat : Seat} {mail : AnyMail ℕ} {left : NetworkView} → HasReceived (seat_of f.seats p) x.wire seat
      → mail ≡ passed_on w.setting.members (seat_of f.seats p).relay x.wire → left.sent ≡ f.network.sent
      → left.lines ≡ set f.network.lines (p - 1) (without k (line_at f.network.lines p)) → IsPosted left new.network mail
      → new.seats ≡ set f.seats (p - 1) seat → new.book.values ≡ f.book.values → IsWorld (extended w (Receive p k)) new
  receive_steps {seat = seat} {mail = mail} {left = left} received mail_is sent lines posted seats values =
      refined {mail = mail} {left = left} may.world received_taken
      (left-changed (without k) (λ q line. refl) may.world.lined may.in_group sent lines)
      (rw (receive_outcome-is w p carried.envelope.wire) (record {
        seat = seat;
        named = rw values (rw (receive_outcome-is w p carried.envelope.wire) at (named_mail mail_is));
        values = values ∙ sym (append-nil f.book.values);
        seats = seats;
        keeps = rw values (receive_keeps may.keeps x.wire carried.envelope.wire names carried.somebody carried.known received);
        submitted = received.submitted ∙ may.submitted;
      }))
      posted

-- a seat that was exchanged twice
pub set_again : {A : Type 0} (xs : List A) (i : ℕ) (x y : A) → set (set xs i x) i y ≡ set xs i y
set_again [] i x y = refl
set_again (z ∷ xs) i x y = grind (arith, set_again xs (i - 1) x y)

-- room for it
pub receive_room : (seats : List Seat) (p : ℕ) (seat : Seat) {o : Option (AnyEnvelope ℕ)} {x : AnyEnvelope ℕ} → p - 1 < length seats →
    o ≡ Some x → CanReceive seat x.wire → (y : AnyEnvelope ℕ) → o ≡ Some y → CanReceive (seat_of (set seats (p - 1) seat) p) y.wire
receive_room seats p seat {x = x} within is can y e =
    rw (seat-same seats p seat within) (subst (λ (z : AnyEnvelope ℕ). CanReceive seat z.wire) (some-same x y (sym is ∙ e)) can)

-- two seats that keep what one member has know the same
pub new_same : {n : ℕ} {vs us : List Value} {p : ℕ} {m : Member} {one other : Seat} → Keeps n vs p m one → Keeps n us p m other →
    (x : AnyWire ℕ) → is_new one.relay x ≡ is_new other.relay x
new_same k l (Data m) = k.taken (id.Data m.origin m.number) ∙ sym (l.taken (id.Data m.origin m.number))
new_same k l (Dec instance round v) = k.taken (id.Dec instance round) ∙ sym (l.taken (id.Dec instance round))
new_same k l _ = refl

-- whatever room there is
pub new_roomier : (old new : Seat) → content new ≡ content old → (x : AnyWire ℕ) → is_new new.relay x ≡ is_new old.relay x
new_roomier old new same (Data m) = ap (λ (c : Content). is_first c.seat.relay.ids (id.Data m.origin m.number)) same
new_roomier old new same (Dec instance round v) = ap (λ (c : Content). is_first c.seat.relay.ids (id.Dec instance round)) same
new_roomier old new same _ = refl
