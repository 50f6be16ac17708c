-- Submit: the message that goes to all, and the seat after it.
use Rattle.std.proofs.Common.{◌≡◌, ℕ, ◌+◌, ◌-◌, ◌≤◌, true, List, [], ◌∷◌, length, set, refl, ap, sym, ◌∙◌, subst, arith, append-nil, Option}
use Rattle.std.proofs.Common.{Some, None}
use Rattle.std.specs.Prelude.{if◌then◌else◌, IsSome}
use Rattle.ct_names.specs.declared.limit.TheConstants.{MAX_ENVELOPES}
use Rattle.ct_names.specs.declared.command.Command.{Command}
use Rattle.ct_names.specs.Command.{is_good}
use Rattle.ct_names.specs.Message.{Message}
use Rattle.ct_names.specs.Value.{Value}
use Rattle.ct_model.specs.declared.step.Step.TheVariants.{Submit}
use Rattle.ct_model.specs.declared.wire.Wire.{Wire as AnyWire}
use Rattle.ct_model.specs.declared.mail.Mail.{Mail as AnyMail}
use Rattle.ct_model.specs.Wire.{envelopes}
use Rattle.ct_model.specs.declared.wire.Wire.TheVariants.{Data}
use Rattle.ct_model.specs.declared.mail.Mail.TheVariants.{All}
use Rattle.ct_model.specs.State.{submissions}
use Rattle.ct_model.specs.Next.{next_message}
use Rattle.ct_model.specs.Rehearsal.{Rehearsal, state_of, extended}
use Rattle.ct_model.proofs.Record.Frame.{length-after-sent, submissions-next}
use Rattle.ct_model.proofs.Basics.Serials.{length-all}
use Rattle.ct_model.proofs.Steps.Submit.{submit_outcome, submit_outcome-is, submit_taken}
use Rattle.ct_model.proofs.Basics.Tests.{self_number}
use Rattle.ct_model.proofs.Record.Taken.{IsTaken}
use Rattle.ct_instances.specs.Named.{NamesMail}
use Rattle.ct_instances.proofs.Named.{named_length}
use Rattle.ct_world.specs.Kept.{Fields, IsWorld, seat_of}
use Rattle.ct_world.proofs.Steps.Doing.{IsAllowed}
use Rattle.ct_world.proofs.Basics.Posts.{IsPosted, left-plain}
use Rattle.ct_world.proofs.Steps.Refines.{refined, seat-kept}

-- the message that is made is the next one
pub next_made : (r : Option Message) (m : Message) (p k : ℕ) (c : Command) (list : List Message) →
    r ≡ (if is_good c then Some (record { origin = p; number = k + 1; command = c }) else None) → is_good c ≡ true → r ≡ Some m →
    k ≡ submissions list p → m ≡ next_message list p c
next_made r m p k c list made good is count = grind arith

pub good_made : (r : Option Message) (m : Message) (c : Command) → r ≡ (if is_good c then Some m else None) → is_good c ≡ true → IsSome r
good_made r m c made good = subst (λ x. IsSome x) (sym (made ∙ ap (λ b. if b then Some m else None) good)) refl

one_more : (w : Rehearsal) (p : ℕ) (c : Command) (k : ℕ) → k ≡ submissions (state_of w).submitted p →
    k + 1 ≡ submissions (state_of w).submitted p + submissions (next_message (state_of w).submitted p c ∷ []) p
one_more w p c k count = grind (arith, submissions-next (state_of w).submitted p p c, self_number p)

module _ {w : Rehearsal} {p : ℕ} {c : Command} {f : Fields} (may : IsAllowed w (Submit p c) f) where
  pub submitted_taken : IsTaken w (Submit p c) (submit_outcome w p c)
  submitted_taken = (submit_taken w p c may.world.lawful may.allowed).taken

  -- as many envelopes are sent as there are members
  pub submit_mail : (x : AnyWire ℕ) → length (envelopes w.setting.members (submit_outcome w p c).mail)
      ≡ length (envelopes (length f.network.lines) (All x))
  submit_mail x = rw (submit_outcome-is w p c) (length-all (Data (next_message (state_of w).submitted p c)) w.setting.members)
      ∙ sym (length-all x (length f.network.lines) ∙ may.world.lined)

  -- the mail fits
  pub submit_few : (x : AnyWire ℕ) → length f.network.sent + length (envelopes (length f.network.lines) (All x)) ≤ MAX_ENVELOPES
  submit_few x =
      let few = submitted_taken.within.few_envelopes in
      let sent = named_length f.book.values f.network.sent (state_of w).sent may.world.sent in
      let after_is = length-after-sent w.setting (state_of w) p (submit_outcome w p c) in
      let mail = submit_mail x in
      omega arith

  -- a Submit sends the next message to all
  pub submit_steps : {new : Fields} (m : Message) → m ≡ next_message (state_of w).submitted p c → new.seats ≡ set f.seats (p - 1)
      (record (seat_of f.seats p) { submitted = (seat_of f.seats p).submitted + 1 }) → new.book.values ≡ f.book.values →
      IsPosted f.network new.network (All (Data m)) → IsWorld (extended w (Submit p c)) new
  submit_steps {new} m made seats values posted =
      let named : NamesMail new.book.values (All (Data m)) (All (Data (next_message (state_of w).submitted p c))) =
      ap (λ x. let mail : AnyMail (Option Value) = All (Data x) in mail) made in
      refined {mail = All (Data m)} {left = f.network} may.world submitted_taken
      (left-plain may.world.lined refl refl refl) (rw (submit_outcome-is w p c) (record {
        seat = record (seat_of f.seats p) { submitted = (seat_of f.seats p).submitted + 1 };
        named = named;
        values = values ∙ sym (append-nil f.book.values);
        seats = seats;
        keeps = rw values (seat-kept may.keeps may.keeps.crashed refl refl refl refl refl refl may.keeps.begun may.keeps.instances);
        submitted = one_more w p c (seat_of f.seats p).submitted (may.world.submitted p may.in_group);
      })) posted
