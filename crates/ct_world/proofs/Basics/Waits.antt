-- What waits at a member: its envelope, in the record and in the network.
use Rattle.std.proofs.Common.{◌≡◌, ℕ, zero, suc, ◌-◌, ◌≤◌, true, false, List, length, slice_get, Some, ap, sym, ◌∙◌, subst, arith}
use Rattle.std.specs.Prelude.{◌==◌, Option, is_some, option_map}
use Rattle.std.specs.Option.{option_map_or}
use Rattle.ct_names.specs.Group.{is_member}
use Rattle.ct_model.specs.AtValue.{Wire, Envelope}
use Rattle.ct_model.specs.declared.envelope.Envelope.{Envelope as AnyEnvelope}
use Rattle.ct_model.specs.declared.wire.Wire.TheVariants.{Data}
use Rattle.ct_model.specs.Counted.{NamesSomebody}
use Rattle.ct_model.specs.Knowledge.{KnowsMessages, CarriesOne}
use Rattle.ct_model.specs.Lawful.{IsLetter, is_waiting}
use Rattle.ct_model.specs.Rehearsal.{Rehearsal, state_of}
use Rattle.ct_model.specs.Setting.{Setting}
use Rattle.ct_model.specs.State.{State, member, at_serial}
use Rattle.ct_model.proofs.Record.Envelopes.{waiting_letter}
use Rattle.ct_model.proofs.Basics.Options.{some-same}
use Rattle.ct_model.proofs.Consensus.Sent.{get-wire}
use Rattle.ct_instances.specs.Named.{NamesEnvelope}
use Rattle.ct_instances.proofs.Named.{named_back}
use Rattle.ct_world.specs.Kept.{Fields, IsWorld, IsReady, fields_of, rehearsal_of}
use Rattle.ct_world.specs.Prepared.{step_in}
use Rattle.ct_world.specs.World.{WorldView}
use Rattle.ct_world.specs.declared.world.World.TheInside.{Inside}
use Rattle.ct_model.proofs.Record.Addressees.{sender_named}
use Rattle.ct_world.proofs.Steps.Receipts.{IsKnown, known_name}
use Rattle.ct_world.proofs.Reading.Shown.{without_value_at}
use Rattle.ct_model.specs.Next.{wire_to}

-- the member's line
pub lined_member : {w : Rehearsal} {f : Fields} (p : ℕ) → IsWorld w f → is_member w.setting.members p ≡ true →
    is_member (length f.network.lines) p ≡ true
lined_member p world group = ap (λ n. is_member n p) world.lined ∙ group

-- an envelope at its serial
serial_of : {A : Type 0} (list : List A) (k : ℕ) (x : A) → 1 ≤ k → slice_get list (k - 1) ≡ Some x → at_serial list k ≡ Some x
serial_of list zero x low e = absurd (omega arith)
serial_of list (suc i) x low e = subst (λ j. slice_get list j ≡ Some x) (let back : suc i - 1 ≡ i = omega arith in back) e

-- a message that it carries was submitted
known_wire : (s : Setting) (g : State) (p : ℕ) (w : Wire) → KnowsMessages s g → CarriesOne g.submitted w → IsKnown (member g p).got w
known_wire s g p (Data m) k submitted = known_name s g p m k submitted
known_wire s g p _ k submitted = tt

-- the envelope x of the network waits at p
pub record IsAwaited (w : Rehearsal) (f : Fields) (p k : ℕ) (x : AnyEnvelope ℕ) : Type 0 where
  pub there : at_serial f.network.sent k ≡ Some x
  pub envelope : Envelope
  pub letter : IsLetter (state_of w) p k envelope
  pub names : NamesEnvelope f.book.values x envelope
  pub somebody : NamesSomebody envelope.wire
  pub known : IsKnown (member (state_of w) p).got envelope.wire

module _ {w : Rehearsal} {f : Fields} (p k : ℕ) (world : IsWorld w f) (waits : is_waiting w p k ≡ true) where
  -- what waits has its envelope
  awaited : (x : AnyEnvelope ℕ) × IsAwaited w f p k x
  awaited =
      let e = waiting_letter w p k world.lawful waits in
      let back = named_back f.book.values f.network.sent (state_of w).sent k e.0 world.sent
      (serial_of (state_of w).sent k e.0 e.1.positive e.1.there) in (
        back.0,
        record {
          there = back.1;
          envelope = e.0;
          letter = e.1;
          names = back.2;
          somebody = sender_named w.setting w.steps (state_of w) world.fixed.few_members world.lawful.runs e.0.wire
              (get-wire (state_of w).sent (k - 1) e.0 e.1.there);
          known = known_wire w.setting (state_of w) p e.0.wire world.messages (world.messages.sent (k - 1) e.0 e.1.there);
        },
      )

  -- so the network has one
  pub awaited-some : is_some (at_serial f.network.sent k) ≡ true
  awaited-some = ap is_some awaited.1.there

  -- and the one that it has is that
  pub awaited-is : {x : AnyEnvelope ℕ} → at_serial f.network.sent k ≡ Some x → IsAwaited w f p k x
  awaited-is {x} is = subst (λ y. IsAwaited w f p k y) (some-same awaited.0 x (sym awaited.1.there ∙ is)) awaited.1

-- what contracts see of a world
abbrev pub view_in : Inside → WorldView
view_in a = record { rehearsal = rehearsal_of a.kept; prepared = option_map step_in a.prepared }

-- the world that a call sees
pub world_seen : (a : Inside) {v : WorldView} → view_in a ≡ v → IsReady a.kept a.prepared → IsWorld v.rehearsal (fields_of a.kept)
world_seen a view ready = subst (λ (x : WorldView). IsWorld x.rehearsal (fields_of a.kept)) view ready.sound

-- a serial was sent to p where its envelope in the network goes to p
module _ {w : Rehearsal} {f : Fields} (p k : ℕ) (world : IsWorld w f) where
  pub sent_to : {o : Option (AnyEnvelope ℕ)} → o ≡ at_serial f.network.sent k →
      is_some (wire_to (state_of w) p k) ≡ option_map_or (λ x. x.to == p) o false
  unfolding wire_to
  sent_to is = grind (arith, without_value_at f.book.values f.network.sent (state_of w).sent k world.sent)
