-- What is read off a world's fields.
use Rattle.std.proofs.Common.{◌≡◌, ℕ, zero, suc, ◌-◌, ◌≤◌, List, map, slice_get, Option, Some, None, option_map, refl, ap, sym, ◌∙◌, subst}
use Rattle.std.proofs.Common.{arith}
use Rattle.std.specs.Prelude.{option_and_then}
use Rattle.std.proofs.lemmas.Option.{slice_get-map}
use Rattle.ct_names.specs.Value.{Value}
use Rattle.ct_model.specs.AtValue.{Envelope}
use Rattle.ct_model.specs.declared.envelope.Envelope.{Envelope as AnyEnvelope}
use Rattle.ct_model.specs.Mapped.{without_value}
use Rattle.ct_model.specs.Wire.{value_of}
use Rattle.ct_model.specs.State.{at_serial, delivered}
use Rattle.ct_model.specs.Received.{received_by}
use Rattle.ct_model.specs.Rehearsal.{Rehearsal, state_of}
use Rattle.ct_abcast.specs.Batches.{joined}
use Rattle.ct_table.specs.Table.{table}
use Rattle.ct_instances.specs.Named.{NamesEnvelopes, NamesDecision}
use Rattle.ct_instances.proofs.Named.{named_without_value, named_at, named_value, named_wire, named_some, named_none}
use Rattle.ct_world.specs.declared.seat.Seat.{Seat}
use Rattle.ct_world.specs.Kept.{IsSeatOf}
use Rattle.ct_world.specs.World.{member_of, of_member}
use Rattle.ct_world.proofs.Steps.Proposing.{delivered-same}

-- envelopes without their values

serial-map : {A B : Type 0} (f : A → B) (xs : List A) (k : ℕ) → at_serial (map f xs) k ≡ option_map f (at_serial xs k)
serial-map f xs zero = refl
serial-map f xs (suc i) = slice_get-map f xs i

pub without_value_at : (values : List Value) (xs : List (AnyEnvelope ℕ)) (es : List Envelope) (k : ℕ) → NamesEnvelopes values xs es →
    option_map without_value (at_serial xs k) ≡ option_map without_value (at_serial es k)
without_value_at values xs es k h = sym (serial-map without_value xs k) ∙ ap (λ zs. at_serial zs k) (named_without_value values xs es h)
    ∙ serial-map without_value es k

-- and the values that they carry

-- the value of an envelope that was sent
abbrev pub carried : List Envelope → ℕ → Option Value
carried es k = option_and_then (λ e. value_of e.wire) (at_serial es k)

module _ (values : List Value) (xs : List (AnyEnvelope ℕ)) (es : List Envelope) (k : ℕ) (names : NamesEnvelopes values xs es)
    (x : AnyEnvelope ℕ) (there : at_serial xs k ≡ Some x) where
  pub carried_named : NamesDecision values (value_of x.wire) (carried es k)
  carried_named =
      let found = named_at values xs es k x names there in
      named_value values x.wire found.0.wire (named_wire values x found.0 found.2)
      ∙ ap (λ (o : Option Envelope). option_map Some (option_and_then (λ z. value_of z.wire) o)) (sym found.1)

  -- it carries none
  pub carried_none : value_of x.wire ≡ None → carried es k ≡ None
  carried_none none = named_none values (carried es k) (subst (λ d. NamesDecision values d (carried es k)) none carried_named)

  -- it carries that of a number, which has one
  pub carried_some : (id : ℕ) (got : Option Value) → value_of x.wire ≡ Some id → got ≡ slice_get values id → got ≡ carried es k
  carried_some id got is e =
      let v = named_some values id (value_of x.wire) (carried es k) carried_named is in
      e ∙ v.2 ∙ sym v.1

-- what a member received and delivered

module _ {w : Rehearsal} {p : ℕ} {seat : Seat} (sits : IsSeatOf w p seat) where
  pub of_this : {A : Type 0} {x y : A} → x ≡ y → Some x ≡ of_member w p y
  of_this e = rw sits.in_group (ap Some e)

  pub received_is : seat.caster.received ≡ received_by (state_of w) p
  unfolding received_by
  received_is = sits.keeps.received

  pub delivered_is : joined seat.caster.batches ≡ delivered (member_of w p)
  delivered_is = delivered-same sits.keeps

  pub table_is : seat.table ≡ table (delivered (member_of w p))
  table_is = sits.keeps.table

-- what stands at a serial
pub serial_at : {A B : Type 0} (f : A → B) (xs : List A) (k i : ℕ) (got : Option B) (list : List B) → 1 ≤ k → i ≡ k - 1 → list ≡ map f xs →
    got ≡ slice_get list i → got ≡ option_map f (at_serial xs k)
serial_at f xs zero i got list low at is e = absurd (omega arith)
serial_at f xs (suc j) i got list low at is e = grind (arith, slice_get-map f xs i)
