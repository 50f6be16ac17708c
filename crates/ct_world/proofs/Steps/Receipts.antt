-- A member that got a wire: what is kept of it afterwards, and whether it passes the wire on.
use Rattle.std.proofs.Common.{◌≡◌, ℕ, Bool, true, false, not, List, [], ◌∷◌, ◌++◌, refl, ap, sym, ◌∙◌, subst, arith, Some, None}
use Rattle.std.specs.Prelude.{◌&&◌, ◌||◌, ◌==◌}
use Rattle.std.specs.List.{list_any}
use Rattle.std.proofs.lemmas.Bool.Decides.{nat_tests}
use Rattle.std.proofs.lemmas.List.Folds.{list_any-append}
use Rattle.ct_names.specs.Membership.{IsIn}
use Rattle.ct_names.specs.Message.{Message}
use Rattle.ct_names.specs.Value.{Value, has}
use Rattle.ct_names.proofs.Lists.{found-list_any, list_any-found}
use Rattle.ct_names.proofs.Values.{in-has, has-in}
use Rattle.ct_model.specs.AtValue.{Wire}
use Rattle.ct_model.specs.declared.wire.Wire.{Wire as AnyWire}
use Rattle.ct_model.specs.declared.wire.Wire.TheVariants.{Data, Dec}
use Rattle.ct_model.specs.Setting.{Setting}
use Rattle.ct_model.specs.State.{State, Member, member}
use Rattle.ct_model.specs.Received.{received, is_decision, message_of}
use Rattle.ct_model.specs.Counted.{NamesSomebody}
use Rattle.ct_model.specs.Knowledge.{KnowsMessages}
use Rattle.ct_model.specs.Mapped.{wire_map}
use Rattle.ct_model.specs.Next.{is_relayed}
use Rattle.ct_model.proofs.Relay.Messages.{received-by}
use Rattle.ct_model.proofs.Consensus.Readings.{received-got, got-received}
use Rattle.ct_model.proofs.Relay.Receipts.{received-push}
use Rattle.ct_model.proofs.Basics.Tests.{and_left, and_right, same_number}
use Rattle.ct_relay.proofs.Receipts.{same-is_id}
use Rattle.ct_relay.specs.Taken.{is_id, is_first, with_id}
use Rattle.ct_relay.specs.declared.relay_id.RelayId.{RelayId}
use Rattle.ct_relay.specs.declared.relay_id.RelayId.TheVariants as id
use Rattle.ct_instances.specs.Named.{value_at, NamesWire}
use Rattle.ct_instances.proofs.Named.{named_data, named_decision_name, named_message}
use Rattle.ct_instances.proofs.Keeping.{keeps-noted}
use Rattle.ct_world.specs.declared.seat.Seat.{Seat}
use Rattle.ct_world.specs.Seats.{has_name, was_got, Keeps, HasReceived, ids_with, received_with, is_passed_on}

-- a message of this origin and number was got exactly where the message itself was received, if no other such was
module _ (got : List Wire) (m : Message) (only : (x : Message) → has (received got) x ≡ true → x.origin ≡ m.origin → x.number ≡ m.number →
    x ≡ m) where
  name_of_one : (w : Wire) → IsIn w got → has_name (id.Data m.origin m.number) w ≡ true → IsIn m (received got)
  name_of_one (Data x) there e =
      let heard : IsIn x (received got) = got-received got x there in
      let same : x ≡ m = only x (has-in (received got) x heard)
      (same_number x.origin m.origin (and_left (x.origin == m.origin) (x.number == m.number) e))
      (same_number x.number m.number (and_right (x.origin == m.origin) (x.number == m.number) e)) in
      subst (λ y. IsIn y (received got)) same heard
  name_of_one _ there e = absurd (cc)

  self_name : has_name {V = Value} (id.Data m.origin m.number) (Data m) ≡ true
  self_name = grind (arith, nat_tests)

  from_name : was_got got (id.Data m.origin m.number) ≡ true → has (received got) m ≡ true
  from_name e =
      let f = found-list_any (has_name (id.Data m.origin m.number)) got e in
      has-in (received got) m (name_of_one f.item f.is_in f.passes)

  to_name : has (received got) m ≡ true → was_got got (id.Data m.origin m.number) ≡ true
  to_name e = list_any-found (has_name (id.Data m.origin m.number)) (Data m) got (received-got got m (in-has (received got) m e)) self_name

  pub got_by_name : was_got got (id.Data m.origin m.number) ≡ has (received got) m
  got_by_name = grind (arith, from_name, to_name)

-- what is known of messages gives that
pub known_name : (s : Setting) (g : State) (p : ℕ) (m : Message) → KnowsMessages s g → has g.submitted m ≡ true →
    was_got (member g p).got (id.Data m.origin m.number) ≡ has (received (member g p).got) m
known_name s g p m k submitted = got_by_name (member g p).got m
    (λ x h origin number. k.unique x m (k.received p x (ap (λ list. has list x) (received-by g p) ∙ h)) submitted origin number)

-- the names taken

de_morgan : (a b : Bool) → not (a || (b || false)) ≡ (not a && not b)
de_morgan a b = grind arith

first-push : (ids : List RelayId) (name other : RelayId) → is_first (ids ++ name ∷ []) other
    ≡ (is_first ids other && not (is_id other name))
first-push ids name other = ap not (list_any-append (is_id other) ids (name ∷ []))
    ∙ de_morgan (list_any (is_id other) ids) (is_id other name)

first-with : (ids : List RelayId) (name other : RelayId) → is_first (with_id ids name) other
    ≡ (is_first ids other && not (is_id other name))
first-with ids name other = grind (arith, first-push ids name other, same-is_id other name)

both_swapped : (a b c d : ℕ) → ((a == b) && (c == d)) ≡ ((b == a) && (d == c))
both_swapped a b c d = grind (arith, nat_tests)

-- other wires have no name
no_name : (other : RelayId) (x : AnyWire ℕ) → ((k r : ℕ) → is_decision k r x ≡ false) → ((o n : ℕ) → has_name (id.Data o n) x ≡ false) →
    has_name other x ≡ false
no_name (id.Data o n) x dec data_ = data_ o n
no_name (id.Dec k r) x dec data_ = dec k r

still : (ids : List RelayId) (x : AnyWire ℕ) (other : RelayId) → has_name other x ≡ false →
    is_first ids other ≡ (is_first ids other && not (has_name other x))
still ids x other e = grind arith

-- the names taken after a receipt
first-received : (ids : List RelayId) (x : AnyWire ℕ) (other : RelayId) →
    is_first (ids_with ids x) other ≡ (is_first ids other && not (has_name other x))
first-received ids (Data m) (id.Data o n) = first-with ids (id.Data m.origin m.number) (id.Data o n)
    ∙ ap (λ b. is_first ids (id.Data o n) && not b) (both_swapped o m.origin n m.number)
first-received ids (Data m) (id.Dec k r) = first-with ids (id.Data m.origin m.number) (id.Dec k r)
first-received ids (Dec k r v) (id.Data o n) = first-with ids (id.Dec k r) (id.Data o n)
first-received ids (Dec k r v) (id.Dec j q) = grind (arith, first-with ids (id.Dec k r) (id.Dec j q), both_swapped j k q r)
first-received ids x other = still ids x other (no_name other x (λ k r. refl) (λ o n. refl))

-- wires of one meaning have the same names
same_name : (values : List Value) (name : RelayId) (x : AnyWire ℕ) (w : Wire) → NamesWire values x w → has_name name x ≡ has_name name w
same_name values (id.Dec k r) x w e = named_decision_name values k r x w e
same_name values (id.Data o n) x w e = sym (name_mapped (value_at values) o n x) ∙ ap (has_name (id.Data o n)) e ∙ name_mapped Some o n w
  where
    name_mapped : {V U : Type 0} (f : V → U) (o n : ℕ) (w : AnyWire V) → has_name (id.Data o n) (wire_map f w) ≡ has_name (id.Data o n) w
    name_mapped f o n (Data m) = refl
    name_mapped f o n _ = refl

-- a wire of a round is passed on by nobody
abbrev of_round : {V : Type 0} → AnyWire V → Bool
of_round (Data m) = false
of_round (Dec k r v) = false
of_round _ = true

of_round-named : (values : List Value) (x : AnyWire ℕ) (w : Wire) → NamesWire values x w → of_round x ≡ of_round w
of_round-named values x w e = sym (of_round-mapped (value_at values) x) ∙ ap of_round e ∙ of_round-mapped Some w
  where
    of_round-mapped : {V U : Type 0} (f : V → U) (w : AnyWire V) → of_round (wire_map f w) ≡ of_round w
    of_round-mapped f (Data m) = refl
    of_round-mapped f _ = refl

kept_back : (s : Setting) (p : ℕ) (got : List Wire) (w : Wire) → true ≡ of_round w → is_relayed s p got w ≡ false
unfolding is_relayed
kept_back s p got (Data m) e = absurd (cc)
kept_back s p got (Dec k r v) e = absurd (cc)
kept_back s p got _ e = refl

-- what is known of a message that the wire carries
abbrev pub IsKnown : List Wire → Wire → Type 0
IsKnown got (Data m) = was_got got (id.Data m.origin m.number) ≡ has (received got) m
IsKnown got _ = Unit {0}

module _ {n p : ℕ} {values : List Value} {m : Member} {seat : Seat} (k : Keeps n values p m seat) where
  received_silent : (w : Wire) → message_of w ≡ None → received (m.got ++ w ∷ []) ≡ received m.got
  received_silent (Data msg) e = absurd (cc)
  received_silent x e = received-push m.got x

  received_push : (x : AnyWire ℕ) (w : Wire) → NamesWire values x w → IsKnown m.got w →
      received_with seat.relay.ids seat.caster.received x ≡ received (m.got ++ w ∷ [])
  received_push (Data msg) w e known = grind (arith, named_data values msg w e, received-push m.got (Data msg))
  received_push x w e known = k.received ∙ sym (received_silent w (sym (named_message values x w e)))

  -- the seat keeps what the member is after it got the wire
  pub receive_keeps : {new : Seat} (x : AnyWire ℕ) (w : Wire) → NamesWire values x w → NamesSomebody w → IsKnown m.got w →
      HasReceived seat x new → Keeps n values p (record m { got = m.got ++ w ∷ [] }) new
  receive_keeps {new} x w e somebody known h = record {
    crashed = h.crashed ∙ k.crashed;
    me = h.me ∙ k.me;
    taken = λ name.
        ap (λ ids. is_first ids name) h.ids ∙ first-received seat.relay.ids x name
        ∙ ap (λ b. b && not (has_name name x)) (k.taken name)
        ∙ ap (λ b. not (was_got m.got name) && not b) (same_name values name x w e)
        ∙ sym (ap not (list_any-append (has_name name) m.got (w ∷ [])) ∙ de_morgan (was_got m.got name) (has_name name w));
    received = h.received ∙ received_push x w e known;
    batches = h.batches ∙ k.batches;
    table = h.table ∙ k.table;
    begun = h.begun ∙ k.begun;
    instances = keeps-noted n values p m x w seat.instances new.instances k.instances e somebody h.ballots h.decisions h.instances;
  }

  -- whether it is passed on
  pub passes : (s : Setting) (x : AnyWire ℕ) (w : Wire) → s.members ≡ n → NamesWire values x w → IsKnown m.got w →
      is_passed_on n seat.relay x ≡ is_relayed s p m.got w
  unfolding is_relayed
  passes s (Data msg) w same e known = grind (arith, named_data values msg w e)
  passes s (Dec j r v) w same e known = other w e
    where
      other : (w : Wire) → NamesWire values (Dec j r v) w → is_passed_on n seat.relay (Dec j r v) ≡ is_relayed s p m.got w
      other (Dec i q u) f = grind arith
      other _ f = absurd (cc)
  passes s x w same e known = sym (kept_back s p m.got w (of_round-named values x w e))
