-- What Deliver and Follow share: why the decision of an instance is not delivered, what has to be there for it, and the seat
-- after it.
use Rattle.std.proofs.Common.{◌≡◌, ℕ, ◌+◌, ◌-◌, ◌≤◌, ◌<◌, Bool, true, false, List, [], ◌∷◌, ◌++◌, length, set, refl, ap, sym, ◌∙◌, subst}
use Rattle.std.proofs.Common.{arith, append-nil, get_or, slice_get, Option, Some, None, Bor}
use Rattle.std.specs.Prelude.{nat_lt, is_some, is_none, if◌then◌else◌, option_and_then, option_copied, option_map, IfSome}
use Rattle.std.specs.declared.alloc.Global.{Global}
use Rattle.std.specs.declared.boxed.Box.{Box}
use Rattle.std.proofs.lemmas.Bool.Decides.{nat_tests}
use Rattle.std.proofs.lemmas.List.{length-map, map-append}
use Rattle.std.proofs.lemmas.List.Concat.{flat_map-append}
use Rattle.std.proofs.lemmas.List.Sums.{fold-append}
use Rattle.ct_names.specs.declared.limit.Limit.TheVariants.{Instances, Cells}
use Rattle.ct_names.specs.declared.limit.TheConstants.{MAX_INSTANCES}
use Rattle.ct_names.specs.declared.refusal.Refusal.TheVariants.{Undecided, Full}
use Rattle.ct_names.specs.Batch.{Batch}
use Rattle.ct_names.specs.Value.{Value, minus, ordered}
use Rattle.ct_model.specs.declared.step.Step.{Step}
use Rattle.ct_model.specs.Actor.{actor}
use Rattle.ct_model.specs.AtValue.{Standing}
use Rattle.ct_model.specs.Cause.{Test, at, first_fault, or_else, cause, overflow, order}
use Rattle.ct_model.specs.Lawful.{IsLawful, IsPresent}
use Rattle.ct_model.specs.Next.{close, batch_of}
use Rattle.ct_model.specs.Order.{Joins}
use Rattle.ct_model.specs.Received.{decided}
use Rattle.ct_model.specs.Rehearsal.{Rehearsal, state_of, extended}
use Rattle.ct_model.specs.State.{Member, member, joined}
use Rattle.ct_model.specs.Waiting.{line_change}
use Rattle.ct_model.specs.Waiting.LineChange.{Leaves}
use Rattle.ct_model.proofs.Basics.Options.{some-same}
use Rattle.ct_model.proofs.Delivery.Order.{order-ahead, order-behind}
use Rattle.ct_model.proofs.Record.Causes.{own_tests}
use Rattle.ct_model.proofs.Record.Limits.{cause-tested}
use Rattle.ct_model.proofs.Record.Taken.{IsTaken, lawful-step}
use Rattle.ct_abcast.specs.Cast.{batch_of as cast_batch}
use Rattle.ct_board.specs.Board.{Posted}
use Rattle.ct_instances.specs.Keeping.{KeepsInstances}
use Rattle.ct_instances.specs.Kept.{Kept as KeptInstances, decision_at}
use Rattle.ct_instances.specs.Named.{value_at}
use Rattle.ct_instances.proofs.Named.{named_some, named_is_some}
use Rattle.ct_table.specs.Table.{zeros, applied, applied_all, table}
use Rattle.ct_world.specs.declared.kept.Kept.{Kept}
use Rattle.ct_world.specs.declared.seat.Seat.{Seat}
use Rattle.ct_world.specs.Kept.{Fields, IsWorld, IsActor, HasDeliveryRoom, delivery_cause, fields_of, rehearsal_of, seat_for, seat_of}
use Rattle.ct_world.specs.Kept.{values_of}
use Rattle.ct_world.specs.Posting.{HasPosted, IsSet}
use Rattle.ct_world.specs.Seats.{Keeps, Content, IsDeliverable, content, with_batch, batch_to_post}
use Rattle.ct_world.proofs.Steps.Doing.{IsAllowed, IsAllowedIn, seat_in}
use Rattle.ct_world.proofs.Basics.Members.{seat-same}
use Rattle.ct_world.proofs.Delivery.Posting.{has_posted, posting_low}
use Rattle.ct_world.proofs.Basics.Posts.{left-plain}
use Rattle.ct_world.proofs.Steps.Proposing.{copied-some, delivered-same, open-same}
use Rattle.ct_world.proofs.Steps.Refines.{refined-quiet}

-- why a decision is not delivered, by the seat

pub standing-there : (o : Option Standing) → is_some o ≡ true → (c : Standing) × (o ≡ Some c)
standing-there None e = absurd (cc)
standing-there (Some c) e = (c, refl)

module _ {w : Rehearsal} {p : ℕ} {seat : Seat} (a : IsActor w p seat) where
  pub open_is : is_some seat.instances.part ≡ is_some (member (state_of w) p).current
  open_is = open-same a.sits.keeps

  undecided_is : (k : ℕ) → is_none (decided (member (state_of w) p).got k) ≡ is_none (decision_at seat.instances k)
  undecided_is k = grind (
    arith,
    named_is_some (values_of (state_of w)) (decision_at seat.instances k) (decided (member (state_of w) p).got k)
        (a.sits.keeps.instances.decisions k),
  )

  batches_are : length seat.caster.batches ≡ length (member (state_of w) p).batches
  batches_are = ap length a.sits.keeps.batches ∙ length-map (member (state_of w) p).batches (λ (b : Batch). b.messages)

  -- the limits of a step that closes the instance k, where so many batches were delivered
  abbrev limits_at : ℕ → ℕ → List Test
  limits_at k count = at (Full Instances) (nat_lt MAX_INSTANCES k) ∷ at (Full Cells) (nat_lt w.cells (count + 1)) ∷ []

  -- where only the test of the decision is left, and these limits
  pub cause-delivery : (step : Step) (k : ℕ) → IsPresent w (actor step)
      → first_fault (own_tests w step) ≡ first_fault (at Undecided (is_none (decided (member (state_of w) p).got k)) ∷ [])
      → (first_fault (own_tests w step) ≡ None → cause w step
      ≡ or_else (first_fault (limits_at k (length (member (state_of w) p).batches))) (overflow w 0))
      → cause w step ≡ delivery_cause w seat k
  cause-delivery step k present own limited = grind (arith, undecided_is k, batches_are, cause-tested w step Undecided present)

-- the seat after a batch

batch-same : {n p : ℕ} {values : List Value} {m : Member} {seat : Seat} (v : Value) → Keeps n values p m seat →
    cast_batch seat.caster v ≡ batch_of m v
unfolding batch_of
batch-same v k = ap (λ list. ordered (minus v list)) (delivered-same k)

-- the table that one batch more makes
table-more : (batches : List Batch) (b : Batch) → table (joined (batches ++ b ∷ [])) ≡ applied_all (table (joined batches)) b.messages
table-more batches b =
    ap table (flat_map-append (λ (x : Batch). x.messages) batches (b ∷ []) ∙ ap (λ list. joined batches ++ list) (append-nil b.messages))
    ∙ fold-append (λ so_far m. applied so_far m.command) zeros (joined batches) b.messages

-- a seat that delivered the value for the instance k and has these instances, where k is the last
pub closed_keeps : {n p : ℕ} {values : List Value} {m : Member} {seat : Seat} (k : ℕ) (v : Value) (last : ℕ) (instances : KeptInstances)
    → Keeps n values p m seat → last ≡ k → KeepsInstances n values p (close m k v).member instances
    → Keeps n values p (close m k v).member
    (record (with_batch seat v) { caster = record (with_batch seat v).caster { instance = last }; instances = instances })
closed_keeps {n} {p} {values} {m} {seat} k v last instances h is closed = record {
  crashed = h.crashed;
  me = h.me;
  taken = h.taken;
  received = h.received;
  batches = grind (arith, same, h.batches, map-append (λ (b : Batch). b.messages) m.batches (added ∷ []));
  table = grind (arith, same, h.table, table-more m.batches added);
  begun = is;
  instances = closed;
}
  where
    added : Batch
    added = record { instance = k; messages = batch_of m v }

    same : cast_batch seat.caster v ≡ batch_of m v
    same = batch-same v h

-- a step that closes the instance k with its member's decision
pub record IsClosing (w : Rehearsal) (step : Step) (k : ℕ) : Type 0 where
  pub value : Value
  pub decision : decided (member (state_of w) (actor step)).got k ≡ Some value
  pub taken : IsTaken w step (close (member (state_of w) (actor step)) k value)

module _ {w : Rehearsal} {step : Step} {f : Fields} {k : ℕ} (may : IsAllowed w step f) (due : IsClosing w step k) where
  pub closed_lawful : IsLawful (extended w step)
  closed_lawful = lawful-step w step (close (member (state_of w) (actor step)) k due.value) may.world.lawful due.taken

  -- the seat has the decision, and the book its value

  pub has_decision : is_some (decision_at (seat_for f step).instances k) ≡ true
  has_decision = named_is_some f.book.values (decision_at (seat_for f step).instances k)
      (decided (member (state_of w) (actor step)).got k) (may.keeps.instances.decisions k) ∙ ap is_some due.decision

  pub value_is : (id : ℕ) → decision_at (seat_for f step).instances k ≡ Some id → value_at f.book.values id ≡ Some due.value
  value_is id number =
      let v = named_some f.book.values id (decision_at (seat_for f step).instances k)
      (decided (member (state_of w) (actor step)).got k) (may.keeps.instances.decisions k) number in
      v.2 ∙ sym v.1 ∙ due.decision

  pub has_value : (seat : Seat) (i : ℕ) → seat ≡ seat_for f step → i ≡ k
      → is_some (option_and_then (value_at f.book.values) (decision_at seat.instances i)) ≡ true
  has_value seat i here is = grind (arith, has_decision, value_is)

  -- what the step posts: by how many batches its seat has
  joins_posting : {posted : ℕ} {posting : Option Batch} → posted ≡ length (order (state_of w)) →
      posting ≡ batch_to_post (seat_for f step).caster k due.value posted →
      Joins (order (state_of w)) (order (state_of (extended w step))) posting
  joins_posting {posted} count is =
      subst (λ o. Joins (order (state_of w)) (order (state_of (extended w step))) o) (sym is)
      (go (nat_lt (length (seat_for f step).caster.batches) posted) refl)
    where
      there : length (seat_for f step).caster.batches ≡ length (member (state_of w) (actor step)).batches
      there = ap length may.keeps.batches ∙ length-map (member (state_of w) (actor step)).batches (λ (b : Batch). b.messages)

      delivers : cast_batch (seat_for f step).caster due.value ≡ batch_of (member (state_of w) (actor step)) due.value
      delivers = batch-same due.value may.keeps

      go : (b : Bool) → nat_lt (length (seat_for f step).caster.batches) posted ≡ b
          → Joins (order (state_of w)) (order (state_of (extended w step))) (if b then None
          else Some (record { instance = k; messages = cast_batch (seat_for f step).caster due.value }))
      go true e = order-behind w step k due.value may.world.lawful due.taken
          (let few : length (seat_for f step).caster.batches < posted = grind (arith, nat_tests) in omega (arith, there))
      go false e =
          order-ahead w step k due.value may.world.lawful due.taken
          (let many : posted ≤ length (seat_for f step).caster.batches = grind (arith, nat_tests) in omega (arith, there))
          ∙ (λ j. order (state_of w) ++ record { instance = k; messages = sym delivers j } ∷ [])

  -- the room that was made for it, where k is of the last instance
  pub delivery_room : {new : Fields} {i id posted : ℕ} {posting : Option Batch} (of : ℕ → ℕ) → k ≡ of (seat_for f step).instances.last
      → (seat : Seat) → content seat ≡ content (seat_for f step) → new.seats ≡ set f.seats (actor step - 1) seat
      → new.book.values ≡ f.book.values → posted ≡ length (order (state_of w)) → i ≡ k
      → IsDeliverable f.book.values seat i posted id posting
      → HasDeliveryRoom w new step (of (seat_for new step).instances.last) id posting
  delivery_room {new} {i} {id} {posted} {posting} of of_last seat kept set_is values count instance found =
      let ready : IsDeliverable f.book.values seat k posted id posting =
      subst (λ j. IsDeliverable f.book.values seat j posted id posting) instance found in
      let there : seat_for new step ≡ seat =
      ap (λ list. seat_of list (actor step)) set_is ∙ seat-same f.seats (actor step) seat may.within in
      let number = ap (λ (c : Content). c.decisions k) (sym kept) ∙ ready.decided in
      subst (λ j. HasDeliveryRoom w new step j id posting)
      (of_last ∙ ap of (sym (ap (λ (s : Seat). s.instances.last) there ∙ ap (λ (c : Content). c.seat.instances.last) kept))) (record {
        number = rw there ready.decided;
        fits = rw there ready.fits;
        messages = rw there (λ u has. ready.messages u (ap (λ list. value_at list id) (sym values) ∙ has));
        posting = joins_posting count (ready.posting due.value (value_is id number)
            ∙ ap (λ (c : Content). batch_to_post c.seat.caster k due.value posted) kept);
      })

-- a step that closes the instance k with the value of this number, with the room that was made for it, and what it makes of the seat
pub record IsDelivery (kept : Kept) (step : Step) (k id : ℕ) (posting : Option Batch) (after : Seat → Value → Seat) : Type 0 where
  pub may : IsAllowedIn kept step
  pub due : IsClosing (rehearsal_of kept) step k
  pub room : HasDeliveryRoom (rehearsal_of kept) (fields_of kept) step k id posting
  pub quiet : line_change step ≡ Leaves
  pub submitted : (after (seat_for (fields_of kept) step) due.value).submitted ≡ (seat_for (fields_of kept) step).submitted
  pub keeps : (new : Seat) → content new ≡ content (after (seat_for (fields_of kept) step) due.value) → Keeps kept.group
      kept.book.values (actor step) (close (member (state_of (rehearsal_of kept)) (actor step)) k due.value).member new

module _ {kept : Kept} {step : Step} {k id : ℕ} {posting : Option Batch} {after : Seat → Value → Seat}
    (d : IsDelivery kept step k id posting after) where
  -- the fields after it
  pub delivery_steps : {s : Seat} {v : Value} {f : Fields} (new : Seat) → s ≡ get_or kept.seats.items (actor step - 1) s
      → v ≡ d.due.value → content new ≡ content (after s v) → f.seats ≡ set kept.seats.items (actor step - 1) new
      → f.network.sent ≡ kept.network.sent → f.network.lines ≡ kept.network.lines → f.book.values ≡ kept.book.values
      → IsWorld (extended (rehearsal_of kept) step) f
  delivery_steps {s} new here value is seats sent lines values =
      let same = is ∙ ap content (ap (after s) value ∙ ap (λ x. after x d.due.value) (seat_in kept d.may here)) in
      refined-quiet d.may.world d.due.taken (left-plain d.may.world.lined d.quiet sent lines) (record {
        seat = new;
        named = refl;
        values = values ∙ sym (append-nil kept.book.values);
        seats = seats;
        keeps = rw values (d.keeps new same);
        submitted = ap (λ (c : Content). c.seat.submitted) same ∙ d.submitted ∙ d.may.submitted;
      })

  -- the batch that it posts has a place
  pub batch_low : (o : Option (Box Batch Global)) → option_map (λ b. b.value) o ≡ posting → IfSome o (λ b. 1 ≤ b.value.instance)
  batch_low o is = posting_low (rehearsal_of kept) step (λ b. b.value) o (closed_lawful d.may d.due) (rw is d.room.posting)

  -- at the seat that an index gives
  pub seat_fits : {s : Seat} → s ≡ get_or kept.seats.items (actor step - 1) s → s.caster.fits_batch ≡ true
  seat_fits here = ap (λ (s : Seat). s.caster.fits_batch) (seat_in kept d.may here) ∙ d.room.fits

  -- the value of its number
  numbered_value : value_at kept.book.values id ≡ Some d.due.value
  numbered_value = value_is d.may d.due id d.room.number

  module _ (r : Option (Bor Value)) (got : option_copied r ≡ slice_get kept.book.values id) where
    pub value_there : is_some r ≡ true
    value_there = sym (copied-some r (slice_get kept.book.values id) got) ∙ ap is_some numbered_value

    module _ {v : Bor Value} (there : r ≡ Some v) where
      pub value_same : v.now ≡ d.due.value
      value_same = some-same v.now d.due.value (sym (ap option_copied there) ∙ got ∙ numbered_value)

      pub room_there : {s : Seat} → s ≡ get_or kept.seats.items (actor step - 1) s → length v.now ≤ s.caster.room
      room_there here = subst (λ (s : Seat). length v.now ≤ s.caster.room) (sym (seat_in kept d.may here))
          (d.room.messages v.now (sym got ∙ ap option_copied there))

-- what such a step posts
pub posted_in : {kept : Kept} {step : Step} {k id : ℕ} {after : Seat → Value → Seat} (cells : List ℕ) {posting : Option Batch}
    (receipt : Option Posted) {new : Rehearsal} → IsDelivery kept step k id posting after → new ≡ extended (rehearsal_of kept) step
    → IsSet cells posting receipt → HasPosted cells (rehearsal_of kept) new receipt
posted_in {kept = kept} {step = step} cells {posting = posting} receipt d extends set =
    subst (λ w. HasPosted cells (rehearsal_of kept) w receipt) (sym extends)
    (has_posted cells (rehearsal_of kept) step posting receipt (closed_lawful d.may d.due) d.room.posting set)
