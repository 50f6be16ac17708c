-- What a world keeps, and how it follows from the record.
use Rattle.std.specs.Prelude.{◌≡◌, ℕ, ◌+◌, ◌-◌, ◌<◌, ◌≤◌, true, List, length, map, Option, Some, None, Result, MatchResult}
use Rattle.std.specs.Prelude.{[], ◌∷◌, is_none, nat_lt, slice_index_or, option_map, take, unwrap_or, vec_capacity, vec_len}
use Rattle.ct_names.specs.declared.limit.Limit.TheVariants.{Instances, Cells}
use Rattle.ct_names.specs.declared.limit.TheConstants.{MAX_BOUND, MAX_CELLS, MAX_INSTANCES, MAX_MEMBERS}
use Rattle.ct_names.specs.Group.{is_member}
use Rattle.ct_names.specs.Batch.{Batch}
use Rattle.ct_names.specs.Book.{Contents}
use Rattle.ct_names.specs.Value.{Value}
use Rattle.ct_names.specs.declared.refusal.Refusal.{Refusal}
use Rattle.ct_names.specs.declared.refusal.Refusal.TheVariants.{OutOfMemory, Undecided, Full}
use Rattle.ct_model.specs.declared.step.Step.{Step}
use Rattle.ct_model.specs.declared.step.Step.TheVariants as step
use Rattle.ct_model.specs.Actor.{actor}
use Rattle.ct_model.specs.declared.envelope.Envelope.{Envelope as AnyEnvelope}
use Rattle.ct_model.specs.State.{State, member, submissions, at_serial}
use Rattle.ct_model.specs.Setting.{Setting}
use Rattle.ct_model.specs.Rehearsal.{Rehearsal, state_of, line_of, extended}
use Rattle.ct_model.specs.Cause.{at, cause, presence, first_fault, or_else, order, overflow}
use Rattle.ct_model.specs.Lawful.{IsLawful, IsPresent}
use Rattle.ct_model.specs.Order.{Joins}
use Rattle.ct_model.specs.Knowledge.{KnowsMessages}
use Rattle.ct_network.specs.Network.{NetworkView, line_at, place_of}
use Rattle.ct_abcast.specs.Cast.{undelivered}
use Rattle.ct_instances.specs.Kept.{decision_at, has_room_open}
use Rattle.ct_instances.specs.Named.{value_at, NamesEnvelopes}
use Rattle.ct_world.specs.declared.arrival.Arrival.{Arrival}
use Rattle.ct_world.specs.declared.kept.Kept.{Kept}
use Rattle.ct_world.specs.declared.prepared.Prepared.{Prepared}
use Rattle.ct_world.specs.declared.prepared.Prepared.TheVariants.{Receive, Begin, Close, Postpone, Lose}
use Rattle.ct_world.specs.declared.seat.Seat.{Seat}
use Rattle.ct_world.specs.Closing.{closed_instance, closing_step}
use Rattle.ct_world.specs.Prepared.{step_in}
use Rattle.ct_world.specs.Seats.{Keeps, CanReceive, is_new, new_seat}
use Rattle.ct_world.specs.World.{IsDone}

-- the fields of a world besides its record: the network, the values by number, and the seats
pub record Fields : Type 0 where
  pub network : NetworkView
  pub book : Contents
  pub seats : List Seat

-- the values proposed, in order
abbrev pub values_of : State → List Value
values_of g = map (λ x. x.value) g.proposals

abbrev pub no_seat : Seat
no_seat = new_seat 0 0

-- the seat of member p
abbrev pub seat_of : List Seat → ℕ → Seat
seat_of seats p = slice_index_or seats (p - 1) no_seat

-- what is fixed for a world is within its limits
pub record IsFixed (s : Setting) (cells : ℕ) : Type 0 where
  pub few_members : s.members ≤ MAX_MEMBERS
  pub few_cells : cells ≤ MAX_CELLS
  pub some_bound : 1 ≤ s.bound
  pub few_bound : s.bound ≤ MAX_BOUND

-- the fields are those of the record, which is lawful
pub record IsWorld (w : Rehearsal) (f : Fields) : Type 0 where
  pub lawful : IsLawful w
  pub messages : KnowsMessages w.setting (state_of w)
  pub fixed : IsFixed w.setting w.cells
  pub values : f.book.values ≡ values_of (state_of w)
  pub sent : NamesEnvelopes f.book.values f.network.sent (state_of w).sent
  pub lined : length f.network.lines ≡ w.setting.members
  pub line : (p : ℕ) → is_member w.setting.members p ≡ true → line_at f.network.lines p ≡ line_of w p
  pub seated : length f.seats ≡ w.setting.members
  pub seat : (p : ℕ) → is_member w.setting.members p ≡ true →
      Keeps w.setting.members f.book.values p (member (state_of w) p) (seat_of f.seats p)
  pub submitted : (p : ℕ) → is_member w.setting.members p ≡ true → (seat_of f.seats p).submitted ≡ submissions (state_of w).submitted p

-- the record
abbrev pub rehearsal_of : Kept → Rehearsal
rehearsal_of k = record { setting = record { members = k.group; bound = k.bound }; cells = k.cells; steps = k.steps.items }

-- and the other fields
abbrev pub fields_of : Kept → Fields
fields_of k = record { network = k.network; book = k.book; seats = k.seats.items }

-- what is kept is what the record led to
abbrev pub IsSound : Kept → Type 0
IsSound k = IsWorld (rehearsal_of k) (fields_of k)

-- there is no refusal, or this one
abbrev pub IsVerdict : Option Refusal → Result (Unit {0}) Refusal → Type 0
IsVerdict fault tested = MatchResult tested (λ _. fault ≡ None) (λ refusal. fault ≡ Some refusal)

-- the step is allowed, and the serial waits at this place in the line of p
pub record IsFoundAt (w : Rehearsal) (step : Step) (p k place : ℕ) : Type 0 where
  pub allowed : cause w step ≡ None
  pub placed : place_of k (line_of w p) ≡ Some place

-- the place where it waits, or why the step isn't allowed
abbrev pub IsFound : Kept → Step → ℕ → ℕ → Result ℕ Refusal → Type 0
IsFound kept step p k found = MatchResult found (λ place. IsFoundAt (rehearsal_of kept) step p k place)
    (λ refusal. cause (rehearsal_of kept) step ≡ Some refusal)

-- p may receive this serial, which waits at this place, and it has this wire, which is new to p or not
pub record IsArrival (kept : Kept) (p k : ℕ) (arrival : Arrival) : Type 0 where
  pub found : IsFoundAt (rehearsal_of kept) (step.Receive p k) p k arrival.place
  pub sent : at_serial kept.network.sent k ≡ Some (record { to = arrival.to; wire = arrival.wire })
  pub new : arrival.new ≡ is_new (seat_of kept.seats.items p).relay arrival.wire

-- the serial waits at this place, and p can receive its wire
pub record HasReceiveRoom (w : Rehearsal) (f : Fields) (p k place : ℕ) : Type 0 where
  pub placed : place_of k (line_of w p) ≡ Some place
  pub can : (x : AnyEnvelope ℕ) → at_serial f.network.sent k ≡ Some x → CanReceive (seat_of f.seats p) x.wire

-- p can begin its next instance, with this proposal
pub record HasBeginRoom (w : Rehearsal) (f : Fields) (p : ℕ) (v : Value) : Type 0 where
  pub proposal : v ≡ take w.setting.bound (undelivered (seat_of f.seats p).caster)
  pub book : 0 < f.book.room
  pub entry : has_room_open (seat_of f.seats p).instances ((seat_of f.seats p).instances.last + 1) ≡ true

-- the seat of who takes the step
abbrev pub seat_for : Fields → Step → Seat
seat_for f step = seat_of f.seats (actor step)

-- the step can deliver the value of this number, its member's decision for the instance k, and posts this batch
pub record HasDeliveryRoom (w : Rehearsal) (f : Fields) (step : Step) (k id : ℕ) (batch : Option Batch) : Type 0 where
  pub number : decision_at (seat_for f step).instances k ≡ Some id
  pub fits : (seat_for f step).caster.fits_batch ≡ true
  pub messages : (v : Value) → value_at f.book.values id ≡ Some v → length v ≤ (seat_for f step).caster.room
  pub posting : Joins (order (state_of w)) (order (state_of (extended w step))) batch

-- what was made for this step alone
abbrev pub HasOwnRoom : Rehearsal → Fields → Prepared → Type 0
HasOwnRoom w f (Receive p k place) = HasReceiveRoom w f p k place
HasOwnRoom w f (Begin p v) = HasBeginRoom w f p v
HasOwnRoom w f (Close c p id batch) = HasDeliveryRoom w f (closing_step c p) (closed_instance c (seat_of f.seats p).instances.last) id
    (option_map (λ b. b.value) batch)
HasOwnRoom w f (Postpone p k place) = place_of k (line_of w p) ≡ Some place
HasOwnRoom w f (Lose p k place) = place_of k (line_of w p) ≡ Some place
HasOwnRoom w f _ = Unit {0}

-- the step is allowed, and there is room for it in the record, for what it may send, and what it alone needs
pub record HasRoom (kept : Kept) (room : Prepared) : Type 0 where
  pub allowed : cause (rehearsal_of kept) (step_in room) ≡ None
  pub for_step : vec_len kept.steps < vec_capacity kept.steps
  pub for_sending : kept.network.has_room ≡ true
  pub for_itself : HasOwnRoom (rehearsal_of kept) (fields_of kept) room

-- the step is allowed, its serial waits at the place that was found, if it takes or moves one, and it needs no more
abbrev pub NeedsNoMore : Rehearsal → Prepared → Type 0
NeedsNoMore w (Receive p k place) = ⊥
NeedsNoMore w (Begin p v) = ⊥
NeedsNoMore w (Close c p id batch) = ⊥
NeedsNoMore w (Postpone p k place) = IsFoundAt w (step.Postpone p k) p k place
NeedsNoMore w (Lose p k place) = IsFoundAt w (step.Lose p k) p k place
NeedsNoMore w room = cause w (step_in room) ≡ None

-- room for this step
pub record IsRoomFor (kept : Kept) (step : Step) (room : Prepared) : Type 0 where
  pub named : step_in room ≡ step
  pub ready : HasRoom kept room

-- room was made for the step, or it was refused by its cause or for want of memory; the record stayed, and what follows from it
pub record MakesRoom (old : Kept) (step : Step) (new : Kept) (made : Result Prepared Refusal) : Type 0 where
  pub same : rehearsal_of new ≡ rehearsal_of old
  pub sound : IsSound new
  pub outcome : MatchResult made (λ room. IsRoomFor new step room)
      (λ refusal. refusal ≡ unwrap_or (cause (rehearsal_of old) step) OutOfMemory)

-- the step is done, which posts nothing
pub record Does (old : Kept) (step : Step) (new : Kept) (sent : ℕ) : Type 0 where
  pub done : IsDone (rehearsal_of old) step (rehearsal_of new) sent
  pub still : order (state_of (rehearsal_of new)) ≡ order (state_of (rehearsal_of old))
  pub sound : IsSound new

-- the step was allowed and is done, which posts nothing
pub record IsDoneAtOnce (old : Kept) (step : Step) (new : Kept) (sent : ℕ) : Type 0 where
  pub allowed : cause (rehearsal_of old) step ≡ None
  pub does : Does old step new sent

-- the step was refused by its cause or for want of memory; the record stayed, and what follows from it
pub record IsRefusedAtOnce (old : Kept) (step : Step) (new : Kept) (refusal : Refusal) : Type 0 where
  pub same : rehearsal_of new ≡ rehearsal_of old
  pub sound : IsSound new
  pub named : refusal ≡ unwrap_or (cause (rehearsal_of old) step) OutOfMemory

-- one of the two
abbrev pub DoesAtOnce : Kept → Step → Kept → Result ℕ Refusal → Type 0
DoesAtOnce old step new made = MatchResult made (IsDoneAtOnce old step new) (IsRefusedAtOnce old step new)

-- what is kept of a world, and the room for the prepared step
pub record IsReady (kept : Kept) (prepared : Option Prepared) : Type 0 where
  pub sound : IsSound kept
  pub ready : (room : Prepared) → prepared ≡ Some room → HasRoom kept room

-- this is the seat of a member of the group
pub record IsSeatOf (w : Rehearsal) (p : ℕ) (seat : Seat) : Type 0 where
  pub in_group : is_member w.setting.members p ≡ true
  pub keeps : Keeps w.setting.members (values_of (state_of w)) p (member (state_of w) p) seat
  pub submitted : seat.submitted ≡ submissions (state_of w).submitted p

-- the member may take steps, and this is its seat
pub record IsActor (w : Rehearsal) (p : ℕ) (seat : Seat) : Type 0 where
  pub lawful : IsLawful w
  pub messages : KnowsMessages w.setting (state_of w)
  pub fixed : IsFixed w.setting w.cells
  pub present : IsPresent w p
  pub sits : IsSeatOf w p seat

-- the refusal keeps the member from any step
abbrev pub IsAbsent : Rehearsal → ℕ → Refusal → Type 0
IsAbsent w p refusal = first_fault (presence w.setting (state_of w) p) ≡ Some refusal

-- why the decision of an instance is not delivered at the seat: it is not there, or a limit would be passed
abbrev pub delivery_cause : Rehearsal → Seat → ℕ → Option Refusal
delivery_cause w seat k = or_else (first_fault
    (at Undecided (is_none (decision_at seat.instances k))
    ∷ at (Full Instances) (nat_lt MAX_INSTANCES k)
    ∷ at (Full Cells) (nat_lt w.cells (length seat.caster.batches + 1))
    ∷ []))
    (overflow w 0)
