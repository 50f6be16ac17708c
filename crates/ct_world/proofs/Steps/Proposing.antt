-- Begin: why it is refused, by the seat, and the seat after it.
use Rattle.std.proofs.Common.{◌≡◌, ℕ, zero, suc, take, ◌+◌, ◌-◌, ◌≤◌, ◌<◌, Bool, true, false, not, List, [], ◌∷◌, ◌++◌, length, set, refl}
use Rattle.std.proofs.Common.{ap, sym, ◌∙◌, arith, Option, Some, None, option_map, Bor}
use Rattle.std.specs.Prelude.{option_copied, nat_lt, is_some, map}
use Rattle.std.proofs.lemmas.Bool.Decides.{nat_tests}
use Rattle.ct_names.specs.declared.limit.TheConstants.{MAX_INSTANCES}
use Rattle.ct_names.specs.declared.refusal.Refusal.TheVariants.{Busy, Nothing, Full}
use Rattle.ct_names.specs.declared.limit.Limit.TheVariants.{Instances}
use Rattle.ct_names.specs.Value.{Value}
use Rattle.ct_model.specs.declared.step.Step.TheVariants.{Begin}
use Rattle.ct_model.specs.State.{Member, member, joined as model_joined}
use Rattle.ct_names.specs.Batch.{Batch}
use Rattle.ct_model.specs.Next.{begin, undelivered, proposed, is_empty}
use Rattle.ct_model.specs.Setting.{Setting}
use Rattle.ct_model.specs.Rehearsal.{Rehearsal, state_of, extended}
use Rattle.ct_model.specs.Cause.{at, first_fault, cause, overflow}
use Rattle.ct_model.proofs.Record.Causes.{own_tests}
use Rattle.ct_model.proofs.Steps.Begin.{IsBeginStep, begin_taken, cause-begin}
use Rattle.ct_model.proofs.Record.Limits.{own_tests-is, cause-tested}
use Rattle.ct_abcast.specs.Batches.{joined}
use Rattle.ct_abcast.specs.Cast.{undelivered as cast_undelivered}
use Rattle.ct_rounds.specs.Part.{Part}
use Rattle.ct_instances.specs.Steps.{opened}
use Rattle.ct_instances.proofs.Keeping.{keeps-opened}
use Rattle.ct_instances.proofs.Named.{standing_is_some}
use Rattle.ct_world.specs.declared.seat.Seat.{Seat}
use Rattle.ct_world.specs.Seats.{Keeps}
use Rattle.ct_world.specs.Kept.{Fields, IsWorld, IsActor, HasBeginRoom, seat_of}
use Rattle.ct_instances.specs.Kept.{has_room_open}
use Rattle.ct_world.proofs.Steps.Doing.{IsAllowed}
use Rattle.ct_world.proofs.Basics.Members.{seat-same}
use Rattle.ct_world.proofs.Steps.Proposals.{few-values}
use Rattle.ct_world.proofs.Basics.Posts.{left-plain}
use Rattle.ct_world.proofs.Steps.Refines.{refined-quiet, seat-kept}

some-mapped : {A B : Type 0} (f : A → B) (o : Option A) → is_some (option_map f o) ≡ is_some o
some-mapped f o = grind arith

-- what a call that gives a reference found
pub copied-some : {A : Type 0} (r : Option (Bor A)) (o : Option A) → option_copied r ≡ o → is_some o ≡ is_some r
copied-some r o e = ap is_some (sym e) ∙ some-mapped (λ x. x.now) r

joined-mapped : (batches : List Batch) → joined (map (λ b. b.messages) batches) ≡ model_joined batches
joined-mapped [] = refl
joined-mapped (b ∷ batches) = ap (λ list. b.messages ++ list) (joined-mapped batches)

-- an instance is open at the seat where it is in the state
pub open-same : {n p : ℕ} {values : List Value} {m : Member} {seat : Seat} → Keeps n values p m seat →
    is_some seat.instances.part ≡ is_some m.current
open-same {n} {p} {values} {m} {seat} k = sym (some-mapped (λ (c : Part). c.standing) seat.instances.part)
    ∙ standing_is_some values (option_map (λ (c : Part). c.standing) seat.instances.part) m.current k.instances.standing

-- the messages that the seat delivered
pub delivered-same : {n p : ℕ} {values : List Value} {m : Member} {seat : Seat} → Keeps n values p m seat →
    joined seat.caster.batches ≡ model_joined m.batches
delivered-same {m = m} k = ap joined k.batches ∙ joined-mapped m.batches

-- what was received and not delivered is the same in both
undelivered-same : {n p : ℕ} {values : List Value} {m : Member} {seat : Seat} → Keeps n values p m seat →
    cast_undelivered seat.caster ≡ undelivered m
unfolding undelivered
undelivered-same {m = m} {seat = seat} k = grind (arith, delivered-same k)

proposed-same : (s : Setting) {n p : ℕ} {values : List Value} {m : Member} {seat : Seat} → Keeps n values p m seat →
    take s.bound (cast_undelivered seat.caster) ≡ proposed s m
unfolding proposed
proposed-same s k = ap (take s.bound) (undelivered-same k)

empty-take : {A : Type 0} (bound : ℕ) (xs : List A) → 1 ≤ bound → is_empty (take bound xs) ≡ is_empty xs
empty-take zero xs some = absurd (omega arith)
empty-take (suc bound) [] some = refl
empty-take (suc bound) (x ∷ xs) some = refl

empty-length : {A : Type 0} (xs : List A) → is_empty xs ≡ not (nat_lt 0 (length xs))
empty-length [] = refl
empty-length (x ∷ xs) = let some : nat_lt 0 (length (x ∷ xs)) ≡ true = grind (arith, nat_tests) in ap not (sym some)

module _ {w : Rehearsal} {p : ℕ} {seat : Seat} (a : IsActor w p seat) where
  tests-by : (b c : Bool) → is_some (member (state_of w) p).current ≡ b → is_empty (proposed w.setting (member (state_of w) p)) ≡ c →
      first_fault (own_tests w (Begin p)) ≡ first_fault (at Busy b ∷ at Nothing c ∷ [])
  tests-by b c e f = grind (arith, own_tests-is w (Begin p))

  open_is : is_some seat.instances.part ≡ is_some (member (state_of w) p).current
  open_is = open-same a.sits.keeps

  empty_is : is_empty (proposed w.setting (member (state_of w) p)) ≡ not (nat_lt 0 (length (cast_undelivered seat.caster)))
  empty_is = sym (ap is_empty (proposed-same w.setting a.sits.keeps))
      ∙ empty-take w.setting.bound (cast_undelivered seat.caster) a.fixed.some_bound ∙ empty-length (cast_undelivered seat.caster)

  pub begin_busy : is_some seat.instances.part ≡ true → cause w (Begin p) ≡ Some Busy
  begin_busy e = cause-tested w (Begin p) Busy a.present
      (tests-by true (is_empty (proposed w.setting (member (state_of w) p))) (sym open_is ∙ e)
      refl)

  pub begin_nothing : is_some seat.instances.part ≡ false → nat_lt 0 (length (cast_undelivered seat.caster)) ≡ false →
      cause w (Begin p) ≡ Some Nothing
  begin_nothing e f = cause-tested w (Begin p) Nothing a.present (tests-by false true (sym open_is ∙ e) (empty_is ∙ ap not f))

  tested : is_some seat.instances.part ≡ false → nat_lt 0 (length (cast_undelivered seat.caster)) ≡ true →
      first_fault (own_tests w (Begin p)) ≡ None
  tested e f = tests-by false false (sym open_is ∙ e) (empty_is ∙ ap not f)

  pub begin_full : is_some seat.instances.part ≡ false → nat_lt 0 (length (cast_undelivered seat.caster)) ≡ true →
      MAX_INSTANCES ≤ seat.instances.last → cause w (Begin p) ≡ Some (Full Instances)
  begin_full e f many = grind (arith, cause-begin w p a.lawful a.present (tested e f), tested e f)

  pub begin_free : is_some seat.instances.part ≡ false → nat_lt 0 (length (cast_undelivered seat.caster)) ≡ true →
      seat.instances.last < MAX_INSTANCES → cause w (Begin p) ≡ overflow w 0
  begin_free e f few =
      grind (arith, nat_tests, a.sits.keeps.instances.last, cause-begin w p a.lawful a.present (tested e f))

-- the seat after its next instance was opened with a value
abbrev pub begun : Seat → ℕ → Seat
begun seat id = record seat { instances = opened seat.instances id; caster = record seat.caster { instance = seat.caster.instance + 1 } }

begun_keeps : (s : Setting) {n p : ℕ} {values : List Value} {m : Member} {seat : Seat} → Keeps n values p m seat →
    Keeps n (values ++ proposed s m ∷ []) p (begin s p m).member (begun seat (length values))
begun_keeps s {n} {p} {values} {m} {seat} k = seat-kept k k.crashed refl refl refl refl refl refl (ap (λ i. i + 1) k.begun)
    (keeps-opened n values p m seat.instances (proposed s m) k.instances)

pub nothing-some : {A : Type 0} (o : Option A) → is_some o ≡ false → o ≡ None
nothing-some o e = grind arith

module _ {w : Rehearsal} {p : ℕ} {f : Fields} (may : IsAllowed w (Begin p) f) where
  step : IsBeginStep w p
  step = begin_taken w p may.world.lawful may.allowed

  -- a Begin opens the instance and writes the value into the book
  pub begin_steps : {new : Fields} → new.seats ≡ set f.seats (p - 1) (begun (seat_of f.seats p) (length f.book.values)) →
      new.network.sent ≡ f.network.sent → new.network.lines ≡ f.network.lines →
      new.book.values ≡ f.book.values ++ take w.setting.bound (cast_undelivered (seat_of f.seats p).caster) ∷ [] → IsWorld
      (extended w (Begin p)) new
  begin_steps {new} seats sent lines values =
      let grown : new.book.values ≡ f.book.values ++ proposed w.setting (member (state_of w) p) ∷ [] =
      values ∙ ap (λ v. f.book.values ++ v ∷ []) (proposed-same w.setting may.keeps) in
      refined-quiet may.world step.taken (left-plain may.world.lined refl sent lines) (record {
        seat = begun (seat_of f.seats p) (length f.book.values);
        named = refl;
        values = grown;
        seats = seats;
        keeps = rw grown (begun_keeps w.setting may.keeps);
        submitted = may.submitted;
      })

  -- no instance is open at the seat, and fewer than 1,024 began

  pub begin_idle : (seat_of f.seats p).instances.part ≡ None
  begin_idle = nothing-some (seat_of f.seats p).instances.part (open-same may.keeps ∙ ap is_some step.idle)

  pub begin_few : (seat_of f.seats p).instances.last < MAX_INSTANCES
  begin_few = omega (arith, step.few, may.keeps.instances.last)

  pub begin_few_begun : (seat_of f.seats p).caster.instance < MAX_INSTANCES
  begin_few_begun = omega (arith, step.few, may.keeps.begun)

-- the room that was made for a Begin
pub begin_room : (w : Rehearsal) (seats : List Seat) (p : ℕ) (seat : Seat) {v : Value} {new : Fields} → p - 1 < length seats
    → new.seats ≡ set seats (p - 1) seat → v ≡ take w.setting.bound (cast_undelivered seat.caster) → has_room_open seat.instances
    (seat.instances.last + 1) ≡ true → 0 < new.book.room → HasBeginRoom w new p v
begin_room w seats p seat {v} {new} within set_is value entry room =
    let here : seat_of new.seats p ≡ seat = ap (λ list. seat_of list p) set_is ∙ seat-same seats p seat within in
    record {
      proposal = value ∙ ap (λ (s : Seat). take w.setting.bound (cast_undelivered s.caster)) (sym here);
      book = room;
      entry = rw here entry;
    }

pub begin_number : {w : Rehearsal} {f : Fields} → IsWorld w f → length f.book.values < 4294967295
begin_number {w} world = grind (arith, few-values w world.lawful)
