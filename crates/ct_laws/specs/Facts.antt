-- The facts that are told of a refused step, and when each is true.
use Rattle.std.specs.Prelude.{◌≡◌, ◌⊎◌, ◌<◌, ◌≤◌, ℕ, true, false, List, [], ◌∷◌, length, Option, Some, None, unwrap_or, ⊤}
use Rattle.ct_names.specs.Group.{IsMember, coordinator, everyone}
use Rattle.ct_names.specs.Membership.{IsIn, IsWithoutRepeats}
use Rattle.ct_names.specs.Value.{Value}
use Rattle.ct_names.specs.declared.limit.Limit.{Limit}
use Rattle.ct_names.specs.declared.refusal.Refusal.{Refusal}
use Rattle.ct_names.specs.declared.refusal.Refusal.TheVariants as refusals
use Rattle.ct_model.specs.Actor.{actor}
use Rattle.ct_model.specs.AtValue.{Envelope, Standing, Wire}
use Rattle.ct_model.specs.Mapped.{wire_map}
use Rattle.ct_model.specs.Rehearsal.{Rehearsal, line_of, state_of}
use Rattle.ct_model.specs.State.{at_serial}
use Rattle.ct_model.specs.Waiting.{has_serial}
use Rattle.ct_model.specs.Wire.{value_of}
use Rattle.ct_model.specs.declared.step.Step.{Step}
use Rattle.ct_model.specs.declared.step.Step.TheVariants.{Crash, Lose, Postpone, Receive, Repeat}
use Rattle.ct_model.specs.declared.wire.Wire.TheVariants.{Ack, Est, Nack}
use Rattle.ct_world.specs.World.{member_of}
use Rattle.ct_show.specs.Facts.{Fact, facts_of, returns, takes, texts_of}
use Rattle.ct_show.specs.Facts.Fact.{Acked, AtMost, Began, Carries, CrashedIn, GoesTo, Heard, Holds, Idle, InRound, LeftIn, Members}
use Rattle.ct_show.specs.Facts.Fact.{Registers, Unsent, Waits, WentTo}
use Rattle.ct_judging.specs.Refusing.{crash_of, limit_of}

-- ---- what makes them true

-- p has an instance open, and this is so of its standing there
abbrev pub Stands : Rehearsal → ℕ → (Standing → Type 0) → Type 0
Stands w p P = (c : Standing) × ((member_of w p).current ≡ Some c) × P c

-- p got this wire
abbrev pub HasGot : Rehearsal → ℕ → Wire → Type 0
HasGot w p wire = IsIn wire (member_of w p).got

-- p got these estimates, each from the member before it, for the round; and one of each member of the group from which it got any
pub record AreHeard (w : Rehearsal) (p round : ℕ) (estimates : List (ℕ × (Value × ℕ))) : Type 0 where
  pub got : (q : ℕ) (v : Value) (ts : ℕ) → IsIn (q, (v, ts)) estimates → HasGot w p (Est (member_of w p).last round q v ts)
  pub each : (q : ℕ) (v : Value) (ts : ℕ) → IsMember w.setting.members q → IsIn q everyone →
      HasGot w p (Est (member_of w p).last round q v ts) → (e : Value × ℕ) × IsIn (q, e) estimates

-- so many members are such
pub record AreMany (P : ℕ → Type 0) (count : ℕ) : Type 0 where
  pub set : List ℕ
  pub once : IsWithoutRepeats set
  pub all : (q : ℕ) → IsIn q everyone → P q → IsIn q set
  pub only : (q : ℕ) → IsIn q set → P q
  pub size : length set ≡ count

-- p got a reply to its round
abbrev pub HasReply : Rehearsal → ℕ → ℕ → ℕ → ℕ → Type 0
HasReply w p instance round q = HasGot w p (Ack instance round q) ⊎ HasGot w p (Nack instance round q)

-- the envelope of the serial is such
abbrev pub IsSent : Rehearsal → ℕ → (Envelope → Type 0) → Type 0
IsSent w k P = (e : Envelope) × (at_serial (state_of w).sent k ≡ Some e) × P e

-- of the first steps that of the number takes the envelope of the serial out of a line, and no later one does or puts it back
pub record IsLeaving (steps : List Step) (k count number : ℕ) (step : Step) : Type 0 where
  pub within : number ≤ count
  pub there : at_serial steps number ≡ Some step
  pub taken : takes step k ≡ true
  pub last : (later : ℕ) (other : Step) → number < later → later ≤ count → at_serial steps later ≡ Some other →
      (takes other k ≡ false) × (returns other k ≡ false)

-- it is this step; or none is such
abbrev pub HasLeft : List Step → (k count : ℕ) → Option (ℕ × Step) → Type 0
HasLeft steps k count None = (number : ℕ) (step : Step) → IsLeaving steps k count number step → ⊥
HasLeft steps k count (Some t) = IsLeaving steps k count t.0 t.1

-- p crashed in the step of this number; or never
abbrev pub HasCrashed : List Step → ℕ → Option ℕ → Type 0
HasCrashed steps p None = (number : ℕ) → at_serial steps number ≡ Some (Crash p) → ⊥
HasCrashed steps p (Some number) = at_serial steps number ≡ Some (Crash p)

-- it is true of member p, of the envelope of serial k, and of this refusal
abbrev pub IsTrue : Rehearsal → (p k : ℕ) → Refusal → Fact → Type 0
IsTrue w p k refusal (Began instance) = instance ≡ (member_of w p).last
IsTrue w p k refusal Idle = (member_of w p).current ≡ None
IsTrue w p k refusal (InRound r phase q) =
    Stands w p (λ c. (r ≡ c.round) × (phase ≡ c.phase) × (q ≡ coordinator w.setting.members c.round))
IsTrue w p k refusal (Holds e) = Stands w p (λ c. e ≡ Some (c.estimate, c.ts))
IsTrue w p k refusal (Heard estimates) = Stands w p (λ c. AreHeard w p c.round estimates)
IsTrue w p k refusal (Acked acks replies) =
    Stands w p (λ c. AreMany (λ q. HasGot w p (Ack (member_of w p).last c.round q)) acks
    × AreMany (HasReply w p (member_of w p).last c.round) replies)
IsTrue w p k refusal (Unsent serial sent) =
    (serial ≡ k) × (at_serial (state_of w).sent k ≡ None) × (sent ≡ length (state_of w).sent)
IsTrue w p k refusal (Carries serial wire v) =
    (serial ≡ k) × IsSent w k (λ e. (wire ≡ wire_map (λ _. tt) e.wire) × (v ≡ unwrap_or (value_of e.wire) []))
IsTrue w p k refusal (GoesTo q) = IsSent w k (λ e. q ≡ e.to)
IsTrue w p k refusal (WentTo q) = IsSent w k (λ e. q ≡ e.to)
IsTrue w p k refusal Waits = has_serial k (line_of w p) ≡ true
IsTrue w p k refusal (LeftIn taking) = HasLeft w.steps k (length w.steps) taking
IsTrue w p k refusal (CrashedIn number) = HasCrashed w.steps p number
IsTrue w p k refusal (Members n) = n ≡ w.setting.members
IsTrue w p k refusal Registers = ⊤
IsTrue w p k refusal (AtMost most) = (limit : Limit) × (refusal ≡ refusals.Full limit) × (most ≡ limit_of w limit)

abbrev pub AreTrue : Rehearsal → (p k : ℕ) → Refusal → List Fact → Type 0
AreTrue w p k refusal [] = ⊤
AreTrue w p k refusal (fact ∷ facts) = IsTrue w p k refusal fact × AreTrue w p k refusal facts

-- ---- what is told

-- the serial that a step names, 0 where it names none
abbrev pub serial_in : Step → ℕ
serial_in (Receive p k) = k
serial_in (Postpone p k) = k
serial_in (Lose p k) = k
serial_in (Repeat p k) = k
serial_in step = 0

-- of the line of a step: the members that there are; when its member crashed; which registers there are; the limit; or those of the step
abbrev pub reasons_of : Rehearsal → Step → Refusal → List Fact
reasons_of w step refusals.NoSuchMember = Members w.setting.members ∷ []
reasons_of w step refusals.Crashed = CrashedIn (crash_of w.steps (actor step)) ∷ []
reasons_of w step refusals.BadCommand = Registers ∷ []
reasons_of w step (refusals.Full limit) = AtMost (limit_of w limit) ∷ []
reasons_of w step refusal = facts_of w step refusal

-- the text is that of these facts, and each is true
pub record Tells (w : Rehearsal) (p k : ℕ) (refusal : Refusal) (facts : List Fact) (text : List ℕ) : Type 0 where
  pub is : text ≡ texts_of facts
  pub are : AreTrue w p k refusal facts
