-- Why a step is refused: the first of its tests that fires.
use Rattle.std.specs.Prelude.{ℕ, ◌+◌, not, nat_lt, if◌then◌else◌, List, [], ◌∷◌, Option, Some, None, is_some, is_none, option_and_then}
use Rattle.std.specs.Prelude.{length, map}
use Rattle.std.specs.Option.{option_map_or}
use Rattle.ct_names.specs.declared.limit.TheConstants.{MAX_SUBMISSIONS, MAX_INSTANCES, MAX_ROUNDS, MAX_ENVELOPES, MAX_STEPS}
use Rattle.ct_names.specs.declared.limit.Limit.TheVariants.{Submissions, Instances, Rounds, Envelopes, Cells, Steps}
use Rattle.ct_names.specs.declared.refusal.Refusal.{Refusal}
use Rattle.ct_names.specs.declared.refusal.Refusal.TheVariants.{NoSuchMember, Crashed, NotWaiting, Busy, Nothing, Idle, Undecided}
use Rattle.ct_names.specs.declared.refusal.Refusal.TheVariants.{BadCommand, NotSent, StillWaiting, Full}
use Rattle.ct_names.specs.Command.{is_good}
use Rattle.ct_names.specs.Group.{is_member}
use Rattle.ct_model.specs.declared.moves.Move.{Move}
use Rattle.ct_model.specs.declared.moves.Move.TheVariants as moves
use Rattle.ct_model.specs.declared.step.Step.{Step}
use Rattle.ct_model.specs.declared.step.Step.TheVariants.{Submit, Receive, Begin, Enter, Choose, Adopt, Suspect, Conclude, Deliver}
use Rattle.ct_model.specs.declared.step.Step.TheVariants.{Follow, Crash, Postpone, Lose, Repeat}
use Rattle.ct_model.specs.Setting.{Setting}
use Rattle.ct_model.specs.State.{State, Member, member, is_crashed, submissions}
use Rattle.ct_names.specs.Batch.{Batch}
use Rattle.ct_model.specs.Actor.{actor}
use Rattle.ct_model.specs.AtValue.{Standing}
use Rattle.ct_model.specs.Received.{decided}
use Rattle.ct_model.specs.Faults.{faults_of}
use Rattle.ct_model.specs.Next.{next, wire_to, proposed, is_empty, own_ballots}
use Rattle.ct_model.specs.Waiting.{has_serial}
use Rattle.ct_model.specs.Rehearsal.{Rehearsal, state_of, line_of}
pub use Rattle.ct_model.specs.Test.{Test, at, first_fault}

-- the tests of every step: its member is there and up
abbrev pub presence : Setting → State → ℕ → List Test
presence s g p = at NoSuchMember (not (is_member s.members p)) ∷ at Crashed (is_crashed g p) ∷ []

-- the tests of a step of the open instance, at the member's standing there
abbrev pub open_tests : Member → (Standing → List Test) → List Test
open_tests m tests = at Idle (is_none m.current) ∷ option_map_or tests m.current []

-- the tests of a step of a round, for the member m of a group of n
abbrev pub faults_at : ℕ → Member → Move → Standing → List Test
faults_at n m action c = faults_of n (decided m.got m.last) (own_ballots m c) c action

-- the tests of a step of its own, for its member as it is, whose waiting line this is
abbrev pub tests : Setting → State → Member → List ℕ → Step → List Test
tests s g m line (Submit _ c) = at BadCommand (not (is_good c)) ∷ []
tests s g m line (Receive _ k) = at NotWaiting (not (has_serial k line)) ∷ []
tests s g m line (Begin _) = at Busy (is_some m.current) ∷ at Nothing (is_empty (proposed s m)) ∷ []
tests s g m line (Enter _) = open_tests m (faults_at s.members m moves.Enter)
tests s g m line (Choose _ from) = open_tests m (faults_at s.members m (moves.Choose from))
tests s g m line (Adopt _) = open_tests m (faults_at s.members m moves.Adopt)
tests s g m line (Suspect _) = open_tests m (faults_at s.members m moves.Suspect)
tests s g m line (Conclude _) = open_tests m (faults_at s.members m moves.Conclude)
tests s g m line (Deliver _) = open_tests m (λ c. at Undecided (is_none (decided m.got m.last)) ∷ [])
tests s g m line (Follow _) = at Busy (is_some m.current) ∷ at Undecided (is_none (decided m.got (m.last + 1))) ∷ []
tests s g m line (Crash _) = []
tests s g m line (Postpone _ k) = at NotWaiting (not (has_serial k line)) ∷ []
tests s g m line (Lose _ k) = at NotWaiting (not (has_serial k line)) ∷ []
tests s g m line (Repeat p k) = at NotSent (is_none (wire_to g p k)) ∷ at StillWaiting (has_serial k line) ∷ []

-- the longest of the lists and this one, the first of them where some are equally long
abbrev pub longest : {A : Type 0} → List A → List (List A) → List A
longest best [] = best
longest best (list ∷ rest) = if nat_lt (length best) (length list) then longest list rest else longest best rest

-- the batches of the least member whose list is longest
unfoldable pub order : State → List Batch
order g = longest [] (map (λ m. m.batches) g.members)

-- the round that the member is in, 0 where no instance is open
abbrev pub round_of : Member → ℕ
round_of m = option_map_or (λ c. c.round) m.current 0

-- the limits that a state passes, after a step of p, with this many cells and a record of this length
abbrev pub limits : ℕ → ℕ → State → ℕ → List Test
limits cells steps g p =
    at (Full Submissions) (nat_lt MAX_SUBMISSIONS (submissions g.submitted p))
    ∷ at (Full Instances) (nat_lt MAX_INSTANCES (member g p).last)
    ∷ at (Full Rounds) (nat_lt MAX_ROUNDS (round_of (member g p)))
    ∷ at (Full Envelopes) (nat_lt MAX_ENVELOPES (length g.sent))
    ∷ at (Full Cells) (nat_lt cells (length (order g)))
    ∷ at (Full Steps) (nat_lt MAX_STEPS steps)
    ∷ []

-- the first limit that the state after the step passes
unfoldable pub limit : Rehearsal → Step → Option Refusal
limit w step = option_and_then (λ h. first_fault (limits w.cells (length w.steps + 1) h (actor step))) (next w.setting (state_of w) step)

abbrev pub or_else : {A : Type 0} → Option A → Option A → Option A
or_else None other = other
or_else (Some x) other = Some x

-- the first refusal of a step after the record, want of memory apart
unfoldable pub cause : Rehearsal → Step → Option Refusal
cause w step =
    let p = actor step in
    or_else (first_fault (presence w.setting (state_of w) p))
    (or_else (first_fault (tests w.setting (state_of w) (member (state_of w) p) (line_of w p) step)) (limit w step))

-- the limit that a step passes that sends this many envelopes and comes near no other limit
unfoldable pub overflow : Rehearsal → ℕ → Option Refusal
overflow w more =
    first_fault (at (Full Envelopes) (nat_lt MAX_ENVELOPES (length (state_of w).sent + more))
    ∷ at (Full Steps) (nat_lt MAX_STEPS (length w.steps + 1)) ∷ [])
