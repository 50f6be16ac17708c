-- The line of a refused step, with the facts behind the refusal.
use Rattle.std.specs.Prelude.{ℕ, zero, suc, ◌==◌, Bool, false, if◌then◌else◌, List, [], ◌∷◌}
use Rattle.std.specs.Prelude.{◌++◌, length, flat_map, codes, decimal, Option, Some, None, option_map, slice_get, unwrap_or}
use Rattle.std.specs.List.{concat}
use Rattle.ct_names.specs.declared.refusal.Refusal.{Refusal}
use Rattle.ct_names.specs.declared.refusal.Refusal.TheVariants.{NotSent, NotWaiting, StillWaiting}
use Rattle.ct_names.specs.RefusalText.{refusal_text}
use Rattle.ct_names.specs.Value.{Value}
use Rattle.ct_model.specs.Actor.{actor}
use Rattle.ct_model.specs.declared.phase.Phase.{Phase}
use Rattle.ct_model.specs.declared.envelope.Envelope.{Envelope}
use Rattle.ct_model.specs.declared.step.Step.{Step}
use Rattle.ct_model.specs.declared.step.Step.TheVariants.{Receive, Postpone, Lose, Repeat}
use Rattle.ct_model.specs.declared.wire.Wire.{Wire}
use Rattle.ct_model.specs.Rehearsal.{Rehearsal, state_of}
use Rattle.ct_world.specs.Standing.{acked_by, estimate_by, heard_by, replied_by}
use Rattle.ct_world.specs.World.{member_of, if_member}
use Rattle.ct_text.specs.Shapes.{estimate_text, phase_text}
use Rattle.ct_text.specs.Standing.{coordinator_of, instance_of}
use Rattle.ct_show.specs.Acts.{act_words, step_words}
use Rattle.ct_show.specs.Details.{coordinator_text, size_of}
use Rattle.ct_show.specs.Lines.{head_text}
use Rattle.ct_show.specs.Wires.{letter_at, value_at, wire_text}

-- ---- the facts

-- of the member that takes the step: the last instance that it began; that none is open; its round there, its phase, and the
-- coordinator of that round; its estimate and ts; the estimates that it heard, each behind its sender; how many acked the round, and how
-- many replied.
-- Of the envelope that the step names: that it wasn't sent, and how many were; what it carries; to whom it goes; that it waits; the
-- step in which it left its line. Of others: the step in which the member crashed; how many members there are; what the registers
-- are; the limit that would be passed
pub data Fact : Type 0 where
  Began : (instance : ℕ) → Fact
  Idle : Fact
  InRound : (round : ℕ) (phase : Phase) (coordinator : ℕ) → Fact
  Holds : (estimate : Option (Value × ℕ)) → Fact
  Heard : (estimates : List (ℕ × (Value × ℕ))) → Fact
  Acked : (acks replies : ℕ) → Fact
  Unsent : (serial sent : ℕ) → Fact
  Carries : (serial : ℕ) (wire : Wire (Unit {0})) (value : Value) → Fact
  GoesTo : (member : ℕ) → Fact
  WentTo : (member : ℕ) → Fact
  Waits : Fact
  LeftIn : (taking : Option (ℕ × Step)) → Fact
  CrashedIn : (number : Option ℕ) → Fact
  Members : (count : ℕ) → Fact
  Registers : Fact
  AtMost : (most : ℕ) → Fact

-- ---- their texts

-- an estimate that was heard of a member, between these texts
unfoldable pub heard_text : (before after : List ℕ) → ℕ × (Value × ℕ) → List ℕ
heard_text before after e = concat (before ∷ decimal e.0 ∷ codes " " ∷ estimate_text (Some e.1) ∷ after ∷ [])

-- the step of a number, in which an envelope left its line
unfoldable pub left_in : ℕ × Step → List ℕ
left_in t = concat (codes ", left in step " ∷ decimal t.0 ∷ codes ": " ∷ step_words t.1 ∷ [])

abbrev pub left_text : Option (ℕ × Step) → List ℕ
left_text None = []
left_text (Some t) = left_in t

abbrev pub fact_text : Fact → List ℕ
fact_text (Began k) = concat (codes "instance " ∷ decimal k ∷ [])
fact_text Idle = codes " idle"
fact_text (InRound r phase q) =
    concat (codes " round " ∷ decimal r ∷ codes " " ∷ phase_text phase ∷ (if r == 0 then [] else coordinator_text q) ∷ [])
fact_text (Holds e) = concat (codes ", estimate " ∷ estimate_text e ∷ [])
fact_text (Heard all) = flat_map (heard_text (codes ", heard ") (codes "")) all
fact_text (Acked acks replies) = concat (codes ", acks " ∷ decimal acks ∷ codes " of " ∷ decimal replies ∷ [])
fact_text (Unsent k sent) = concat (codes "#" ∷ decimal k ∷ codes " was not sent: " ∷ decimal sent ∷ codes " envelopes were" ∷ [])
fact_text (Carries k wire v) = concat (codes "#" ∷ decimal k ∷ codes " " ∷ wire_text wire v ∷ [])
fact_text (GoesTo q) = concat (codes " to " ∷ decimal q ∷ [])
fact_text (WentTo q) = concat (codes " went to member " ∷ decimal q ∷ [])
fact_text Waits = codes " is in its line"
fact_text (LeftIn taking) = left_text taking
fact_text (CrashedIn None) = []
fact_text (CrashedIn (Some number)) = concat (codes "in step " ∷ decimal number ∷ [])
fact_text (Members n) = concat (codes "members are 1 to " ∷ decimal n ∷ [])
fact_text Registers = codes "a register is 0 to 15"
fact_text (AtMost most) = concat (decimal most ∷ codes " at most" ∷ [])

abbrev pub texts_of : List Fact → List ℕ
texts_of facts = flat_map fact_text facts

-- ---- of a member

-- an estimate that p heard of a member
abbrev pub heard_of : ℕ → Option (Value × ℕ) → List (ℕ × (Value × ℕ))
heard_of from None = []
heard_of from (Some e) = (from, e) ∷ []

-- those of the first members
abbrev pub first_heard : Rehearsal → ℕ → ℕ → List (ℕ × (Value × ℕ))
first_heard w p zero = []
first_heard w p (suc k) = first_heard w p k ++ heard_of (suc k) (if_member w p (heard_by (member_of w p) (suc k)))

-- its part in its open instance
abbrev pub part : Rehearsal → ℕ → Option (ℕ × Phase) → List Fact
part w p None = Idle ∷ []
part w p (Some r) =
    InRound r.0 r.1 (coordinator_of w p) ∷ Holds (if_member w p (estimate_by (member_of w p)))
    ∷ Heard (first_heard w p w.setting.members)
    ∷ Acked (size_of (if_member w p (acked_by (member_of w p)))) (size_of (if_member w p (replied_by (member_of w p)))) ∷ []

-- where it stands
abbrev pub standing : Rehearsal → ℕ → List Fact
standing w p =
    Began (instance_of w p) ∷ part w p (if_member w p (option_map (λ c. (c.round, c.phase)) (member_of w p).current))

unfoldable pub member_facts : Rehearsal → ℕ → List ℕ
member_facts w p = texts_of (standing w p)

-- ---- of an envelope

-- the step takes the envelope of the serial out of a line
abbrev pub takes : Step → ℕ → Bool
takes (Receive p i) k = i == k
takes (Lose p i) k = i == k
takes step k = false

-- the step puts it back
abbrev pub returns : Step → ℕ → Bool
returns (Repeat p i) k = i == k
returns step k = false

abbrev pub taking_or : Option (ℕ × Step) → ℕ → ℕ → Option Step → Option (ℕ × Step)
taking_or before k number None = before
taking_or before k number (Some step) = if takes step k then Some (number, step) else (if returns step k then None else before)

-- the last of the first steps that takes it out, after its number, where none puts it back later
abbrev pub last_taking : List Step → ℕ → ℕ → Option (ℕ × Step)
last_taking steps k zero = None
last_taking steps k (suc i) = taking_or (last_taking steps k i) k (suc i) (slice_get steps i)

-- where an envelope to a member is, as far as the refusal tells; and when it left its line, where the refusal is that it doesn't wait
abbrev pub place : Rehearsal → ℕ → ℕ → Refusal → List Fact
place w k to NotSent = WentTo to ∷ []
place w k to StillWaiting = Waits ∷ []
place w k to NotWaiting = GoesTo to ∷ LeftIn (last_taking w.steps k (length w.steps)) ∷ []
place w k to _ = GoesTo to ∷ []

-- an envelope, and where it is; how many were sent, where there is none of the serial
abbrev pub letter_facts : Rehearsal → ℕ → Option (Envelope (Unit {0})) → Refusal → List Fact
letter_facts w k None refusal = Unsent k (length (state_of w).sent) ∷ []
letter_facts w k (Some e) refusal = Carries k e.wire (unwrap_or (value_at w k) []) ∷ place w k e.to refusal

-- ---- of a step

-- the envelope that it names; of another step its member
abbrev pub facts_of : Rehearsal → Step → Refusal → List Fact
facts_of w (Receive p k) refusal = letter_facts w k (letter_at w k) refusal
facts_of w (Postpone p k) refusal = letter_facts w k (letter_at w k) refusal
facts_of w (Lose p k) refusal = letter_facts w k (letter_at w k) refusal
facts_of w (Repeat p k) refusal = letter_facts w k (letter_at w k) refusal
facts_of w step refusal = standing w (actor step)

unfoldable pub facts_text : Rehearsal → Step → Refusal → List ℕ
facts_text w step refusal = texts_of (facts_of w step refusal)

-- the line of a step that is refused after the record
unfoldable pub refused_text : Rehearsal → ℕ → Step → Refusal → List ℕ
refused_text w number step refusal =
    concat (head_text number (actor step) ∷ act_words step ∷ codes "  REFUSED " ∷ refusal_text refusal ∷ codes ": "
    ∷ facts_text w step refusal ∷ codes "\n" ∷ [])
