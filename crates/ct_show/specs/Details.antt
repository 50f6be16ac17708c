-- What a step read, and what it came to, as its line tells it. The record has the step as its last one.
use Rattle.std.specs.Prelude.{ℕ, ◌+◌, ◌==◌, List, [], ◌∷◌, ◌++◌, length}
use Rattle.std.specs.Prelude.{codes, decimal, Option, Some, None, if◌then◌else◌}
use Rattle.std.specs.Option.{option_map_or}
use Rattle.std.specs.List.{concat}
use Rattle.ct_names.specs.declared.command.Command.{Command}
use Rattle.ct_names.specs.MessageText.{message_text}
use Rattle.ct_model.specs.declared.step.Step.{Step}
use Rattle.ct_model.specs.declared.step.Step.TheVariants.{Submit, Receive, Begin, Enter, Choose, Adopt, Suspect, Conclude, Deliver}
use Rattle.ct_model.specs.declared.step.Step.TheVariants.{Follow, Crash, Postpone, Lose, Repeat}
use Rattle.ct_model.specs.declared.wire.Wire.TheVariants.{Data}
use Rattle.ct_model.specs.Rehearsal.{Rehearsal, state_of}
use Rattle.ct_model.specs.declared.envelope.Envelope.{Envelope}
use Rattle.ct_model.specs.declared.wire.Wire.{Wire}
use Rattle.ct_world.specs.Standing.{heard_by, acked_by, replied_by}
use Rattle.ct_world.specs.World.{member_of, if_member}
use Rattle.ct_show.specs.Acts.{command_words}
use Rattle.ct_text.specs.Shapes.{estimate_text}
use Rattle.ct_text.specs.Standing.{batch_text, coordinator_of, estimate_alone, estimate_of, instance_of, round_of}
use Rattle.ct_show.specs.Wires.{letter_at, round_text, serial_text}

-- how many members a set has, none where there is no set
unfoldable pub size_of : Option (List ℕ) → ℕ
size_of set = option_map_or length set 0

-- ---- each step

-- the message, behind a word, where the wire is one
abbrev pub message_of : Wire (Unit {0}) → List ℕ
message_of (Data m) = concat (codes " as " ∷ message_text m ∷ [])
message_of _ = []

abbrev pub message_in : Option (Envelope (Unit {0})) → List ℕ
message_in None = []
message_in (Some e) = message_of e.wire

unfoldable pub submit_text : Rehearsal → ℕ → Command → List ℕ
submit_text w before c = concat (codes "submit   " ∷ command_words c ∷ message_in (letter_at w (before + 1)) ∷ [])

unfoldable pub begin_text : Rehearsal → ℕ → List ℕ
begin_text w p = concat (codes "begin    instance " ∷ decimal (instance_of w p) ∷ codes " proposes " ∷ estimate_alone w p ∷ [])

unfoldable pub coordinator_text : ℕ → List ℕ
coordinator_text p = concat (codes ", coordinator " ∷ decimal p ∷ [])

unfoldable pub enter_text : Rehearsal → ℕ → List ℕ
enter_text w p =
    concat (codes "enter    round " ∷ round_text (instance_of w p) (round_of w p) ∷ coordinator_text (coordinator_of w p) ∷ [])

unfoldable pub choose_text : Rehearsal → ℕ → ℕ → List ℕ
choose_text w p from =
    concat (codes "choose   estimate of " ∷ decimal from ∷ codes ": " ∷ estimate_text (if_member w p (heard_by (member_of w p) from)) ∷ [])

unfoldable pub adopt_text : Rehearsal → ℕ → List ℕ
adopt_text w p = concat (codes "adopt    " ∷ estimate_of w p ∷ [])

unfoldable pub suspect_text : Rehearsal → ℕ → List ℕ
suspect_text w p =
    concat (codes "suspect  member " ∷ decimal (coordinator_of w p) ∷ codes "; keeps " ∷ estimate_of w p ∷ [])

-- where something was sent since this many envelopes were, the estimate is decided
unfoldable pub decision_text : Rehearsal → ℕ → ℕ → List ℕ
decision_text w before p =
    if length (state_of w).sent == before then codes ": no decision" else concat (codes ": decides " ∷ estimate_alone w p ∷ [])

-- after a word how many acked the round, of those that replied
unfoldable pub acks_text : List ℕ → Rehearsal → ℕ → List ℕ
acks_text word w p =
    concat (word ∷ codes " acks " ∷ decimal (size_of (if_member w p (acked_by (member_of w p)))) ∷ codes " of "
    ∷ decimal (size_of (if_member w p (replied_by (member_of w p)))) ∷ [])

unfoldable pub conclude_text : Rehearsal → ℕ → ℕ → List ℕ
conclude_text w before p = acks_text (codes "conclude") w p ++ decision_text w before p

-- a step that delivers the batch of an instance
unfoldable pub delivery_text : List ℕ → Rehearsal → ℕ → List ℕ
delivery_text name w p =
    concat (name ∷ codes "instance " ∷ decimal (instance_of w p) ∷ codes ": " ∷ batch_text w (instance_of w p) ∷ [])

-- a step on an envelope
unfoldable pub letter_step : List ℕ → Rehearsal → ℕ → List ℕ
letter_step name w k = concat (name ∷ serial_text w k ∷ [])

-- what the step did, where so many envelopes had been sent before it
abbrev pub detail_text : Rehearsal → ℕ → Step → List ℕ
detail_text w before (Submit p c) = submit_text w before c
detail_text w before (Receive p k) = letter_step (codes "receive  ") w k
detail_text w before (Begin p) = begin_text w p
detail_text w before (Enter p) = enter_text w p
detail_text w before (Choose p from) = choose_text w p from
detail_text w before (Adopt p) = adopt_text w p
detail_text w before (Suspect p) = suspect_text w p
detail_text w before (Conclude p) = conclude_text w before p
detail_text w before (Deliver p) = delivery_text (codes "deliver  ") w p
detail_text w before (Follow p) = delivery_text (codes "follow   ") w p
detail_text w before (Crash p) = codes "crash"
detail_text w before (Postpone p k) = letter_step (codes "postpone ") w k
detail_text w before (Lose p k) = letter_step (codes "lose     ") w k
detail_text w before (Repeat p k) = letter_step (codes "repeat   ") w k

-- ---- in a picture

-- the letter that stands for a step; none for a receipt
abbrev pub letter_of : Step → List ℕ
letter_of (Submit p c) = codes "S"
letter_of (Receive p k) = []
letter_of (Begin p) = codes "B"
letter_of (Enter p) = codes "E"
letter_of (Choose p from) = codes "C"
letter_of (Adopt p) = codes "A"
letter_of (Suspect p) = codes "N"
letter_of (Conclude p) = codes "K"
letter_of (Deliver p) = codes "D"
letter_of (Follow p) = codes "F"
letter_of (Crash p) = codes "X"
letter_of (Postpone p k) = codes "P"
letter_of (Lose p k) = codes "L"
letter_of (Repeat p k) = codes "R"
