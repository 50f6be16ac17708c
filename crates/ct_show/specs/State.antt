-- What is shown of the state that a record leads to: two lines of the whole, and lines of each member.
use Rattle.std.specs.Prelude.{ℕ, zero, suc, List, [], ◌∷◌, ◌++◌, length}
use Rattle.std.specs.Prelude.{codes, decimal, flat_map, Option, Some, None, option_map}
use Rattle.std.specs.Prelude.{if◌then◌else◌}
use Rattle.std.specs.Option.{option_map_or}
use Rattle.std.specs.List.{concat}
use Rattle.ct_names.specs.declared.limit.TheConstants.{MAX_MEMBERS}
use Rattle.ct_names.specs.declared.refusal.Refusal.{Refusal}
use Rattle.ct_names.specs.Group.{majority}
use Rattle.ct_names.specs.RefusalText.{refusal_text}
use Rattle.ct_names.specs.Value.{Value}
use Rattle.ct_model.specs.Cause.{order}
use Rattle.ct_model.specs.declared.phase.Phase.{Phase}
use Rattle.ct_model.specs.declared.step.Step.{Step}
use Rattle.ct_model.specs.declared.step.Step.TheVariants.{Choose}
use Rattle.ct_model.specs.Rehearsal.{Rehearsal, state_of, line_of}
use Rattle.ct_model.specs.State.{at_serial, is_crashed}
use Rattle.ct_text.specs.Lists.{first_in, list_text}
use Rattle.ct_world.specs.Driving.{next_local}
use Rattle.ct_world.specs.Standing.{estimate_by, acked_by, replied_by}
use Rattle.ct_world.specs.World.{member_of, if_member}
use Rattle.ct_text.specs.Standing.{coordinator_of, instance_of}
use Rattle.ct_show.specs.Acts.{step_words}
use Rattle.ct_show.specs.Facts.Fact.{InRound}
use Rattle.ct_show.specs.Facts.{fact_text, first_heard, heard_text}
use Rattle.ct_show.specs.Own.{enabled_steps, first_receipt, next_steps, own_steps, told_refusal}
use Rattle.ct_text.specs.Shapes.{estimate_text}
use Rattle.ct_show.specs.Wires.{serial_text}

-- ---- where a member stands

-- idle, or its round, its phase and its coordinator
abbrev pub progress_text : Rehearsal → ℕ → Option (ℕ × Phase) → List ℕ
progress_text w p None = codes " idle"
progress_text w p (Some r) = fact_text (InRound r.0 r.1 (coordinator_of w p))

-- whether it is up, and its instance
unfoldable pub standing_line : Rehearsal → ℕ → List ℕ
standing_line w p =
    concat (codes "member " ∷ decimal p ∷ (if is_crashed (state_of w) p then codes " crashed" else codes " up") ∷ codes " instance "
    ∷ decimal (instance_of w p)
    ∷ progress_text w p (if_member w p (option_map (λ c. (c.round, c.phase)) (member_of w p).current)) ∷ codes "\n" ∷ [])

-- ---- its estimate, and what it got for its round, where an instance is open

unfoldable pub estimate_line : Option (Value × ℕ) → List ℕ
estimate_line None = []
estimate_line (Some e) = concat (codes "  estimate " ∷ estimate_text (Some e) ∷ codes "\n" ∷ [])

-- a word, and the members of a set; a dash where it has none
unfoldable pub set_line : List ℕ → Option (List ℕ) → List ℕ
set_line word None = []
set_line word (Some set) = concat (word ∷ list_text 32 (first_in set MAX_MEMBERS) ∷ codes "\n" ∷ [])

unfoldable pub votes_lines : Rehearsal → ℕ → List ℕ
votes_lines w p =
    concat (estimate_line (if_member w p (estimate_by (member_of w p)))
    ∷ flat_map (heard_text (codes "  heard    ") (codes "\n")) (first_heard w p w.setting.members)
    ∷ set_line (codes "  acked    ") (if_member w p (acked_by (member_of w p)))
    ∷ set_line (codes "  replied  ") (if_member w p (replied_by (member_of w p)))
    ∷ [])

-- ---- its waiting line

abbrev pub sender_text : Option ℕ → List ℕ
sender_text None = []
sender_text (Some p) = concat (codes ", sent by " ∷ decimal p ∷ [])

-- an envelope, and whose step sent it, of the senders by serial
unfoldable pub waiting_line : Rehearsal → List ℕ → ℕ → List ℕ
waiting_line w from k = concat (codes "  waiting  " ∷ serial_text w k ∷ sender_text (at_serial from k) ∷ codes "\n" ∷ [])

-- ---- what it may do

unfoldable pub enabled_line : Step → List ℕ
enabled_line step = concat (codes "  enabled  " ∷ step_words step ∷ codes "\n" ∷ [])

-- one that is refused, and why
unfoldable pub refusal_line : Step → Refusal → List ℕ
refusal_line step refusal = concat (codes "  refused  " ∷ step_words step ∷ codes " " ∷ refusal_text refusal ∷ codes "\n" ∷ [])

abbrev pub refused_line : Rehearsal → Step → List ℕ
refused_line w step = option_map_or (refusal_line step) (told_refusal w step) []

-- its own steps that are allowed, and those that are refused, of the choices its own estimate alone
unfoldable pub steps_lines : Rehearsal → ℕ → List ℕ
steps_lines w p = flat_map enabled_line (enabled_steps w p) ++ flat_map (refused_line w) (own_steps p (Choose p p ∷ []))

-- these steps, the second behind a word; a dash for none
abbrev pub tried_text : List Step → List ℕ
tried_text [] = codes "-"
tried_text (step ∷ steps) = step_words step ++ flat_map (λ other. codes " or " ++ step_words other) steps

unfoldable pub next_line : Rehearsal → ℕ → List ℕ
next_line w p =
    concat (codes "  next     " ∷ tried_text (next_steps (next_local w p) (first_receipt w p (line_of w p))) ∷ codes "\n" ∷ [])

-- ---- all of it

unfoldable pub member_lines : Rehearsal → List ℕ → ℕ → List ℕ
member_lines w from p =
    concat (standing_line w p ∷ votes_lines w p ∷ flat_map (waiting_line w from) (line_of w p) ∷ steps_lines w p ∷ next_line w p ∷ [])

-- those of the first members
abbrev pub first_members : Rehearsal → List ℕ → ℕ → List ℕ
first_members w from zero = []
first_members w from (suc k) = first_members w from k ++ member_lines w from (suc k)

-- what the record begins with
unfoldable pub group_line : Rehearsal → List ℕ
group_line w =
    concat (codes "group " ∷ decimal w.setting.members ∷ codes " majority " ∷ decimal (majority w.setting.members) ∷ codes " cells "
    ∷ decimal w.cells ∷ codes " batch " ∷ decimal w.setting.bound ∷ codes "\n" ∷ [])

-- what it comes to
unfoldable pub counts_line : Rehearsal → List ℕ
counts_line w =
    concat (codes "steps " ∷ decimal (length w.steps) ∷ codes " sent " ∷ decimal (length (state_of w).sent) ∷ codes " posted "
    ∷ decimal (length (order (state_of w))) ∷ codes "\n" ∷ [])

-- with these senders of the envelopes
unfoldable pub state_lines : Rehearsal → List ℕ → List ℕ
state_lines w from = group_line w ++ (counts_line w ++ first_members w from w.setting.members)
