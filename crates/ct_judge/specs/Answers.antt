-- What a session answers.
use Rattle.std.specs.Prelude.{ℕ, ◌+◌, ◌==◌, Bool, true, List, [], ◌∷◌, ◌++◌, length, codes, decimal, Option, Some, None, Result, Ok, Err}
use Rattle.std.specs.Prelude.{is_err, if◌then◌else◌}
use Rattle.std.specs.List.{concat}
use Rattle.ct_names.specs.Group.{is_member}
use Rattle.ct_names.specs.declared.limit.TheConstants.{MAX_ENVELOPES, MAX_INSTANCES, MAX_ROUNDS, MAX_STEPS, MAX_SUBMISSIONS}
use Rattle.ct_model.specs.Cause.{order}
use Rattle.ct_model.specs.declared.step.Step.{Step}
use Rattle.ct_records.specs.Text.{record_text}
use Rattle.ct_model.specs.Rehearsal.{Rehearsal, state_of}
use Rattle.ct_world.specs.Driving.{next_local}
use Rattle.ct_show.specs.Facts.{member_facts}
use Rattle.ct_json.specs.Json.{report_json}
use Rattle.ct_show.specs.Own.{enabled_steps, first_receipt, next_steps}
use Rattle.ct_grammar.specs.declared.line.Line.{Line}
use Rattle.ct_grammar.specs.declared.line.Line.TheVariants.{Play as Plays}
use Rattle.ct_grammar.specs.declared.play.Play.TheVariants.{Ask}
use Rattle.ct_grammar.specs.declared.question.Question.{Question}
use Rattle.ct_grammar.specs.declared.question.Question.TheVariants.{Enabled, Next, State, Waiting, Report, Record, Limits}
use Rattle.ct_play.specs.Cuts.{first_near}
use Rattle.ct_play.specs.Picking.{waiting_at}
use Rattle.ct_play.specs.Played.{Played}
use Rattle.ct_judging.specs.Judging.{taken}
use Rattle.ct_judging.specs.Naming.{letter_name, listed}
use Rattle.ct_judging.specs.Printing.{printed}
use Rattle.ct_judging.specs.Reading.{misread_text}
use Rattle.ct_judging.specs.Standing.{Standing}
use Rattle.ct_judging.specs.Telling.{Explained, explained}
use Rattle.ct_judging.specs.Wording.{numbered}
use Rattle.ct_judging.specs.declared.misread.Misread.{Misread}
use Rattle.ct_judge.specs.Steps.{step_lines}

-- ---- answers to questions

-- the steps that p may take by itself
unfoldable pub enabled_text : Rehearsal → ℕ → List ℕ
enabled_text w p = concat (codes "enabled " ∷ step_lines (codes ", ") w (enabled_steps w p) ∷ codes "\n" ∷ [])

-- the receipt that a turn of p tries, where it is allowed: of the first envelope that waits there and was sent on p's side
abbrev pub receipt_of : Rehearsal → ℕ → Option ℕ → Option Step
receipt_of w p None = None
receipt_of w p (Some k) = first_receipt w p (k ∷ [])

-- what a driver does next at p
unfoldable pub next_answer : Played → ℕ → List ℕ
next_answer w p =
    concat (codes "next "
    ∷ step_lines (codes " or ") w.rehearsal (next_steps (next_local w.rehearsal p) (receipt_of w.rehearsal p (first_near w p)))
    ∷ codes "\n" ∷ [])

-- where p stands
unfoldable pub state_answer : Rehearsal → ℕ → List ℕ
state_answer w p = concat (codes "state " ∷ member_facts w p ∷ codes "\n" ∷ [])

-- the report, which ends with a line feed
unfoldable pub report_answer : Rehearsal → List ℕ
report_answer w = concat (codes "report " ∷ report_json w ∷ [])

-- what waits at p
unfoldable pub waiting_answer : Rehearsal → ℕ → List ℕ
waiting_answer w p = concat (codes "waiting " ∷ listed (letter_name w) (waiting_at w p) ∷ codes "\n" ∷ [])

-- the record so far
unfoldable pub record_answer : Rehearsal → List ℕ
record_answer w = concat (codes "record " ∷ record_text w ∷ codes "\n" ∷ [])

-- how much of a limit is used
unfoldable pub used_text : List ℕ → ℕ → ℕ → List ℕ
used_text words used limit = numbered words used ++ numbered (codes " of ") limit

-- the limits of a member, each behind its words
unfoldable pub member_limits : (submissions instances rounds : List ℕ) → List ℕ
member_limits submissions instances rounds =
    numbered submissions MAX_SUBMISSIONS ++ numbered instances MAX_INSTANCES ++ numbered rounds MAX_ROUNDS

-- those of the group, and how much of them is used
unfoldable pub group_limits : Rehearsal → (envelopes cells steps : List ℕ) → List ℕ
group_limits w envelopes cells steps =
    used_text envelopes (length (state_of w).sent) MAX_ENVELOPES ++ used_text cells (length (order (state_of w))) w.cells
    ++ used_text steps (length w.steps) MAX_STEPS

unfoldable pub limits_answer : Rehearsal → List ℕ
limits_answer w =
    member_limits (codes "limits submissions ") (codes ", instances ") (codes ", rounds ")
    ++ group_limits w (codes ", envelopes ") (codes ", cells ") (codes ", steps ") ++ codes "\n"

-- only a member of the group has an answer
abbrev pub if_known : Rehearsal → ℕ → List ℕ → List ℕ
if_known w p text = if is_member w.setting.members p then text else codes "no member\n"

abbrev pub asked_text : Played → Question → List ℕ
asked_text w (Enabled p) = enabled_text w.rehearsal p
asked_text w (Next p) = if_known w.rehearsal p (next_answer w p)
asked_text w (State p) = state_answer w.rehearsal p
asked_text w (Waiting p) = waiting_answer w.rehearsal p
asked_text w Report = report_answer w.rehearsal
asked_text w Record = record_answer w.rehearsal
asked_text w Limits = limits_answer w.rehearsal

-- ---- answers to lines

-- how many envelopes were sent
abbrev pub sent_of : Option Played → ℕ
sent_of None = 0
sent_of (Some w) = length (state_of w.rehearsal).sent

-- the serials of what was sent since so many envelopes were
unfoldable pub ok_text : ℕ → ℕ → List ℕ
ok_text before now =
    if now == before then codes "ok\n"
    else (if now == before + 1 then concat (codes "ok " ∷ decimal now ∷ codes "\n" ∷ [])
    else concat (codes "ok " ∷ decimal (before + 1) ∷ codes "-" ∷ decimal now ∷ codes "\n" ∷ []))

-- the answer to a question, once there is a world
abbrev pub question_text : Option Played → Question → List ℕ
question_text None question = codes "ok\n"
question_text (Some w) question = asked_text w question

-- the answer to a line that was taken, where so many envelopes had been sent
abbrev pub taken_text : ℕ → Line → Standing → List ℕ
taken_text before (Plays (Ask question)) t = question_text t.played question
taken_text before line t = ok_text before (sent_of t.played)

-- the answer to a line that was taken, or to one that is refused
abbrev pub line_answer : Standing → Line → Result Standing Explained → List ℕ
line_answer s line (Ok t) = taken_text (sent_of s.played) line t
line_answer s line (Err e) = e.text ++ codes "\n"

-- where a session stands then
abbrev pub or_before : Standing → Result Standing Explained → Standing
or_before s (Ok t) = t
or_before s (Err e) = s

abbrev pub answer : Standing → Result Line Misread → List ℕ
answer s (Ok line) = line_answer s line (explained s line (taken s line))
answer s (Err misread) = printed (misread_text misread) ++ codes "\n"

abbrev pub standing_after : Standing → Result Line Misread → Standing
standing_after s (Ok line) = or_before s (explained s line (taken s line))
standing_after s (Err misread) = s

-- the line is refused
abbrev pub is_refused : Standing → Result Line Misread → Bool
is_refused s (Ok line) = is_err (taken s line)
is_refused s (Err misread) = true
