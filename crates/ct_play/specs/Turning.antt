-- Turns as a driver makes them, where it is given whom the failure detector suspects.
use Rattle.std.specs.Prelude.{◌≡◌, ℕ, zero, suc, ◌-◌, ◌==◌, Bool, false, List, [], Option, Some, None, Result, Ok, Err, fold, length}
use Rattle.std.specs.Prelude.{if◌then◌else◌}
use Rattle.ct_names.specs.MemberSet.{has_member}
use Rattle.ct_model.specs.declared.step.Step.{Step}
use Rattle.ct_detect.specs.declared.ask.Ask.{Ask}
use Rattle.ct_choices.specs.Choices.{after_try, ask_of, question, tried}
use Rattle.ct_grammar.specs.declared.goal.Goal.{Goal}
use Rattle.ct_grammar.specs.declared.term.Term.{Term}
use Rattle.ct_grammar.specs.declared.play.Play.{Play}
use Rattle.ct_grammar.specs.declared.play.Play.TheVariants.{Turns, Settle, Until}
use Rattle.ct_grammar.specs.declared.who.Who.{Who}
use Rattle.ct_play.specs.Acting.{go_on}
use Rattle.ct_play.specs.Cuts.{near}
use Rattle.ct_play.specs.Expecting.{all_known, expected_of}
use Rattle.ct_play.specs.Goals.{looks_of, shows}
use Rattle.ct_play.specs.Played.{Played, with_record, with_step}
use Rattle.ct_play.specs.Who.{known, named}
use Rattle.ct_play.specs.declared.line_fault.LineFault.{LineFault}
use Rattle.ct_play.specs.declared.line_fault.LineFault.TheVariants.{Restless}
use Rattle.ct_play.specs.declared.turning.TheConstants.{MOST_ROUNDS}

-- ---- a turn

-- whom the detectors suspect in the line's turns
abbrev pub suspected_by : Play → List ℕ
suspected_by (Turns who n set) = set
suspected_by (Settle who set) = set
suspected_by (Until who set goal) = set
suspected_by _ = []

-- the line's turns have come to their end: its goal holds
abbrev pub has_ended : Played → Play → Bool
has_ended s (Until who set goal) = shows goal s
has_ended s _ = false

-- the terms of the goal that a line looks at between turns
abbrev pub terms_in : Play → List Term
terms_in (Until who set goal) = goal
terms_in _ = []

-- this is what they came to on the stage
abbrev pub IsSeen : Play → Played → List Bool → Type 0
IsSeen play s looks = looks ≡ looks_of s (terms_in play)

-- and this what they had come to before its last step
pub record IsSeenBefore (play : Play) (s : Played) (looks : List Bool) : Type 0 where
  pub before : Played
  pub step : Step
  pub is : s ≡ with_step before step
  pub seen : IsSeen play before looks

-- the answer to a question: yes where the coordinator that is asked about is among these
abbrev pub suspects : List ℕ → Option Ask → Bool
suspects set None = false
suspects set (Some ask) = has_member set ask.coordinator

-- what a turn of p tries, where its detector suspects these
unfoldable pub tried_at : Played → ℕ → List ℕ → Option Step
tried_at s p set = near s (tried s.rehearsal p (Some (ask_of s.rehearsal p, suspects set (question s.rehearsal p))))

-- after a step is tried
abbrev pub after_attempt : Played → Option Step → Played
after_attempt s step = with_record s (after_try s.rehearsal step)

-- after a turn of p, which does nothing once the line has come to its end
unfoldable pub after_turn : Play → Played → ℕ → Played
after_turn play s p = if has_ended s play then s else after_attempt s (tried_at s p (suspected_by play))

-- ---- rounds

-- after a turn of each of these
abbrev pub after_round : Play → List ℕ → Played → Played
after_round play ps s = fold (after_turn play) s ps

-- after so many rounds
unfoldable pub after_rounds : Play → List ℕ → Played → ℕ → Played
after_rounds play ps s zero = s
after_rounds play ps s (suc k) = after_round play ps (after_rounds play ps s k)

-- nothing moved from one record to a later one
abbrev pub is_still : Played → Played → Bool
is_still s t = length t.rehearsal.steps == length s.rehearsal.steps

-- ---- lines

-- so many rounds of turns
unfoldable pub turned : Played → Play → Who → ℕ → Result Played LineFault
turned s play who n = go_on (known s.rehearsal.setting.members who) (λ ps. Ok (after_rounds play ps s n))

-- after the last round, in which nothing may move
abbrev pub after_last : Played → Played → Result Played LineFault
after_last s t = if is_still s t then Ok t else Err Restless

-- after as many rounds as there may be: nothing moved in the last of them. After one in which nothing moved no other moves anything
unfoldable pub rested : Play → List ℕ → Played → Result Played LineFault
rested play ps s =
    let before = after_rounds play ps s (MOST_ROUNDS - 1) in
    after_last before (after_round play ps before)

-- rounds of turns until one in which nothing moved
unfoldable pub settled : Played → Play → Who → Result Played LineFault
settled s play who = go_on (known s.rehearsal.setting.members who) (λ ps. rested play ps s)

-- turns until the goal holds: after as many rounds as there may be it has to hold. Once it does no turn does anything
unfoldable pub reached : Played → Play → Who → Goal → Result Played LineFault
reached s play who goal =
    go_on (known s.rehearsal.setting.members who)
    (λ ps. go_on (all_known s.rehearsal.setting.members goal) (λ _. expected_of (after_rounds play ps s MOST_ROUNDS) goal))

-- the stage on which the line looks at its goal: the one after its turns, where it makes turns until the goal holds
unfoldable pub ended : Played → Play → Played
ended s (Until who set goal) = after_rounds (Until who set goal) (named s.rehearsal.setting.members who) s MOST_ROUNDS
ended s _ = s
