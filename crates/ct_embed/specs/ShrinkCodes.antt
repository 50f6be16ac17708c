-- What C is told of a run that is made smaller.
use Rattle.std.specs.Prelude.{◌≡◌, ◌+◌, ℕ, Bool, true, false, List, Option, Some, None, IsSome, is_some, length, option_map, if◌then◌else◌}
use Rattle.ct_model.specs.Rehearsal.{Rehearsal}
use Rattle.ct_shrink.specs.Making.{Making, after_next, next_step, tried_lines}
use Rattle.ct_shrink.specs.Playing.{lines_of}
use Rattle.ct_shrink.specs.Shrinking.{Agrees, asks, smaller}
use Rattle.ct_shrink.specs.declared.line.Line.{Line}
use Rattle.ct_model.specs.declared.step.Step.{Step}
use Rattle.ct_walk.specs.declared.turn.Turn.{Turn}
use Rattle.ct_walk.specs.declared.turn.Turn.TheVariants as turn
use Rattle.ct_embed.specs.declared.turn_code.TurnCode.{TurnCode}
use Rattle.ct_embed.specs.declared.numbers.TheConstants.{NO_TRIAL}
use Rattle.ct_embed.specs.WalkCodes.{no_turn, turn_code}

-- the step is tried; behind the last line it is over
abbrev pub turn_by : Option Step → Turn
turn_by None = turn.Over
turn_by (Some step) = turn.Step step

-- what is tried next in the world of this record; nothing where one of both is closed
abbrev pub trial_told : Option Making → Option Rehearsal → TurnCode
trial_told (Some m) (Some w) = turn_code (turn_by (next_step m w))
trial_told m w = no_turn

-- and what is left to try
abbrev pub trial_after : Option Making → Option Rehearsal → Option Making
trial_after (Some m) (Some w) = Some (after_next m w)
trial_after m w = m

-- ---- trials

-- both are open, and it is so
abbrev pub InBoth : (Making → Making → Type 0) → Option Making → Option Making → Type 0
InBoth P (Some m) (Some n) = P m n
InBoth P _ _ = ⊥

-- the number of whether a trial is asked for
abbrev pub asked_number : Making → ℕ
asked_number m = if asks m.shrinking then 0 else NO_TRIAL

-- the same, before the first line of the trial that is asked for, if one is; that is the same one until it was told
pub record IsAsked (m n : Making) : Type 0 where
  pub same : n.shrinking ≡ record m.shrinking { asked = n.shrinking.asked }
  pub is : is_some n.shrinking.asked ≡ asks m.shrinking
  pub again : IsSome m.shrinking.asked → n.shrinking ≡ m.shrinking
  pub first : n.at ≡ 0

-- the trial was told: it left the run of this record, or nothing
pub record IsTold (left : Option Rehearsal) (m n : Making) : Type 0 where
  pub lines : n.shrinking.lines ≡ smaller m.shrinking.lines (option_map lines_of left)
  pub made : n.shrinking.made ≡ m.shrinking.made + 1
  pub most : n.shrinking.most ≡ m.shrinking.most
  pub asked : n.shrinking.asked ≡ None
  pub first : n.at ≡ 0
  -- whatever the test is: where it left this, and agrees with what was told before, it still does
  pub agrees : (trial : List Line → Option (List Line)) → Agrees trial m.shrinking →
      option_map lines_of left ≡ trial (tried_lines m.shrinking) → Agrees trial n.shrinking

-- the record, where the test was passed
abbrev pub left_of : Bool → Option Rehearsal → Option Rehearsal
left_of false w = None
left_of true w = w

-- no line of the run can be left out, as far as was told
abbrev pub IsSettled : Option Making → Type 0
IsSettled None = ⊥
IsSettled (Some m) = m.shrinking.settled ≡ length m.shrinking.lines
