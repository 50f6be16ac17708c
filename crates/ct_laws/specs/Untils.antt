-- Walks that are made until a goal, turn by turn.
use Rattle.std.specs.Prelude.{◌≡◌, ◌⊎◌, ◌<◌, ◌≤◌, ◌+◌, ℕ, zero, suc, Bool, true, false, None}
use Rattle.ct_model.specs.Rehearsal.{Rehearsal}
use Rattle.ct_grammar.specs.declared.goal.Goal.{Goal}
use Rattle.ct_play.specs.Goals.{shows, uncut}
use Rattle.ct_walk.specs.Walking.{Walk, most_turns, start, turned, walked}
use Rattle.ct_walk.specs.declared.options.WalkOptions.{WalkOptions}

-- a walk without a goal after its first turns
unfoldable pub after_turns : WalkOptions → ℕ → Walk
after_turns o zero = start o None
after_turns o (suc k) = turned o (k + 1) (after_turns o k)

-- its record there
abbrev pub record_at : WalkOptions → ℕ → Rehearsal
record_at o turn = (after_turns o turn).rehearsal

-- which shows the goal
abbrev pub shows_at : WalkOptions → Goal → ℕ → Bool
shows_at o goal turn = shows goal (uncut (record_at o turn))

-- after this turn the record shows the goal, and after no turn before it
pub record IsFirstTurn (o : WalkOptions) (goal : Goal) (turn : ℕ) : Type 0 where
  pub from : 1 ≤ turn
  pub to : turn ≤ most_turns o
  pub shows : shows_at o goal turn ≡ true
  pub none : (before : ℕ) → 1 ≤ before → before < turn → shows_at o goal before ≡ false

-- after no turn does it
abbrev pub ShowsNowhere : WalkOptions → Goal → Type 0
ShowsNowhere o goal = (turn : ℕ) → 1 ≤ turn → turn ≤ most_turns o → shows_at o goal turn ≡ false

-- there is a first turn after which the record shows the goal, and the record is that; or there is none, and it is that of all the turns
abbrev pub IsUntil : WalkOptions → Goal → Rehearsal → Type 0
IsUntil o goal w =
    ((turn : ℕ) × IsFirstTurn o goal turn × (w ≡ record_at o turn)) ⊎ (ShowsNowhere o goal × (w ≡ walked o None))
