-- How near a walk comes to what is looked for.
use Rattle.std.specs.Prelude.{ℕ, zero, suc, ◌+◌, max, Option, Some, None, unwrap_or, if◌then◌else◌}
use Rattle.ct_grammar.specs.declared.goal.Goal.{Goal}
use Rattle.ct_model.specs.Rehearsal.{Rehearsal}
use Rattle.ct_choices.specs.Choices.{round_of}
use Rattle.ct_world.specs.Decided.{last_decided}
use Rattle.ct_world.specs.World.{member_of, if_member}
use Rattle.ct_walk.specs.declared.options.WalkOptions.{WalkOptions}
use Rattle.ct_walk.specs.declared.sight.Sight.{Sight}
use Rattle.ct_walk.specs.declared.sight.Sight.TheVariants.{Decided, Round}
use Rattle.ct_walk.specs.Shown.{is_shown_by}
use Rattle.ct_walk.specs.Sights.{sight_in}
use Rattle.ct_walk.specs.Walking.{Walk, most_turns, start, turned, walked}

-- ---- one walk

-- the largest of what is so for the first members
abbrev pub largest_of : (ℕ → ℕ) → ℕ → ℕ
largest_of f zero = 0
largest_of f (suc p) = max (largest_of f p) (f (suc p))

-- the largest round that a member is in, 0 where none is in one
unfoldable pub largest_round : Rehearsal → ℕ
largest_round w = largest_of (round_of w) w.setting.members

-- the largest instance whose decision p got, 0 where it got none
abbrev pub last_of : Rehearsal → ℕ → ℕ
last_of w p = unwrap_or (if_member w p (last_decided (member_of w p).got)) 0

-- the largest instance whose decision a member got, 0 where none got one
unfoldable pub largest_decided : Rehearsal → ℕ
largest_decided w = largest_of (last_of w) w.setting.members

-- the largest round that a member is in after one of so many turns more at most, where some were made
unfoldable pub rounds_for : WalkOptions → ℕ → ℕ → Walk → ℕ
rounds_for o made zero w = 0
rounds_for o made (suc more) w =
    let v = turned o (made + 1) w in
    max (largest_round v.rehearsal) (if is_shown_by v.until v.rehearsal then 0 else rounds_for o (made + 1) more v)

-- what a walk came to whose largest round this is, and whose record this
abbrev pub came : Option Sight → ℕ → Rehearsal → ℕ
came None rounds w = 0
came (Some (Decided instance)) rounds w = largest_decided w
came (Some (Round round)) rounds w = rounds

-- the largest round that a member is in after a turn of the walk
abbrev pub rounds_of : WalkOptions → Option Goal → ℕ
rounds_of o until = rounds_for o 0 (most_turns o) (start o until)

-- what the walk came to: where the goal is `any round >= N`, the largest round that a member is in after a turn; where it is
-- `any decided N`, the largest instance whose decision a member got; of others 0
unfoldable pub came_to : WalkOptions → Option Goal → ℕ
came_to o until = came (sight_in until) (rounds_of o until) (walked o until)
