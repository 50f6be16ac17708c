-- The options and the turns of walks, by numbers, as bindings/ct.h has them.
use Rattle.std.specs.Prelude.{◌≤◌, Option, Some}
use Rattle.ct_model.specs.Rehearsal.{Rehearsal}
use Rattle.ct_program.specs.declared.free_options.FreeOptions.{FreeOptions}
use Rattle.ct_walk.specs.Options.{IsInRange}
use Rattle.ct_walk.specs.Turns.{Turning, turn_of, after_turn_of}
use Rattle.ct_walk.specs.declared.options.WalkOptions.{WalkOptions}
use Rattle.ct_walk.specs.declared.turn.Turn.{Turn}
use Rattle.ct_walk.specs.declared.turn.Turn.TheVariants.{Step, Rest, Over}
use Rattle.ct_embed.specs.declared.options_code.OptionsCode.{OptionsCode}
use Rattle.ct_embed.specs.declared.turn_code.TurnCode.{TurnCode}
use Rattle.ct_embed.specs.StepCodes.{no_code, step_code}

-- the options of these numbers, of those that a free run has too, and of a walk
abbrev pub run_of : OptionsCode → FreeOptions
run_of c = record {
  members = c.members;
  turns = c.turns;
  seed = c.seed;
  rate = c.rate;
  cells = c.cells;
  submit = c.submit;
  crash = c.crash;
  postpone = c.postpone;
  lose = c.lose;
  repeat = c.repeat;
  batch = c.batch;
}

abbrev pub options_of : OptionsCode → WalkOptions
options_of c =
    record { run = run_of c; every = c.every; scatter = c.scatter; lasting = c.lasting; crashes = c.crashes; cuts = c.cut }

-- each option is in its range, and the member that crashes is one of the group
pub record IsWalk (o : WalkOptions) : Type 0 where
  pub range : IsInRange o
  pub crash : o.run.crash ≤ o.run.members

-- ---- the numbers of a turn

abbrev pub turn_code : Turn → TurnCode
turn_code (Step step) = record { step = step_code step; kind = 1 }
turn_code Rest = record { step = no_code; kind = 2 }
turn_code Over = record { step = no_code; kind = 3 }

-- the numbers of no turn
abbrev pub no_turn : TurnCode
no_turn = record { step = no_code; kind = 0 }

-- what a walk tries next in the world of this record, and the walk then; there is no turn where one of both is closed
abbrev pub turn_told : Option Turning → Option Rehearsal → TurnCode
turn_told (Some w) (Some r) = turn_code (turn_of w r)
turn_told w r = no_turn

abbrev pub walk_after : Option Turning → Option Rehearsal → Option Turning
walk_after (Some w) (Some r) = Some (after_turn_of w r)
walk_after w r = w
