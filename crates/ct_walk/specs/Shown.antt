-- What walks show.
use Rattle.std.specs.Prelude.{Bool, true, Option, Some, None}
use Rattle.ct_grammar.specs.declared.goal.Goal.{Goal}
use Rattle.ct_model.specs.Rehearsal.{Rehearsal}
use Rattle.ct_play.specs.Goals.{is_shown, uncut}

-- the record of a walk shows the goal, where one is looked for
abbrev pub is_shown_by : Option Goal → Rehearsal → Bool
is_shown_by until w = is_shown until (uncut w)

-- the same; where none is looked for, nothing is missing
abbrev pub is_reached : Option Goal → Rehearsal → Bool
is_reached None w = true
is_reached (Some goal) w = is_shown_by (Some goal) w
