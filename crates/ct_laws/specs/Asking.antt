-- Turns of a walk that are asked for one by one, and done.
use Rattle.std.specs.Prelude.{ℕ, zero, suc, Some}
use Rattle.ct_model.specs.Rehearsal.{Rehearsal}
use Rattle.ct_choices.specs.Choices.{after_try}
use Rattle.ct_walk.specs.declared.turn.Turn.{Turn}
use Rattle.ct_walk.specs.declared.turn.Turn.TheVariants as turn
use Rattle.ct_walk.specs.Turns.{Turning, after_turn_of, turn_of}

-- the record after what is told is done, where it is allowed
abbrev pub after_told : Turn → Rehearsal → Rehearsal
after_told turn.Rest w = w
after_told turn.Over w = w
after_told (turn.Step step) w = after_try w (Some step)

-- the record after so many turns are asked for, each of which is done, where it is allowed, before the next one
unfoldable pub asked_for : ℕ → Turning → Rehearsal → Rehearsal
asked_for zero t w = w
asked_for (suc n) t w = asked_for n (after_turn_of t w) (after_told (turn_of t w) w)
