-- What a member does not see of a group that is cut.
use Rattle.std.specs.Prelude.{ℕ, Bool, true, List, Option, Some, None, find, option_map, if◌then◌else◌}
use Rattle.ct_model.specs.declared.step.Step.{Step}
use Rattle.ct_model.specs.declared.step.Step.TheVariants.{Receive}
use Rattle.ct_grammar.specs.Sides.{together}
use Rattle.ct_play.specs.Picking.{sender_of, waiting_at}
use Rattle.ct_play.specs.Played.{Played}
use Rattle.ct_play.specs.declared.line_fault.LineFault.{LineFault}
use Rattle.ct_play.specs.declared.line_fault.LineFault.TheVariants.{Across}

-- the sender is on p's side
abbrev pub is_beside : List ℕ → ℕ → Option ℕ → Bool
is_beside sides p None = true
is_beside sides p (Some q) = together sides p q

-- the envelope of a serial was sent on p's side
unfoldable pub is_near : Played → ℕ → ℕ → Bool
is_near s p k = is_beside s.sides p (sender_of s.rehearsal k)

-- the first serial that waits at p and was sent on its side
unfoldable pub first_near : Played → ℕ → Option ℕ
first_near s p = find (is_near s p) (waiting_at s.rehearsal p)

-- the step that a driver tries, where it sees nothing of the other sides
abbrev pub near : Played → Option Step → Option Step
near s (Some (Receive p k)) = option_map (Receive p) (first_near s p)
near s step = step

-- why the cut forbids a step: it is a receipt from another side
abbrev pub barred : Played → Step → Option LineFault
barred s (Receive p k) = if is_near s p k then None else Some (Across p k)
barred s _ = None
