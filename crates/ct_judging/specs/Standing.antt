-- Where a schedule stands.
use Rattle.std.specs.Prelude.{ℕ, ◌&&◌, nat_le, Option, Some, None, Result, Ok, Err, is_some, if◌then◌else◌}
use Rattle.ct_names.specs.declared.limit.TheConstants.{MAX_BOUND, MAX_CELLS, MAX_MEMBERS}
use Rattle.ct_model.specs.Rehearsal.{Rehearsal, empty}
use Rattle.ct_grammar.specs.declared.given.Given.{Given}
use Rattle.ct_grammar.specs.declared.given.Given.TheVariants.{Members, Cells, Batch}
use Rattle.ct_grammar.specs.Sides.{whole}
use Rattle.ct_play.specs.Played.{Played}
use Rattle.ct_judging.specs.declared.heading.Heading.{Heading}
use Rattle.ct_judging.specs.declared.heading.TheConstants.{USUAL_CELLS}
use Rattle.ct_play.specs.declared.line_fault.LineFault.{LineFault}
use Rattle.ct_play.specs.declared.line_fault.LineFault.TheVariants.{NotUnderstood, NoMembers, Settled}

-- the numbers of the group, and the record and the sides of the members, once the world is made
pub record Standing : Type 0 where
  pub heading : Heading
  pub played : Option Played

-- nothing is given yet
unfoldable pub start : Standing
start = record { heading = record { group = None; cells = USUAL_CELLS; batch = MAX_BOUND }; played = None }

-- ---- the heading

-- the same with another number, where it is of its range
abbrev pub with_members : Heading → ℕ → Option Heading
with_members h n = if nat_le 1 n && nat_le n MAX_MEMBERS then Some (record h { group = Some n }) else None

abbrev pub with_cells : Heading → ℕ → Option Heading
with_cells h k = if nat_le k MAX_CELLS then Some (record h { cells = k }) else None

abbrev pub with_batch : Heading → ℕ → Option Heading
with_batch h b = if nat_le 1 b && nat_le b MAX_BOUND then Some (record h { batch = b }) else None

-- the same with this number of the group
abbrev pub given_in : Heading → Given → Option Heading
given_in h (Members n) = with_members h n
given_in h (Cells k) = with_cells h k
given_in h (Batch b) = with_batch h b

-- after a line of the heading: it is refused once the world is made
abbrev pub headed : Standing → Option Heading → Result Standing LineFault
headed s None = Err NotUnderstood
headed s (Some h) = if is_some s.played then Err Settled else Ok (record s { heading = h })

-- ---- the world

-- nothing is played yet in a world that is made of this, in a group of so many
abbrev pub made_with : Heading → ℕ → Played
made_with h n = record { rehearsal = empty (record { members = n; bound = h.batch }) h.cells; sides = whole }

-- the world that is made of the heading, whose group is this
abbrev pub made_of : Heading → Option ℕ → Result Played LineFault
made_of h None = Err NoMembers
made_of h (Some n) = Ok (made_with h n)

-- the world, which is made of the heading where there is none yet
abbrev pub played_or_made : Heading → Option Played → Result Played LineFault
played_or_made h None = made_of h h.group
played_or_made h (Some w) = Ok w

unfoldable pub played_of : Standing → Result Played LineFault
played_of s = played_or_made s.heading s.played

-- the record alone
abbrev pub record_in : Result Played LineFault → Result Rehearsal LineFault
record_in (Ok w) = Ok w.rehearsal
record_in (Err fault) = Err fault

abbrev pub world_of : Standing → Result Rehearsal LineFault
world_of s = record_in (played_of s)
