-- Where places and members stand in a diagram. A place is counted in half columns, from the left edge of the first row on, as if all
-- rows were one.
use Rattle.std.specs.Prelude.{ℕ, ◌+◌, ◌-◌, ◌*◌, ◌/◌, ◌==◌, nat_le, if◌then◌else◌}
use Rattle.ct_diagram.specs.declared.grid.Grid.{Grid}
use Rattle.ct_diagram.specs.declared.grid.Spot.{Spot}
use Rattle.ct_diagram.specs.declared.grid.TheConstants.{COLUMN, FEW, GAP, LANE, LEFT, LOW_LANE}

-- how many half columns a row has
abbrev pub half_columns : Grid → ℕ
half_columns g = if g.columns == 0 then 2 else 2 * g.columns

-- the row of a place, counted from 0; what stands at the end of a row belongs to it
abbrev pub row_of : Grid → ℕ → ℕ
row_of g place = (place - 1) / half_columns g

-- how many half columns of its row stand before a place
abbrev pub within : Grid → ℕ → ℕ
within g place = place - half_columns g * row_of g place

-- from a member to the next one
abbrev pub lane : Grid → ℕ
lane g = if nat_le g.n FEW then LANE else LOW_LANE

-- the height of a row, and how much higher than its first row a row stands
abbrev pub height : Grid → ℕ
height g = lane g * g.n + GAP

abbrev pub top_of : Grid → ℕ → ℕ
top_of g row = row * height g

-- the right edge of a row
abbrev pub right_of : Grid → ℕ
right_of g = LEFT + COLUMN / 2 * half_columns g

-- the point of a place on the line of p
abbrev pub spot_of : Grid → ℕ → ℕ → Spot
spot_of g place p = record {
  x = LEFT + COLUMN / 2 * within g place;
  y = top_of g (row_of g place) + lane g * p;
}
