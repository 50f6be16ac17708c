-- The lines of envelopes.
use Rattle.std.specs.Prelude.{ℕ, ◌+◌, ◌-◌, ◌*◌, ◌/◌, ◌==◌, Bool, ◌||◌, nat_lt, if◌then◌else◌, List, [], ◌∷◌, codes, decimal}
use Rattle.std.specs.Prelude.{Option, Some, None}
use Rattle.std.specs.List.{concat}
use Rattle.ct_diagram.specs.declared.grid.Grid.{Grid}
use Rattle.ct_diagram.specs.declared.grid.Spot.{Spot}
use Rattle.ct_diagram.specs.declared.grid.TheConstants.{LEFT}
use Rattle.ct_diagram.specs.Grid.{half_columns, lane, right_of, row_of, spot_of, top_of, within}

-- in one row; a member's own over its line
unfoldable pub straight_text : Bool → Spot → Spot → List ℕ
straight_text is_own from to =
    if is_own then concat (codes "M" ∷ decimal from.x ∷ codes " " ∷ decimal from.y ∷ codes " Q" ∷ decimal ((from.x + to.x) / 2) ∷ codes " "
    ∷ decimal (from.y - 30) ∷ codes " " ∷ decimal to.x ∷ codes " " ∷ decimal to.y ∷ [])
    else concat (codes "M" ∷ decimal from.x ∷ codes " " ∷ decimal from.y ∷ codes " L" ∷ decimal to.x ∷ codes " " ∷ decimal to.y ∷ [])

-- where a line from one member to another stands at an edge of a row, after so many half columns of all that it goes over;
-- a member's own stands over the member's
unfoldable pub edge_height : Grid → ℕ → (from to gone whole : ℕ) → ℕ
edge_height g row from to gone whole =
    if (from == to) || (whole == 0) then top_of g row + (lane g * from - 14)
    else top_of g row + (lane g * from * (whole - gone) + lane g * to * gone) / whole

-- from a row to a later one: out at the right edge of the one, in at the left edge of the other
unfoldable pub over_text : Grid → (from to begun place : ℕ) → List ℕ
over_text g from to begun place =
    let whole = place - begun in
    let out = half_columns g * (row_of g begun + 1) - begun in
    concat (codes "M" ∷ decimal (spot_of g begun from).x ∷ codes " " ∷ decimal (spot_of g begun from).y ∷ codes " L" ∷ decimal (right_of g)
    ∷ codes " " ∷ decimal (edge_height g (row_of g begun) from to out whole) ∷ codes " M" ∷ decimal LEFT ∷ codes " "
    ∷ decimal (edge_height g (row_of g place) from to (whole - within g place) whole) ∷ codes " L" ∷ decimal (spot_of g place to).x
    ∷ codes " " ∷ decimal (spot_of g place to).y ∷ [])

-- from the left edge
unfoldable pub left_text : Grid → (from to place : ℕ) → List ℕ
left_text g from to place =
    concat (codes "M" ∷ decimal LEFT ∷ codes " " ∷ decimal (edge_height g (row_of g place) from to 0 1) ∷ codes " L"
    ∷ decimal (spot_of g place to).x ∷ codes " " ∷ decimal (spot_of g place to).y ∷ [])

-- to a place of the second member, from one of the first, or from the left edge where it began before the window
abbrev pub route_text : Grid → Option ℕ → (from to place : ℕ) → List ℕ
route_text g None from to place = left_text g from to place
route_text g (Some begun) from to place =
    if row_of g begun == row_of g place then straight_text (from == to) (spot_of g begun from) (spot_of g place to)
    else over_text g from to begun place

-- ---- only the beginning of a line

-- how far it goes up or down towards a member so many lines away
abbrev pub reach : ℕ → ℕ
reach lines = 12 + 3 * (if nat_lt lines 5 then lines else 5)

-- how low it ends, from one member at y towards another, or up
unfoldable pub stub_end : (from to y : ℕ) → ℕ
stub_end from to y =
    if nat_lt to from then y - reach (from - to) else (if nat_lt from to then y + reach (to - from) else y - 14)

unfoldable pub stub_text : (from to : ℕ) → Spot → List ℕ
stub_text from to spot =
    concat (codes "M" ∷ decimal spot.x ∷ codes " " ∷ decimal spot.y ∷ codes " L" ∷ decimal (spot.x + 14) ∷ codes " "
    ∷ decimal (stub_end from to spot.y) ∷ [])
