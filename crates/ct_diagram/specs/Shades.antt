-- What stands behind a step: which round each member is in, who has crashed, and the number of each fifth column's step.
use Rattle.std.specs.Prelude.{ℕ, zero, suc, ◌+◌, ◌-◌, ◌/◌, ◌%◌, ◌==◌, if◌then◌else◌, List, [], ◌∷◌, ◌++◌, codes, decimal}
use Rattle.std.specs.Prelude.{◌&&◌, Option, Some, None, option_map}
use Rattle.std.specs.List.{concat}
use Rattle.ct_model.specs.declared.phase.Phase.{Phase}
use Rattle.ct_model.specs.Rehearsal.{Rehearsal, state_of}
use Rattle.ct_model.specs.State.{is_crashed}
use Rattle.ct_names.specs.Group.{is_member}
use Rattle.ct_world.specs.World.{member_of, if_member}
use Rattle.ct_diagram.specs.declared.drawn.Drawn.{Drawn}
use Rattle.ct_diagram.specs.declared.grid.Grid.{Grid}
use Rattle.ct_diagram.specs.declared.grid.Spot.{Spot}
use Rattle.ct_diagram.specs.declared.grid.TheConstants.{COLUMN}
use Rattle.ct_diagram.specs.Sight.{is_wide}
use Rattle.ct_diagram.specs.Grid.{spot_of, within}

abbrev pub round_class : Option (ℕ × Phase) → Option (List ℕ)
round_class None = None
round_class (Some r) = Some (if r.0 == 0 then codes "rest" else (if r.0 % 2 == 1 then codes "odd" else codes "even"))

-- how the part of p is shaded, if it is
unfoldable pub class_of : Rehearsal → ℕ → Option (List ℕ)
class_of w p =
    if is_member w.setting.members p && is_crashed (state_of w) p then Some (codes "down")
    else round_class (if_member w p (option_map (λ c. (c.round, c.phase)) (member_of w p).current))

unfoldable pub rect_text : List ℕ → Spot → List ℕ
rect_text class spot =
    concat (codes "<rect class='" ∷ class ∷ codes "' x='" ∷ decimal (spot.x - COLUMN / 2) ∷ codes "' y='" ∷ decimal (spot.y - 16)
    ∷ codes "'/>\n" ∷ [])

abbrev pub shade_text : Option (List ℕ) → Spot → List ℕ
shade_text None spot = []
shade_text (Some class) spot = rect_text class spot

-- the shades of the first members after the record's last step
abbrev pub first_shades : Rehearsal → Grid → ℕ → ℕ → List ℕ
first_shades w g place zero = []
first_shades w g place (suc k) = first_shades w g place k ++ shade_text (class_of w (suc k)) (spot_of g place (suc k))

-- a line from above the members to below the last of them
unfoldable pub rule_text : Spot → Spot → List ℕ
rule_text top low =
    concat (codes "<path class='grid' d='M" ∷ decimal top.x ∷ codes " " ∷ decimal (top.y + 46) ∷ codes "V" ∷ decimal (low.y + 44)
    ∷ codes "'/>\n" ∷ [])

-- a number at a place
unfoldable pub digits_text : ℕ → ℕ → ℕ → List ℕ
digits_text number x y =
    concat (codes "<text class='number' x='" ∷ decimal x ∷ codes "' y='" ∷ decimal y ∷ codes "'>" ∷ decimal number ∷ codes "</text>\n" ∷ [])

-- the line, and the number at both its ends
unfoldable pub this_number : ℕ → Spot → Spot → List ℕ
this_number number top low =
    concat (rule_text top low ∷ digits_text number top.x (top.y + 42) ∷ digits_text number top.x (low.y + 56) ∷ [])

-- that of the step of each fifth column of a row
abbrev pub number_text : Grid → ℕ → ℕ → List ℕ
number_text g number place =
    if within g place / 2 % 5 == 0 then this_number number (spot_of g place 0) (spot_of g place g.n) else []

-- all that stands behind the record's last step, where it has a column
abbrev pub shades : Rehearsal → Grid → Drawn → List ℕ
shades w g drawn =
    if is_wide drawn.sight then first_shades w g drawn.place w.setting.members ++ number_text g drawn.number drawn.place else []
