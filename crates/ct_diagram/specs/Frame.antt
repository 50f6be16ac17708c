-- What stands around the steps: how things look, the members' lines, and what the signs mean. The columns end at a place.
use Rattle.std.specs.Prelude.{ℕ, zero, suc, ◌+◌, ◌*◌, ◌/◌, max, nat_lt, if◌then◌else◌, List, [], ◌∷◌, ◌++◌, codes, decimal}
use Rattle.std.specs.List.{concat}
use Rattle.ct_show.specs.declared.details.TheConstants.{LETTERS, OTHER_LETTERS}
use Rattle.ct_diagram.specs.declared.frame.TheConstants.{STYLE, LINES, SHADES}
use Rattle.ct_diagram.specs.declared.grid.Grid.{Grid}
use Rattle.ct_diagram.specs.declared.grid.TheConstants.{COLUMN, LEAST_WIDTH, LEFT}
use Rattle.ct_diagram.specs.Grid.{height, lane, right_of, row_of, top_of, within}

-- where the lines of a row end
abbrev pub row_end : Grid → (end row : ℕ) → ℕ
row_end g end row = if nat_lt row (row_of g end) then right_of g else LEFT + COLUMN / 2 * within g end

-- room for the columns, and for what the signs mean
abbrev pub width : Grid → ℕ → ℕ
width g end = max (row_end g end 0 + 30) LEAST_WIDTH

-- how low what the signs mean begins, below all rows
abbrev pub low : Grid → ℕ → ℕ
low g end = (row_of g end + 1) * height g + 30

-- a picture of this width and height
unfoldable pub sizes_text : ℕ → ℕ → List ℕ
sizes_text wide high =
    concat (codes "<svg xmlns='http://www.w3.org/2000/svg' width='" ∷ decimal wide ∷ codes "' height='" ∷ decimal high
    ∷ codes "' viewBox='0 30 " ∷ decimal wide ∷ codes " " ∷ decimal high ∷ codes "'>\n" ∷ [])

-- its sizes, and how things look
abbrev pub head_text : Grid → ℕ → List ℕ
head_text g end = sizes_text (width g end) (low g end + 32) ++ STYLE.now

-- the name of a member
unfoldable pub name_text : ℕ → ℕ → List ℕ
name_text p y = concat (codes "<text class='name' x='6' y='" ∷ decimal (y + 4) ∷ codes "'>member " ∷ decimal p ∷ codes "</text>\n" ∷ [])

-- its line
unfoldable pub line_text : ℕ → ℕ → List ℕ
line_text y right =
    concat (codes "<path class='lane' d='M" ∷ decimal LEFT ∷ codes " " ∷ decimal y ∷ codes "H" ∷ decimal right ∷ codes "'/>\n" ∷ [])

abbrev pub lane_text : (p y right : ℕ) → List ℕ
lane_text p y right = name_text p y ++ line_text y right

-- those of the first members of a row
abbrev pub row_text : Grid → (row right : ℕ) → ℕ → List ℕ
row_text g row right zero = []
row_text g row right (suc k) = row_text g row right k ++ lane_text (suc k) (top_of g row + lane g * suc k) right

-- the first rows
abbrev pub rows_text : Grid → ℕ → ℕ → List ℕ
rows_text g end zero = []
rows_text g end (suc k) = rows_text g end k ++ row_text g k (row_end g end k) g.n

-- what the signs mean, at this height
unfoldable pub below_text : ℕ → List ℕ
below_text low = concat (codes "<g transform='translate(12 " ∷ decimal low ∷ codes ")'>\n" ∷ [])

unfoldable pub legend_text : List ℕ
legend_text =
    concat (LINES.now ∷ codes "<text class='legend' x='0' y='18'>Steps: " ∷ LETTERS.now
    ∷ codes ",</text>\n<text class='legend' x='0' y='32'>" ∷ OTHER_LETTERS.now ∷ codes ".\n " ∷ SHADES.now ∷ [])

-- what they mean, below the rows, and the end
abbrev pub foot_text : Grid → ℕ → List ℕ
foot_text g end = below_text (low g end) ++ legend_text
