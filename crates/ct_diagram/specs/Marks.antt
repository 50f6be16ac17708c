-- A mark for each step.
use Rattle.std.specs.Prelude.{ℕ, ◌+◌, ◌-◌, ◌==◌, nat_lt, if◌then◌else◌, List, [], ◌∷◌, ◌++◌, length, codes, decimal}
use Rattle.std.specs.Prelude.{Option, Some, None}
use Rattle.std.specs.List.{concat}
use Rattle.ct_model.specs.Actor.{actor}
use Rattle.ct_model.specs.declared.envelope.Envelope.{Envelope}
use Rattle.ct_model.specs.declared.step.Step.{Step}
use Rattle.ct_model.specs.declared.step.Step.TheVariants.{Receive, Begin, Enter, Choose, Adopt, Suspect, Conclude, Deliver}
use Rattle.ct_model.specs.declared.step.Step.TheVariants.{Follow, Crash, Postpone, Lose, Repeat}
use Rattle.ct_model.specs.Rehearsal.{Rehearsal, state_of}
use Rattle.ct_show.specs.Details.{detail_text, letter_of}
use Rattle.ct_text.specs.Standing.{estimate_of, instance_of, round_of}
use Rattle.ct_show.specs.Wires.{letter_at, round_text}
use Rattle.ct_diagram.specs.Arrows.{kind_of}
use Rattle.ct_diagram.specs.declared.drawn.Drawn.{Drawn}
use Rattle.ct_diagram.specs.declared.grid.Grid.{Grid}
use Rattle.ct_diagram.specs.declared.grid.Spot.{Spot}
use Rattle.ct_diagram.specs.declared.grid.TheConstants.{MIDDLE}
use Rattle.ct_diagram.specs.declared.sight.Sight.{Sight}
use Rattle.ct_diagram.specs.declared.sight.Sight.TheVariants.{Wide, Small, Hidden}
use Rattle.ct_diagram.specs.Grid.{spot_of}

-- ---- the sign

-- how the mark of the record's last step looks, before which so many envelopes had been sent: a Conclude that sends decides
abbrev pub class_of : Rehearsal → ℕ → Step → List ℕ
class_of w before (Conclude p) = if length (state_of w).sent == before then codes "own" else codes "decision"
class_of w before (Suspect p) = codes "alarm"
class_of w before (Crash p) = codes "alarm"
class_of w before (Deliver p) = codes "delivery"
class_of w before (Follow p) = codes "delivery"
class_of w before (Postpone p k) = codes "net"
class_of w before (Lose p k) = codes "net"
class_of w before (Repeat p k) = codes "net"
class_of w before step = codes "own"

unfoldable pub dot_text : List ℕ → Spot → ℕ → List ℕ
dot_text kind spot radius =
    concat (codes "<circle class='dot " ∷ kind ∷ codes "' cx='" ∷ decimal spot.x ∷ codes "' cy='" ∷ decimal spot.y ∷ codes "' r='"
    ∷ decimal radius ∷ codes "'/>" ∷ [])

unfoldable pub circle_text : List ℕ → Spot → List ℕ
circle_text class spot =
    concat (codes "<circle class='" ∷ class ∷ codes "' cx='" ∷ decimal spot.x ∷ codes "' cy='" ∷ decimal spot.y ∷ codes "' r='9'/>" ∷ [])

unfoldable pub letter_text : List ℕ → Spot → List ℕ
letter_text letter spot =
    concat (codes "<text x='" ∷ decimal spot.x ∷ codes "' y='" ∷ decimal (spot.y + 4) ∷ codes "'>" ∷ letter ∷ codes "</text>" ∷ [])

-- the kind of what an envelope carries
abbrev pub kind_at : Option (Envelope (Unit {0})) → List ℕ
kind_at None = []
kind_at (Some e) = kind_of e.wire

-- a dot in the colour of what is received, a letter in a circle for another step
abbrev pub sign_text : Rehearsal → ℕ → Step → Spot → List ℕ
sign_text w before (Receive p k) spot = dot_text (kind_at (letter_at w k)) spot 4
sign_text w before step spot = circle_text (class_of w before step) spot ++ letter_text (letter_of step) spot

-- the kind of what a step receives, nothing where it receives nothing
abbrev pub received_kind : Rehearsal → Step → List ℕ
received_kind w (Receive p k) = kind_at (letter_at w k)
received_kind w step = []

-- what is read where the pointer rests on it
unfoldable pub who_text : ℕ → ℕ → List ℕ
who_text number p = concat (codes "<g><title>step " ∷ decimal number ∷ codes ", member " ∷ decimal p ∷ codes ": " ∷ [])

unfoldable pub title_text : Rehearsal → ℕ → ℕ → Step → List ℕ
title_text w before number step =
    concat (who_text number (actor step) ∷ detail_text w before step ∷ codes "</title>" ∷ [])

-- ---- the note beside it

unfoldable pub entered_text : Rehearsal → ℕ → Spot → List ℕ
entered_text w p spot =
    concat (codes "<text class='round' x='" ∷ decimal spot.x ∷ codes "' y='" ∷ decimal (spot.y - 20) ∷ codes "'>"
    ∷ round_text (instance_of w p) (round_of w p) ∷ codes "</text>\n" ∷ [])

-- a text begins here, which falls to the right; right of the middle it ends here, and falls to the left
unfoldable pub falling_text : ℕ → ℕ → List ℕ
falling_text x y =
    if nat_lt MIDDLE x then concat (codes "<text class='note left' x='" ∷ decimal x ∷ codes "' y='" ∷ decimal y
    ∷ codes "' transform='rotate(-18 " ∷ decimal x ∷ codes " " ∷ decimal y ∷ codes ")'>" ∷ [])
    else concat (codes "<text class='note' x='" ∷ decimal x ∷ codes "' y='" ∷ decimal y ∷ codes "' transform='rotate(18 " ∷ decimal x
    ∷ codes " " ∷ decimal y ∷ codes ")'>" ∷ [])

unfoldable pub changed_text : Rehearsal → ℕ → Spot → List ℕ
changed_text w p spot = concat (falling_text spot.x (spot.y + 26) ∷ estimate_of w p ∷ codes "</text>\n" ∷ [])

-- the round that is entered, or the estimate where it changes
abbrev pub note_text : Rehearsal → Step → Spot → List ℕ
note_text w (Enter p) spot = entered_text w p spot
note_text w (Begin p) spot = changed_text w p spot
note_text w (Choose p from) spot = changed_text w p spot
note_text w (Adopt p) spot = changed_text w p spot
note_text w step spot = []

-- ---- all of it

-- in a column
unfoldable pub mark_text : Rehearsal → Drawn → Spot → List ℕ
mark_text w drawn spot =
    concat (note_text w drawn.step spot ∷ title_text w drawn.before drawn.number drawn.step ∷ sign_text w drawn.before drawn.step spot
    ∷ codes "</g>\n" ∷ [])

-- of a receipt that changes nothing
unfoldable pub small_text : Rehearsal → Drawn → Spot → List ℕ
small_text w drawn spot =
    concat (title_text w drawn.before drawn.number drawn.step ∷ dot_text (received_kind w drawn.step) spot 2 ∷ codes "</g>\n" ∷ [])

abbrev pub sighted_text : Rehearsal → Drawn → Spot → Sight → List ℕ
sighted_text w drawn spot Wide = mark_text w drawn spot
sighted_text w drawn spot Small = small_text w drawn spot
sighted_text w drawn spot Hidden = []

-- the mark of the record's last step
abbrev pub marks : Rehearsal → Grid → Drawn → List ℕ
marks w g drawn = sighted_text w drawn (spot_of g drawn.place (actor drawn.step)) drawn.sight
