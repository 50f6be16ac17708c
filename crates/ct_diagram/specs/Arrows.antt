-- An arrow for each envelope that is received or lost, and the beginning of one for each other.
use Rattle.std.specs.Prelude.{ℕ, zero, suc, ◌+◌, ◌-◌, Bool, if◌then◌else◌, List, [], ◌∷◌, ◌++◌, length}
use Rattle.std.specs.Prelude.{codes, decimal, Option, Some, None, unwrap_or}
use Rattle.std.specs.List.{concat}
use Rattle.ct_model.specs.Actor.{actor}
use Rattle.ct_model.specs.declared.envelope.Envelope.{Envelope}
use Rattle.ct_model.specs.declared.step.Step.{Step}
use Rattle.ct_model.specs.declared.step.Step.TheVariants.{Lose, Repeat}
use Rattle.ct_model.specs.declared.wire.Wire.{Wire}
use Rattle.ct_model.specs.declared.wire.Wire.TheVariants.{Data, Est, Prop, Ack, Nack, Dec}
use Rattle.ct_model.specs.Rehearsal.{Rehearsal}
use Rattle.ct_model.specs.State.{at_serial}
use Rattle.ct_show.specs.Wires.{letter_at, serial_text}
use Rattle.ct_diagram.specs.declared.drawn.Drawn.{Drawn}
use Rattle.ct_diagram.specs.declared.grid.Grid.{Grid}
use Rattle.ct_diagram.specs.declared.window.Window.{Window}
use Rattle.ct_diagram.specs.Grid.{spot_of}
use Rattle.ct_diagram.specs.Routes.{route_text, stub_text}
use Rattle.ct_diagram.specs.Trail.{is_taken, origin, returned, taken}
use Rattle.ct_diagram.specs.Window.{is_sent_asked}

-- ---- an envelope

-- the member whose step sent the envelope of a serial, 0 where it was not sent
abbrev pub sender_at : List ℕ → ℕ → ℕ
sender_at senders k = unwrap_or (at_serial senders k) 0

-- the kind of what is carried
abbrev pub kind_of : Wire (Unit {0}) → List ℕ
kind_of (Data m) = codes "data"
kind_of (Est k r p v ts) = codes "est"
kind_of (Prop k r v) = codes "prop"
kind_of (Ack k r p) = codes "ack"
kind_of (Nack k r p) = codes "nack"
kind_of (Dec k r v) = codes "dec"

-- how its line looks: by its kind, and more
unfoldable pub opening_text : List ℕ → List ℕ → List ℕ
opening_text kind more = concat (codes "<path class='" ∷ kind ∷ more ∷ codes "' d='" ∷ [])

-- what it carries, who sent it, and to whom
unfoldable pub who_text : Rehearsal → (k sender to : ℕ) → List ℕ
who_text w k sender to =
    concat (codes "'><title>" ∷ serial_text w k ∷ codes ", sent by " ∷ decimal sender ∷ codes " to " ∷ decimal to ∷ [])

-- ---- where it begins: at a step of the window, or before its first one

abbrev pub begun_at : Option Drawn → Option ℕ
begun_at None = None
begun_at (Some d) = Some d.place

-- at which member: an envelope that is repeated begins at its receiver
abbrev pub begun_by : Option Drawn → ℕ → ℕ
begun_by None sender = sender
begun_by (Some d) sender = actor d.step

abbrev pub begun_word : Step → List ℕ
begun_word (Repeat p k) = codes ", repeated"
begun_word step = []

unfoldable pub begun_in : Drawn → List ℕ
begun_in d = concat (begun_word d.step ∷ codes " in step " ∷ decimal d.number ∷ [])

unfoldable pub before_text : ℕ → List ℕ
before_text first = concat (codes " before step " ∷ decimal first ∷ [])

abbrev pub begun_text : ℕ → Option Drawn → List ℕ
begun_text first None = before_text first
begun_text first (Some d) = begun_in d

-- ---- where it ends: at the step that takes it out of its line

-- how the arrow looks besides: it ends at what is lost, or at a receipt that changes nothing
abbrev pub end_class : Step → Bool → List ℕ
end_class (Lose p k) quiet = codes " lost"
end_class step quiet = if quiet then codes " late" else []

abbrev pub end_word : Step → List ℕ
end_word (Lose p k) = codes "lost"
end_word step = codes "received"

unfoldable pub end_text : Drawn → List ℕ
end_text d = concat (codes "; " ∷ end_word d.step ∷ codes " in step " ∷ decimal d.number ∷ codes "</title></path>\n" ∷ [])

-- ---- the arrow to a step

abbrev pub grid_of : Rehearsal → Window → Grid
grid_of w window = record { n = w.setting.members; columns = window.columns }

-- from where it begins to a place of its receiver
abbrev pub way_text : Rehearsal → Window → ℕ → Option Drawn → (to place : ℕ) → List ℕ
way_text w window sender begun to place = route_text (grid_of w window) (begun_at begun) (begun_by begun sender) to place

-- of the envelope of serial k
unfoldable pub arrow_text : Rehearsal → Window → ℕ → Option Drawn → Drawn → ℕ → Envelope (Unit {0}) → List ℕ
arrow_text w window sender begun drawn k e =
    concat (opening_text (kind_of e.wire) (end_class drawn.step drawn.is_quiet) ∷ way_text w window sender begun e.to drawn.place
    ∷ who_text w k sender e.to ∷ begun_text window.from begun ∷ end_text drawn ∷ [])

-- the envelope of serial k, where it is asked for, with the member whose step sent it
abbrev pub asked : Window → List ℕ → ℕ → Option (Envelope (Unit {0})) → Option (ℕ × Envelope (Unit {0}))
asked window senders k None = None
asked window senders k (Some e) =
    if is_sent_asked window (sender_at senders k) e.to e.wire then Some (sender_at senders k, e) else None

abbrev pub arrow_of : Rehearsal → Window → List Drawn → Drawn → ℕ → Option (ℕ × Envelope (Unit {0})) → List ℕ
arrow_of w window trail drawn k None = []
arrow_of w window trail drawn k (Some sent) = arrow_text w window sent.0 (origin trail k) drawn k sent.1

-- where it is asked for
abbrev pub arrow_at : Rehearsal → Window → List ℕ → List Drawn → Drawn → ℕ → Option (Envelope (Unit {0})) → List ℕ
arrow_at w window senders trail drawn k e = arrow_of w window trail drawn k (asked window senders k e)

abbrev pub taken_text : Rehearsal → Window → List ℕ → List Drawn → Drawn → Option ℕ → List ℕ
taken_text w window senders trail drawn None = []
taken_text w window senders trail drawn (Some k) = arrow_at w window senders trail drawn k (letter_at w k)

-- ---- the beginnings of arrows that no later step ends

-- the beginning of a line to a member
abbrev pub short_text : Rehearsal → Window → Drawn → ℕ → List ℕ
short_text w window drawn to = stub_text (actor drawn.step) to (spot_of (grid_of w window) drawn.place (actor drawn.step))

-- how far it was not received
unfoldable pub last_text : ℕ → List ℕ
last_text last = concat (codes "; not received up to step " ∷ decimal last ∷ codes "</title></path>\n" ∷ [])

unfoldable pub stub_arrow : Rehearsal → Window → ℕ → Drawn → (last k : ℕ) → Envelope (Unit {0}) → List ℕ
stub_arrow w window sender drawn last k e =
    concat (opening_text (kind_of e.wire) (codes " stub") ∷ short_text w window drawn e.to ∷ who_text w k sender e.to ∷ begun_in drawn
    ∷ last_text last ∷ [])

abbrev pub stub_of : Rehearsal → Window → Drawn → List Step → ℕ → Option (ℕ × Envelope (Unit {0})) → List ℕ
stub_of w window drawn later k None = []
stub_of w window drawn later k (Some sent) =
    if is_taken later k then [] else stub_arrow w window sent.0 drawn (drawn.number + length later) k sent.1

-- where it is asked for, and none of the later steps takes it out of its line
abbrev pub stub_at : Rehearsal → Window → List ℕ → Drawn → List Step → ℕ → Option (Envelope (Unit {0})) → List ℕ
stub_at w window senders drawn later k e = stub_of w window drawn later k (asked window senders k e)

-- that of the envelope that the step puts back
abbrev pub returned_text : Rehearsal → Window → List ℕ → Drawn → List Step → Option ℕ → List ℕ
returned_text w window senders drawn later None = []
returned_text w window senders drawn later (Some k) = stub_at w window senders drawn later k (letter_at w k)

-- one for each of so many serials after those that had been sent before
abbrev pub first_stubs : Rehearsal → Window → List ℕ → Drawn → List Step → ℕ → List ℕ
first_stubs w window senders drawn later zero = []
first_stubs w window senders drawn later (suc k) =
    first_stubs w window senders drawn later k
    ++ stub_at w window senders drawn later (drawn.before + suc k) (letter_at w (drawn.before + suc k))

-- ---- all of it

-- at the record's last step, before which these were drawn; the later steps are drawn after it
abbrev pub arrows : Rehearsal → Window → List ℕ → List Drawn → Drawn → List Step → List ℕ
arrows w window senders trail drawn later =
    taken_text w window senders trail drawn (taken drawn.step)
    ++ (returned_text w window senders drawn later (returned drawn.step)
    ++ first_stubs w window senders drawn later (drawn.sent - drawn.before))
