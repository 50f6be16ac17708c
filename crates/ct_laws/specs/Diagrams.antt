-- The arrows of a diagram: the envelopes that they stand for, and the steps that they go from and to.
use Rattle.std.specs.Prelude.{◌≡◌, ◌<◌, ◌≤◌, ℕ, ◌-◌, ◌==◌, Bool, true, false, ◌&&◌, ◌||◌, nat_lt, nat_le, List, [], ◌∷◌, ◌++◌, length, map}
use Rattle.std.specs.Prelude.{Option, Some, None, find, is_some}
use Rattle.std.specs.List.{concat}
use Rattle.std.specs.Option.{option_map_or}
use Rattle.ct_names.specs.Membership.{IsIn, IsWithoutRepeats}
use Rattle.ct_model.specs.Actor.{actor}
use Rattle.ct_model.specs.Rehearsal.{Rehearsal, state_of}
use Rattle.ct_model.specs.Senders.{senders}
use Rattle.ct_model.specs.State.{at_serial}
use Rattle.ct_model.specs.declared.envelope.Envelope.{Envelope}
use Rattle.ct_model.specs.declared.step.Step.{Step}
use Rattle.ct_world.specs.Replay.{first_steps}
use Rattle.ct_show.specs.Facts.{returns, takes}
use Rattle.ct_show.specs.Wires.{letter_at}
use Rattle.ct_diagram.specs.Arrows.{arrow_text, asked, grid_of, stub_arrow}
use Rattle.ct_diagram.specs.Diagram.{diagram_text, framed_text, marks_layer, shades_layer, whole_layer, whole_trail}
use Rattle.ct_diagram.specs.Grid.{spot_of}
use Rattle.ct_diagram.specs.Routes.{route_text, stub_text}
use Rattle.ct_diagram.specs.Trail.{place_after}
use Rattle.ct_diagram.specs.Window.{is_drawn}
use Rattle.ct_diagram.specs.declared.window.Window.{Window}

-- ---- the steps of a record, by their numbers, of which the first is 1

-- how many envelopes the first steps sent
abbrev pub sent_by : Rehearsal → ℕ → ℕ
sent_by w n = length (state_of (first_steps w.setting w.cells w.steps n)).sent

-- the step receives or loses the envelope of a serial
abbrev pub takes_at : Rehearsal → (number serial : ℕ) → Bool
takes_at w n k = option_map_or (λ step. takes step k) (at_serial w.steps n) false

-- it repeats the envelope, or sends it
abbrev pub puts_at : Rehearsal → (number serial : ℕ) → Bool
puts_at w n k =
    option_map_or (λ step. returns step k) (at_serial w.steps n) false || (nat_lt (sent_by w (n - 1)) k && nat_le k (sent_by w n))

-- ---- arrows

-- an arrow, or the beginning of one: the serial of its envelope, the member whose step sent that, what was sent, the number of the step
-- that it goes from, unless that came before the window, and of the one that it goes to, if any
pub record Arrow : Type 0 where
  pub serial : ℕ
  pub sender : ℕ
  pub envelope : Envelope (Unit {0})
  pub from : Option ℕ
  pub to : Option ℕ

-- the first step behind a number that receives or loses the envelope; or none does
abbrev pub IsEnd : Rehearsal → (serial after : ℕ) → Option ℕ → Type 0
IsEnd w k after (Some n) =
    (after < n) × (takes_at w n k ≡ true) × ((m : ℕ) → after < m → m < n → takes_at w m k ≡ false)
IsEnd w k after None = (m : ℕ) → after < m → takes_at w m k ≡ false

-- from a step of the window that sends or repeats the envelope to where it ends behind that; or, of one that was sent before the window,
-- to the first step of the window that receives or loses it, where none of the window's before that repeats it
abbrev pub IsWay : Window → Rehearsal → (serial : ℕ) → (from to : Option ℕ) → Type 0
IsWay window w k (Some n) to = (is_drawn window n ≡ true) × (puts_at w n k ≡ true) × IsEnd w k n to
IsWay window w k None (Some n) =
    (is_drawn window n ≡ true) × (k ≤ sent_by w (window.from - 1)) × (takes_at w n k ≡ true)
    × ((m : ℕ) → window.from ≤ m → m < n → (takes_at w m k ≡ false) × (puts_at w m k ≡ false))
IsWay window w k None None = ⊥

-- the envelope of a serial, where it is asked for, with the member whose step sent it
abbrev pub wanted : Window → Rehearsal → ℕ → Option (ℕ × Envelope (Unit {0}))
wanted window w k = asked window (senders w.setting w.steps) k (letter_at w k)

-- an arrow of an envelope that is asked for
pub record IsArrow (window : Window) (w : Rehearsal) (a : Arrow) : Type 0 where
  pub envelope : wanted window w a.serial ≡ Some (a.sender, a.envelope)
  pub way : IsWay window w a.serial a.from a.to

-- ---- the columns

-- the type of the items of a list that is made of two things
abbrev pub ItemOf : {A B C : Type 0} → (A → B → List C) → Type 0
ItemOf {A} {B} {C} list = C

-- what a diagram has of a step of the window
abbrev pub Drawn : Type 0
Drawn = ItemOf whole_trail

-- such a step, with its number, how many envelopes had been sent before it, and how many after it
pub record IsStepOf (window : Window) (w : Rehearsal) (d : Drawn) : Type 0 where
  pub drawn : is_drawn window d.number ≡ true
  pub step : at_serial w.steps d.number ≡ Some d.step
  pub before : d.before ≡ sent_by w (d.number - 1)
  pub sent : d.sent ≡ sent_by w d.number

-- it stands behind the columns of those of the window's steps that come before it
pub record HasColumn (trail : List Drawn) (d : Drawn) : Type 0 where
  pub earlier : List Drawn
  pub later : List Drawn
  pub all : trail ≡ earlier ++ d ∷ later
  pub place : d.place ≡ place_after earlier d.sight

-- the window's steps, one for each of its numbers that the record has, in their columns
pub record HasSteps (window : Window) (w : Rehearsal) : Type 0 where
  pub each : (d : Drawn) → IsIn d (whole_trail window w) → IsStepOf window w d
  pub all : (n : ℕ) (step : Step) → is_drawn window n ≡ true → at_serial w.steps n ≡ Some step →
      (d : Drawn) × IsIn d (whole_trail window w) × (d.number ≡ n)
  pub one : (d e : Drawn) → IsIn d (whole_trail window w) → IsIn e (whole_trail window w) → d.number ≡ e.number → d ≡ e
  pub columns : (d : Drawn) → IsIn d (whole_trail window w) → HasColumn (whole_trail window w) d

-- the one of a number
abbrev pub drawn_of : Window → Rehearsal → Option ℕ → Option Drawn
drawn_of window w None = None
drawn_of window w (Some n) = find (λ (d : Drawn). d.number == n) (whole_trail window w)

-- ---- texts

-- an arrow to the step that it goes to, or the beginning of one, for the envelope of a serial that a member sent
abbrev pub drawn_text : Rehearsal → Window → ℕ → ℕ × Envelope (Unit {0}) → (from to : Option Drawn) → List ℕ
drawn_text w window k sent from (Some e) = arrow_text w window sent.0 from e k sent.1
drawn_text w window k sent (Some d) None = stub_arrow w window sent.0 d (length w.steps) k sent.1
drawn_text w window k sent None None = []

abbrev pub text_of_arrow : Rehearsal → Window → Arrow → List ℕ
text_of_arrow w window a =
    drawn_text w window a.serial (a.sender, a.envelope) (drawn_of window w a.from) (drawn_of window w a.to)

-- its line: from the column of the step that it goes from, at that step's member, or from the left edge at the sender, to the column of
-- the step that it goes to, at the receiver; or the beginning of such a line
abbrev pub line_text : Rehearsal → Window → ℕ × Envelope (Unit {0}) → (from to : Option Drawn) → List ℕ
line_text w window sent (Some d) (Some e) = route_text (grid_of w window) (Some d.place) (actor d.step) sent.1.to e.place
line_text w window sent None (Some e) = route_text (grid_of w window) None sent.0 sent.1.to e.place
line_text w window sent (Some d) None = stub_text (actor d.step) sent.1.to (spot_of (grid_of w window) d.place (actor d.step))
line_text w window sent None None = []

abbrev pub line_of_arrow : Rehearsal → Window → Arrow → List ℕ
line_of_arrow w window a = line_text w window (a.sender, a.envelope) (drawn_of window w a.from) (drawn_of window w a.to)

-- the text has this part
pub record HasPart (part text : List ℕ) : Type 0 where
  pub before : List ℕ
  pub behind : List ℕ
  pub is : text ≡ before ++ (part ++ behind)

-- ---- all arrows

-- between the members' lines and the steps' marks, which end where the columns do, a diagram has each such arrow once, and nothing else
pub record HasArrows (window : Window) (w : Rehearsal) : Type 0 where
  pub arrows : List Arrow
  pub each : (a : Arrow) → IsIn a arrows → IsArrow window w a
  pub all : (a : Arrow) → IsArrow window w a → IsIn a arrows
  pub once : IsWithoutRepeats arrows
  pub lines : (a : Arrow) → IsIn a arrows → HasPart (line_of_arrow w window a) (text_of_arrow w window a)
  pub end : ℕ
  pub text : diagram_text window w ≡ framed_text (grid_of w window) end (whole_layer shades_layer window w)
      (concat (map (text_of_arrow w window) arrows)) (whole_layer marks_layer window w)

-- ---- one arrow

-- one thing, and no other, is so
pub record IsOne {A : Type 0} (Is : A → Type 0) : Type 0 where
  pub it : A
  pub is : Is it
  pub only : (other : A) → Is other → other ≡ it

-- it is of this envelope, and begins at this step
abbrev pub BeginsAt : Window → Rehearsal → (serial number : ℕ) → Arrow → Type 0
BeginsAt window w k n a = IsArrow window w a × (a.serial ≡ k) × (a.from ≡ Some n)

-- it is of this envelope, and ends at this step
abbrev pub EndsAt : Window → Rehearsal → (serial number : ℕ) → Arrow → Type 0
EndsAt window w k n a = IsArrow window w a × (a.serial ≡ k) × (a.to ≡ Some n)

-- what a step of the window sends or repeats is an envelope
abbrev pub KnowsSent : Window → Rehearsal → Type 0
KnowsSent window w = (n k : ℕ) → is_drawn window n ≡ true → puts_at w n k ≡ true → is_some (letter_at w k) ≡ true

-- where that is asked for, one arrow begins there
abbrev pub BeginsOnce : Window → Rehearsal → Type 0
BeginsOnce window w = (n k : ℕ) → is_drawn window n ≡ true → puts_at w n k ≡ true → is_some (wanted window w k) ≡ true →
    IsOne (BeginsAt window w k n)

-- and one arrow ends at a step that receives or loses an envelope, where that is asked for
abbrev pub EndsOnce : Window → Rehearsal → Type 0
EndsOnce window w = (n k : ℕ) → is_drawn window n ≡ true → takes_at w n k ≡ true → is_some (wanted window w k) ≡ true →
    IsOne (EndsAt window w k n)
