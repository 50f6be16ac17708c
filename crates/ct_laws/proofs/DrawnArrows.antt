-- Arrows between steps as a diagram has them.
use Rattle.std.specs.Prelude.{◌≡◌, ◌<◌, ℕ, true, false, List, map, Option, Some, None}
use Rattle.std.specs.List.{concat}
use Rattle.ct_names.specs.Membership.{IsIn, IsWithoutRepeats}
use Rattle.ct_model.specs.Rehearsal.{Rehearsal}
use Rattle.ct_model.specs.declared.envelope.Envelope.{Envelope}
use Rattle.ct_show.specs.Facts.{takes}
use Rattle.ct_diagram.specs.Diagram.{arrows_layer, whole_layer, whole_trail}
use Rattle.ct_diagram.specs.Trail.{puts}
use Rattle.ct_diagram.specs.declared.window.Window.{Window}
use Rattle.ct_laws.specs.Diagrams.{Drawn, drawn_text, wanted}

pub record DrawnArrow : Type 0 where
  pub serial : ℕ
  pub sender : ℕ
  pub envelope : Envelope (Unit {0})
  pub from : Option Drawn
  pub to : Option Drawn

-- the first of these steps, behind one number, that receives or loses the envelope; or none of them does
abbrev pub IsDrawnEnd : List Drawn → (serial after : ℕ) → Option Drawn → Type 0
IsDrawnEnd trail k after (Some e) =
    IsIn e trail × (after < e.number) × (takes e.step k ≡ true)
    × ((d : Drawn) → IsIn d trail → after < d.number → d.number < e.number → takes d.step k ≡ false)
IsDrawnEnd trail k after None = (d : Drawn) → IsIn d trail → after < d.number → takes d.step k ≡ false

-- from one of these steps that puts the envelope into its line, to where it ends behind that; or to where it ends first, where none of
-- those before puts it there
abbrev pub IsDrawnWay : List Drawn → (serial : ℕ) → (from to : Option Drawn) → Type 0
IsDrawnWay trail k (Some d) to = IsIn d trail × (puts k d ≡ true) × IsDrawnEnd trail k d.number to
IsDrawnWay trail k None (Some e) = IsDrawnEnd trail k 0 (Some e) × ((d : Drawn) → IsIn d trail → d.number < e.number → puts k d ≡ false)
IsDrawnWay trail k None None = ⊥

pub record IsDrawnArrow (window : Window) (w : Rehearsal) (a : DrawnArrow) : Type 0 where
  pub envelope : wanted window w a.serial ≡ Some (a.sender, a.envelope)
  pub way : IsDrawnWay (whole_trail window w) a.serial a.from a.to

abbrev pub text_of_drawn : Rehearsal → Window → DrawnArrow → List ℕ
text_of_drawn w window a = drawn_text w window a.serial (a.sender, a.envelope) a.from a.to

-- what a diagram has of envelopes is each such arrow once
pub record HasDrawnArrows (window : Window) (w : Rehearsal) : Type 0 where
  pub arrows : List DrawnArrow
  pub each : (a : DrawnArrow) → IsIn a arrows → IsDrawnArrow window w a
  pub all : (a : DrawnArrow) → IsDrawnArrow window w a → IsIn a arrows
  pub once : IsWithoutRepeats arrows
  pub text : whole_layer arrows_layer window w ≡ concat (map (text_of_drawn w window) arrows)

-- it is of this envelope, and begins or ends at this step
abbrev pub DrawnBegins : Window → Rehearsal → ℕ → Drawn → DrawnArrow → Type 0
DrawnBegins window w k d a = IsDrawnArrow window w a × (a.serial ≡ k) × (a.from ≡ Some d)

abbrev pub DrawnEnds : Window → Rehearsal → ℕ → Drawn → DrawnArrow → Type 0
DrawnEnds window w k e a = IsDrawnArrow window w a × (a.serial ≡ k) × (a.to ≡ Some e)
