-- A diagram is XML.
use Rattle.std.proofs.Common.{ℕ, zero, suc, ◌+◌, List, length, drop, take, refl, Option, Some, None, [], ◌∷◌}
use Rattle.std.proofs.Common.{append-nil}
use Rattle.std.proofs.lemmas.List.Sums.{fold-append}
use Rattle.std.specs.List.{concat}
use Rattle.std.specs.Prelude.{slice_get}
use Rattle.ct_model.specs.Rehearsal.{Rehearsal, extended}
use Rattle.ct_model.specs.Senders.{senders}
use Rattle.ct_model.specs.declared.step.Step.{Step}
use Rattle.ct_diagram.specs.Arrows.{arrows, grid_of}
use Rattle.ct_diagram.specs.Diagram.{Layer, arrows_layer, diagram_text, first_layer, framed_text, layer_next, marks_layer}
use Rattle.ct_diagram.specs.Diagram.{shades_layer, whole_layer}
use Rattle.ct_diagram.specs.Frame
use Rattle.ct_diagram.specs.Window.{is_drawn}
use Rattle.ct_diagram.specs.declared.window.Window.{Window}
use Rattle.ct_laws.specs.Xml.{IsXml}
use Rattle.ct_laws.proofs.Reader.{is_xml}
use Rattle.ct_laws.proofs.Reader.Reading.{Start, End}
use Rattle.ct_laws.proofs.DrawnTexts.{Grid, IsInSvg, arrows_read, if_in, marks_read, shades_read, xml_parts, in_group, in_svg}
use Rattle.ct_laws.proofs.Reading.{Leads, leads}
use Rattle.ct_laws.proofs.Records.{part}
use Rattle.ct_laws.proofs.Trails.{drawn_at, trail_at}
use Rattle.ct_diagram.specs.Grid.{row_of}

-- ---- the frame

row_reads : (g : Grid) (row right k : ℕ) → IsInSvg (Frame.row_text g row right k)
unfolding Frame.name_text Frame.line_text
row_reads g row right zero = refl
row_reads g row right (suc k) = simp (xml_parts, row_reads g row right k)

rows_read : (g : Grid) (end k : ℕ) → IsInSvg (Frame.rows_text g end k)
rows_read g end zero = refl
rows_read g end (suc k) =
    simp (xml_parts, rows_read g end k, row_reads)

sizes_read : (wide high : ℕ) → Leads Start (Frame.sizes_text wide high) in_svg
unfolding Frame.sizes_text
sizes_read wide high = simp xml_parts

head_reads : (g : Grid) (end : ℕ) → Leads Start (Frame.head_text g end) in_svg
head_reads g end =
    leads Start in_svg in_svg (Frame.sizes_text (Frame.width g end) (Frame.low g end + 32)) _
    (sizes_read (Frame.width g end) (Frame.low g end + 32)) refl

below_reads : (low : ℕ) → Leads in_svg (Frame.below_text low) in_group
unfolding Frame.below_text
below_reads low = simp xml_parts

legend_reads : Leads in_group Frame.legend_text End
unfolding Frame.legend_text
legend_reads = refl

foot_reads : (g : Grid) (end : ℕ) → Leads in_svg (Frame.foot_text g end) End
foot_reads g end =
    leads in_svg in_group End (Frame.below_text (Frame.low g end)) Frame.legend_text (below_reads (Frame.low g end)) legend_reads

all_read : (head shades rows arrows marks foot : List ℕ) → Leads Start head in_svg → IsInSvg shades → IsInSvg rows → IsInSvg arrows →
    IsInSvg marks → Leads in_svg foot End → Leads Start (concat (head ∷ shades ∷ rows ∷ arrows ∷ marks ∷ foot ∷ [])) End
all_read head shades rows arrows marks foot h s r a m f = simp (fold-append, append-nil, h, s, r, a, m, f)

framed_reads : (g : Grid) (end : ℕ) (shades arrows marks : List ℕ) → IsInSvg shades → IsInSvg arrows → IsInSvg marks →
    Leads Start (framed_text g end shades arrows marks) End
unfolding framed_text
framed_reads g end shades arrows marks h i j =
    all_read (Frame.head_text g end) shades (Frame.rows_text g end (row_of g end + 1)) arrows marks (Frame.foot_text g end)
    (head_reads g end) h (rows_read g end (row_of g end + 1)) i j (foot_reads g end)

-- ---- the layers

-- what a layer has of each step is XML
abbrev Reads : Layer → Window → Rehearsal → Type 0
Reads layer window w = (n : ℕ) (step : Step) →
    IsInSvg (layer window (extended (part w n) step) (senders w.setting (take (n + 1) w.steps)) (trail_at window w n)
    (drawn_at window w n step) (drop (n + 1) w.steps))

next_reads : (layer : Layer) (window : Window) (w : Rehearsal) → Reads layer window w → (n : ℕ) (o : Option Step) →
    IsInSvg (layer_next layer window (part w n) (senders w.setting (take (n + 1) w.steps)) (trail_at window w n) n (drop (n + 1) w.steps) o)
next_reads layer window w h n None = refl
next_reads layer window w h n (Some step) = if_in (is_drawn window (n + 1)) _ [] (h n step) refl

layer_reads : (layer : Layer) (window : Window) (w : Rehearsal) → Reads layer window w → (n : ℕ) →
    IsInSvg (first_layer layer window w.setting w.cells w.steps n)
layer_reads layer window w h zero = refl
layer_reads layer window w h (suc n) =
    simp (fold-append, layer_reads layer window w h n, next_reads layer window w h n (slice_get w.steps n))

pub diagram_reads : (window : Window) (w : Rehearsal) → IsXml (diagram_text window w)
diagram_reads window w =
    is_xml (diagram_text window w)
    (framed_reads (grid_of w window) _ (whole_layer shades_layer window w) (whole_layer arrows_layer window w)
    (whole_layer marks_layer window w) (layer_reads shades_layer window w
    (λ n step. shades_read (extended (part w n) step) (grid_of w window) (drawn_at window w n step)) (length w.steps))
    (layer_reads arrows_layer window w
    (λ n step. arrows_read (extended (part w n) step) window (senders w.setting (take (n + 1) w.steps)) (trail_at window w n)
    (drawn_at window w n step) (drop (n + 1) w.steps)) (length w.steps))
    (layer_reads marks_layer window w
    (λ n step. marks_read (extended (part w n) step) (grid_of w window) (drawn_at window w n step)) (length w.steps)))
