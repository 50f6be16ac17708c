-- The diagram of some steps of a run.
use Rattle.std.specs.Prelude.{◌≡◌, ℕ, zero, suc, ◌+◌, ◌<◌, ◌≤◌, List, [], ◌∷◌, ◌++◌, length, drop, take, if◌then◌else◌, Option, Some, None}
use Rattle.std.specs.Prelude.{slice_get, ⊤}
use Rattle.std.specs.List.{concat}
use Rattle.ct_model.specs.declared.step.Step.{Step}
use Rattle.ct_model.specs.Rehearsal.{Rehearsal, state_of, extended}
use Rattle.ct_model.specs.Senders.{senders}
use Rattle.ct_model.specs.Setting.{Setting}
use Rattle.ct_records.specs.declared.program_fault.ProgramFault.TheVariants.{Replay, Memory}
use Rattle.ct_records.specs.Replay.{IsAllowed, IsRefused}
use Rattle.ct_world.specs.Replay.{first_steps}
use Rattle.ct_diagram.specs.declared.drawn.Drawn.{Drawn}
use Rattle.ct_told.specs.declared.show_fault.ShowFault.{ShowFault}
use Rattle.ct_told.specs.declared.show_fault.ShowFault.TheVariants.{TooManySteps, Program}
use Rattle.ct_diagram.specs.declared.grid.Grid.{Grid}
use Rattle.ct_diagram.specs.declared.sight.Glance.{Glance}
use Rattle.ct_diagram.specs.declared.sight.Sight.TheVariants.{Hidden}
use Rattle.ct_diagram.specs.declared.window.TheConstants.{MOST_STEPS}
use Rattle.ct_diagram.specs.declared.window.Window.{Window}
use Rattle.ct_diagram.specs.Arrows.{arrows, grid_of}
use Rattle.ct_diagram.specs.Frame.{head_text, rows_text, foot_text}
use Rattle.ct_diagram.specs.Grid.{row_of}
use Rattle.ct_diagram.specs.Marks.{marks}
use Rattle.ct_diagram.specs.Shades.{shades}
use Rattle.ct_diagram.specs.Sight.{glance_of, is_quiet, sight_of}
use Rattle.ct_diagram.specs.Trail.{place_after}
use Rattle.ct_diagram.specs.Window.{is_drawn, part_of, steps_in}

-- ---- the steps that are drawn

-- the record's last step, with this number, behind those that were drawn: before it so many envelopes had been sent, and this was seen
unfoldable pub drawn_after : Window → Rehearsal → List Drawn → (before number : ℕ) → Step → Glance → Drawn
drawn_after window w trail before number step seen = record {
  number = number;
  before = before;
  sent = length (state_of w).sent;
  step = step;
  is_quiet = is_quiet w seen before step;
  sight = sight_of window w (is_quiet w seen before step) step;
  place = place_after trail (sight_of window w (is_quiet w seen before step) step);
}

-- the same, where the window has it
abbrev pub one_drawn : Window → Rehearsal → List Drawn → (before number : ℕ) → Step → Glance → List Drawn
one_drawn window w trail before number step seen =
    if is_drawn window number then drawn_after window w trail before number step seen ∷ [] else []

-- of a step after the record, which has k steps
abbrev pub drawn_next : Window → Rehearsal → List Drawn → ℕ → Option Step → List Drawn
drawn_next window w trail k None = []
drawn_next window w trail k (Some step) =
    one_drawn window (extended w step) trail (length (state_of w).sent) (k + 1) step (glance_of w step)

-- those among the first k steps
abbrev pub first_trail : Window → Setting → ℕ → List Step → ℕ → List Drawn
first_trail window s cells steps zero = []
first_trail window s cells steps (suc k) =
    first_trail window s cells steps k
    ++ drawn_next window (first_steps s cells steps k) (first_trail window s cells steps k) k (slice_get steps k)

-- all of them
abbrev pub whole_trail : Window → Rehearsal → List Drawn
whole_trail window w = first_trail window w.setting w.cells w.steps (length w.steps)

-- ---- the layers of a diagram

-- what a layer has of a step that is drawn: of the record up to it and of the senders of its envelopes, of the steps that were drawn
-- before it, and of those that are drawn after it
abbrev pub Layer : Type 0
Layer = Window → Rehearsal → List ℕ → List Drawn → Drawn → List Step → List ℕ

-- the rounds, the envelopes' arrows and the steps' marks
abbrev pub shades_layer : Layer
shades_layer window w senders trail drawn later = shades w (grid_of w window) drawn

abbrev pub arrows_layer : Layer
arrows_layer window w senders trail drawn later = arrows w window senders trail drawn later

abbrev pub marks_layer : Layer
marks_layer window w senders trail drawn later = marks w (grid_of w window) drawn

-- what a layer has of the record's last step, where the window has it
abbrev pub one_of : Layer → Window → Rehearsal → List ℕ → List Drawn → (before number : ℕ) → Step → Glance → List Step → List ℕ
one_of layer window w senders trail before number step seen later =
    if is_drawn window number then layer window w senders trail (drawn_after window w trail before number step seen) later else []

-- what it has of a step after the record, which has k steps
abbrev pub layer_next : Layer → Window → Rehearsal → List ℕ → List Drawn → ℕ → List Step → Option Step → List ℕ
layer_next layer window w senders trail k later None = []
layer_next layer window w senders trail k later (Some step) =
    one_of layer window (extended w step) senders trail (length (state_of w).sent) (k + 1) step (glance_of w step) later

-- what it has of the first k steps
abbrev pub first_layer : Layer → Window → Setting → ℕ → List Step → ℕ → List ℕ
first_layer layer window s cells steps zero = []
first_layer layer window s cells steps (suc k) =
    first_layer layer window s cells steps k
    ++ layer_next layer window (first_steps s cells steps k) (senders s (take (k + 1) steps)) (first_trail window s cells steps k) k
    (drop (k + 1) steps) (slice_get steps k)

-- what it has of all steps
abbrev pub whole_layer : Layer → Window → Rehearsal → List ℕ
whole_layer layer window w = first_layer layer window w.setting w.cells w.steps (length w.steps)

-- ---- the diagram

-- rows of columns that end at a place, with what is drawn of the steps: the rounds behind the members' lines, the arrows and marks
-- before them
unfoldable pub framed_text : Grid → ℕ → List ℕ → List ℕ → List ℕ → List ℕ
framed_text g end shades arrows marks =
    concat (head_text g end ∷ shades ∷ rows_text g end (row_of g end + 1) ∷ arrows ∷ marks ∷ foot_text g end ∷ [])

-- the diagram of the window's steps of a record, whose last step is the window's last one, or comes before it
abbrev pub diagram_text : Window → Rehearsal → List ℕ
diagram_text window w =
    framed_text (grid_of w window) (place_after (whole_trail window w) Hidden) (whole_layer shades_layer window w)
    (whole_layer arrows_layer window w) (whole_layer marks_layer window w)

-- ---- what is answered

-- the steps up to the window's last one are allowed, so many of them as a diagram can have are the window's, and this is their diagram
abbrev pub IsDiagram : Window → Rehearsal → List ℕ → Type 0
IsDiagram window w text =
    IsAllowed (part_of window w) × (steps_in window (part_of window w).steps ≤ MOST_STEPS) × (text ≡ diagram_text window (part_of window w))

-- the fault is that a step of the record is refused, or want of memory
abbrev pub IsOfReplay : ShowFault → Rehearsal → Type 0
IsOfReplay (Program (Replay at refusal)) w = IsRefused w at refusal
IsOfReplay (Program Memory) w = ⊤
IsOfReplay _ w = ⊥

-- the window has too many steps of the record; or it has not, and one of those up to its last one is refused, or memory
abbrev pub FailsWith : Window → ShowFault → Rehearsal → Type 0
FailsWith window (TooManySteps steps) w = (steps ≡ steps_in window (part_of window w).steps) × (MOST_STEPS < steps)
FailsWith window fault w = (steps_in window (part_of window w).steps ≤ MOST_STEPS) × IsOfReplay fault (part_of window w)
