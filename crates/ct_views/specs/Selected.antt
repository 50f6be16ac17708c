-- The lines of a run in a form: one for each step that is asked for.
use Rattle.std.specs.Prelude.{ℕ, zero, suc, ◌+◌, Bool, true, ◌==◌, ◌&&◌, nat_le, List, [], ◌++◌, length, Option, Some, None}
use Rattle.std.specs.Prelude.{slice_get, if◌then◌else◌}
use Rattle.std.specs.Option.{option_map_or}
use Rattle.ct_model.specs.Actor.{actor}
use Rattle.ct_model.specs.declared.step.Step.{Step}
use Rattle.ct_model.specs.Rehearsal.{Rehearsal, state_of, extended}
use Rattle.ct_model.specs.Setting.{Setting}
use Rattle.ct_world.specs.Replay.{first_steps}
use Rattle.ct_views.specs.declared.form.Form.{Form}
use Rattle.ct_views.specs.declared.form.Form.TheVariants.{Text, Json}
use Rattle.ct_views.specs.declared.selection.Selection.{Selection}
use Rattle.ct_json.specs.JsonSteps.{step_json}
use Rattle.ct_show.specs.Lines.{line_text}

-- the line of the last step of the record, before which so many envelopes had been sent
abbrev pub line_in : Form → Rehearsal → ℕ → ℕ → Step → List ℕ
line_in Text w before number step = line_text w before number step
line_in Json w before number step = step_json w before number step

-- the step of this number and of this member is asked for
abbrev pub is_selected : Selection → ℕ → ℕ → Bool
is_selected selection number p =
    nat_le selection.from number && nat_le number selection.to && option_map_or (λ m. m == p) selection.member true

-- the line of a step after the record, which has so many steps, where it is asked for
abbrev pub selected_line : Selection → Form → Rehearsal → ℕ → Step → List ℕ
selected_line selection form w k step =
    if is_selected selection (k + 1) (actor step) then line_in form (extended w step) (length (state_of w).sent) (k + 1) step else []

abbrev pub line_after : Selection → Form → Rehearsal → ℕ → Option Step → List ℕ
line_after selection form w k None = []
line_after selection form w k (Some step) = selected_line selection form w k step

-- those of the first steps
abbrev pub first_lines : Selection → Form → Setting → ℕ → List Step → ℕ → List ℕ
first_lines selection form s cells steps zero = []
first_lines selection form s cells steps (suc k) =
    first_lines selection form s cells steps k ++ line_after selection form (first_steps s cells steps k) k (slice_get steps k)
