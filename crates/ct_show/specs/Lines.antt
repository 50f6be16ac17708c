-- The line of a step.
use Rattle.std.specs.Prelude.{ℕ, List, [], ◌∷◌, codes}
use Rattle.std.specs.List.{concat}
use Rattle.ct_model.specs.Actor.{actor}
use Rattle.ct_model.specs.declared.step.Step.{Step}
use Rattle.ct_model.specs.Rehearsal.{Rehearsal}
use Rattle.ct_show.specs.Details.{detail_text}
use Rattle.ct_show.specs.Shapes.{right_text}
use Rattle.ct_show.specs.Wires.{sent_text}

-- the number of a step, counted from 1, and its member, in two columns
unfoldable pub head_text : ℕ → ℕ → List ℕ
head_text number p = concat (right_text number ∷ right_text p ∷ codes "  " ∷ [])

-- the line of the last step of the record, before which so many envelopes had been sent
unfoldable pub line_text : Rehearsal → ℕ → ℕ → Step → List ℕ
line_text w before number step =
    concat (head_text number (actor step) ∷ detail_text w before step ∷ sent_text w before ∷ codes "\n" ∷ [])
