-- What is told of runs that were made smaller.
use Rattle.std.specs.Prelude.{List, ℕ, ◌==◌, [], ◌∷◌, codes, decimal, if◌then◌else◌}
use Rattle.std.specs.List.{concat}
use Rattle.ct_shrink.specs.declared.summary.Summary.{Summary}

-- what trials are called, of which there are so many
abbrev pub unit : ℕ → List ℕ
unit trials = if trials == 1 then codes "trial" else codes "trials"

-- how many steps there were and are left, and how many trials that took
abbrev pub summary_text : Summary → List ℕ
summary_text s =
    concat (codes "of " ∷ decimal s.steps ∷ codes " steps " ∷ decimal s.left ∷ codes " are left; "
    ∷ (if s.is_stopped then codes "stopped after " else []) ∷ decimal s.trials ∷ codes " " ∷ unit s.trials ∷ [])
