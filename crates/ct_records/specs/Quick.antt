-- A Receive or a Postpone, as most steps are.
use Rattle.std.specs.Prelude.{ℕ, ◌+◌, List, ◌∷◌, length}
use Rattle.json.specs.Lex.{token, comma}
use Rattle.json.specs.Token.{begin_array, string}
use Rattle.ct_model.specs.declared.step.Step.{Step}
use Rattle.ct_model.specs.declared.step.Step.TheVariants.{Receive, Postpone}
use Rattle.ct_model.specs.StepText.{step_entry}
use Rattle.ct_records.specs.declared.scan.kind.Kind.{Kind}
use Rattle.ct_records.specs.declared.scan.kind.Kind.TheVariants as kind
use Rattle.ct_records.specs.Reading.{Reads}

-- the step of the member and the serial
abbrev pub step_of : Kind → ℕ → ℕ → Step
step_of kind.Receive p k = Receive p k
step_of kind.Postpone p k = Postpone p k

-- its name
abbrev pub name_of : Kind → List ℕ
name_of k = (step_entry (step_of k 0 0)).name

-- the bytes begin with a comma, a bracket, the name and a comma
abbrev pub ReadsNamed : List ℕ → Kind → List ℕ → Type 0
ReadsNamed bytes k rest =
    Reads bytes (λ after. comma ∷ token begin_array ∷ token (string (name_of k)) ∷ comma ∷ after) (5 + length (name_of k)) rest
