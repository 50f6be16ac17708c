-- The waiting line of a member: what a step does to it, and what it is after all the steps.
use Rattle.std.specs.Prelude.{ℕ, ◌+◌, Bool, not, ◌==◌, if◌then◌else◌, List, [], ◌∷◌, ◌++◌, length, drop, filter}
use Rattle.std.specs.List.{list_any}
use Rattle.ct_model.specs.declared.step.Step.{Step}
use Rattle.ct_model.specs.declared.step.Step.TheVariants.{Receive, Postpone, Lose, Repeat}
use Rattle.ct_model.specs.Setting.{Setting}
use Rattle.ct_model.specs.State.{State, first_state}
use Rattle.ct_model.specs.Next.{stepped}
use Rattle.ct_model.specs.Wire.{Envelope}

-- the serial is in the list
abbrev pub has_serial : ℕ → List ℕ → Bool
has_serial k line = list_any (λ other. other == k) line

-- the serials of those envelopes that go to p; this many were sent before them
abbrev pub serials_to : {V : Type 0} → ℕ → ℕ → List (Envelope V) → List ℕ
serials_to p before [] = []
serials_to p before (e ∷ es) = (if e.to == p then (before + 1) ∷ [] else []) ++ serials_to p (before + 1) es

-- what a step does to waiting lines before it sends: it takes a serial out of a member's line, moves one to the end of it,
-- puts one that is not there back at the end, or leaves them
pub data LineChange : Type 0 where
  Takes : (member serial : ℕ) → LineChange
  Defers : (member serial : ℕ) → LineChange
  Restores : (member serial : ℕ) → LineChange
  Leaves : LineChange

abbrev pub line_change : Step → LineChange
line_change (Receive p k) = Takes p k
line_change (Postpone p k) = Defers p k
line_change (Lose p k) = Takes p k
line_change (Repeat p k) = Restores p k
line_change _ = Leaves

-- the line without the serial, and the serial alone where it waits
abbrev pub without : ℕ → List ℕ → List ℕ
without k line = filter (λ other. not (other == k)) line

abbrev pub alone : ℕ → List ℕ → List ℕ
alone k line = filter (λ other. other == k) line

-- p's line after that
abbrev pub changed : ℕ → LineChange → List ℕ → List ℕ
changed p (Takes q k) line = if q == p then without k line else line
changed p (Defers q k) line = if q == p then without k line ++ alone k line else line
changed p (Restores q k) line = if q == p then line ++ k ∷ [] else line
changed p Leaves line = line

-- p's line after a step in state g: what the step sends to p joins the end
unfoldable pub line_after : Setting → ℕ → State → List ℕ → Step → List ℕ
line_after s p g line step = changed p (line_change step) line
    ++ serials_to p (length g.sent) (drop (length g.sent) (stepped s g step).sent)

-- p's line after further steps
abbrev pub line_from : Setting → ℕ → State → List ℕ → List Step → List ℕ
line_from s p g line [] = line
line_from s p g line (step ∷ later) = line_from s p (stepped s g step) (line_after s p g line step) later

-- the waiting line of p after the steps
unfoldable pub waiting : Setting → List Step → ℕ → List ℕ
waiting s steps p = line_from s p (first_state s) [] steps
