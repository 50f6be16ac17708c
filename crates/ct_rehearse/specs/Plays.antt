-- What a list of steps comes to.
use Rattle.std.specs.Prelude.{ℕ, ◌≡◌, ◌+◌, Bool, true, false, List, [], ◌∷◌, length, Option, None, is_none, if◌then◌else◌}
use Rattle.ct_names.specs.declared.refusal.Refusal.{Refusal}
use Rattle.ct_names.specs.declared.refusal.Refusal.TheVariants.{OutOfMemory, Board}
use Rattle.ct_model.specs.declared.step.Step.{Step}
use Rattle.ct_model.specs.Rehearsal.{Rehearsal, extended}
use Rattle.ct_model.specs.Cause.{cause}
use Rattle.ct_model.specs.Passed.{extended_by}
use Rattle.ct_rehearse.specs.declared.outcome.Turn.{Turn}
use Rattle.ct_rehearse.specs.declared.outcome.Turn.TheVariants.{Stepped, Resting, Refused}
use Rattle.ct_rehearse.specs.declared.plays.Played.{Played}

-- how many steps were tried
abbrev pub tries : Played → ℕ
tries played = played.applied + played.refused + played.short

-- the refusal is want of memory, or the board's
abbrev pub is_short : Refusal → Bool
is_short OutOfMemory = true
is_short Board = true
is_short _ = false

-- one more step was tried
abbrev pub played_after : Played → Turn → Played
played_after played (Stepped step effect) = record played { applied = played.applied + 1 }
played_after played Resting = played
played_after played (Refused refusal) = if is_short refusal then record played { short = played.short + 1 }
    else record played { refused = played.refused + 1 }

-- nothing is prepared once a step was tried
abbrev pub prepared_after : Option Step → List Step → Option Step
prepared_after old [] = old
prepared_after old (step ∷ steps) = None

-- the steps that have a mark, in their order
unfoldable pub marked : List Bool → List Step → List Step
marked [] steps = []
marked (mark ∷ marks) [] = []
marked (true ∷ marks) (step ∷ steps) = step ∷ marked marks steps
marked (false ∷ marks) (step ∷ steps) = marked marks steps

-- how many of the steps without a mark have no cause of refusal after the record and the marked steps before them
unfoldable pub allowed_unmarked : Rehearsal → List Bool → List Step → ℕ
allowed_unmarked w [] steps = 0
allowed_unmarked w (mark ∷ marks) [] = 0
allowed_unmarked w (true ∷ marks) (step ∷ steps) = allowed_unmarked (extended w step) marks steps
allowed_unmarked w (false ∷ marks) (step ∷ steps) = (if is_none (cause w step) then 1 else 0) + allowed_unmarked w marks steps

-- the record is the old one followed by some of the steps in their order, as many as were applied; of the others, so many had
-- no cause of refusal where they were tried as are counted as short
pub record HasPlayed (old : Rehearsal) (steps : List Step) (new : Rehearsal) (played : Played) : Type 0 where
  pub marks : List Bool
  pub each : length marks ≡ length steps
  pub joined : new ≡ extended_by old (marked marks steps)
  pub applied : length (marked marks steps) ≡ played.applied
  pub short : allowed_unmarked old marks steps ≡ played.short
