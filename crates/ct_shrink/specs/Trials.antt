-- Trials: what is left of a list of lines that is tried line by line.
use Rattle.std.specs.Prelude.{◌≡◌, ℕ, ◌<◌, Bool, List, [], ◌∷◌, Option, Some, None, length, option_map, remove, if◌then◌else◌}
use Rattle.ct_model.specs.Rehearsal.{Rehearsal}
use Rattle.ct_world.specs.Setup.{record_of}
use Rattle.ct_world.specs.declared.setup.Setup.{Setup}
use Rattle.ct_play.specs.Goals.{uncut}
use Rattle.ct_play.specs.Played.{Played}
use Rattle.ct_shrink.specs.Lines.{after_taken, taken}
use Rattle.ct_shrink.specs.Runs.{IsRunOf}
use Rattle.ct_shrink.specs.Shrinking.{Agrees, Shrinking}
use Rattle.ct_shrink.specs.declared.line.Line.{Line}

-- these lines behind a line that was taken; the same where it was left out
abbrev pub behind : Option Line → List Line → List Line
behind None lines = lines
behind (Some line) lines = line ∷ lines

-- the lines as they are taken one after the other, up to the first stage that shows the goal; None where there is none
unfoldable pub tried : (Played → Bool) → Played → List Line → Option (List Line)
tried test s [] = if test s then Some [] else None
tried test s (line ∷ lines) =
    if test s then Some [] else option_map (behind (taken s line)) (tried test (after_taken s (taken s line)) lines)

-- the same from a stage without steps
unfoldable pub trial : (Played → Bool) → Setup → List Line → Option (List Line)
trial test setup lines = tried test (uncut (record_of setup [])) lines

-- without any one of the lines the trial fails
abbrev pub IsLeast : (Played → Bool) → Setup → List Line → Type 0
IsLeast test setup lines = (i : ℕ) → i < length lines → trial test setup (remove lines i) ≡ None

-- the smallest run so far is that of this record, which shows the goal, and what was told of trials is what they left
pub record IsTried (test : Played → Bool) (setup : Setup) (s : Shrinking) (w : Rehearsal) : Type 0 where
  pub run : IsRunOf test setup s.lines w
  pub agrees : Agrees (trial test setup) s
