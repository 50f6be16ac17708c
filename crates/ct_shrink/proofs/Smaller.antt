-- How many lines a trial leaves.
use Rattle.std.proofs.Common.{◌≡◌, ℕ, suc, ◌<◌, ◌≤◌, Bool, true, false, List, [], ◌∷◌, length, Option, Some, None, refl, cond, arith}
use Rattle.std.specs.Prelude.{option_map, remove}
use Rattle.std.proofs.lemmas.List.Edits.{length-remove}
use Rattle.ct_world.specs.Setup.{record_of}
use Rattle.ct_world.specs.declared.setup.Setup.{Setup}
use Rattle.ct_play.specs.Goals.{uncut}
use Rattle.ct_play.specs.Played.{Played}
use Rattle.ct_shrink.specs.Lines.{after_taken, taken}
use Rattle.ct_shrink.specs.Shrinking.{IsNoSmaller, IsLeastBy}
use Rattle.ct_shrink.specs.Trials.{IsLeast, behind, trial, tried}
use Rattle.ct_shrink.specs.declared.line.Line.{Line}

-- what is left has no more lines than so many
abbrev IsNoMore : Option (List Line) → ℕ → Type 0
IsNoMore None count = Unit {0}
IsNoMore (Some lines) count = length lines ≤ count

behind_no_more : (line : Option Line) (r : Option (List Line)) (count : ℕ) → IsNoMore r count →
    IsNoMore (option_map (behind line) r) (suc count)
behind_no_more line None count h = tt
behind_no_more None (Some lines) count h = omega (arith, h)
behind_no_more (Some line) (Some lines) count h = omega (arith, h)

by_shown : (b : Bool) (r : Option (List Line)) (count : ℕ) → IsNoMore r count → IsNoMore (cond b (Some []) r) count
by_shown true r count h = omega arith
by_shown false r count h = h

tried_no_more : (test : Played → Bool) (s : Played) (lines : List Line) → IsNoMore (tried test s lines) (length lines)
unfolding tried
tried_no_more test s [] = by_shown (test s) None 0 tt
tried_no_more test s (line ∷ lines) =
    by_shown (test s) (option_map (behind (taken s line)) (tried test (after_taken s (taken s line)) lines)) (suc (length lines))
    (behind_no_more (taken s line) (tried test (after_taken s (taken s line)) lines) (length lines)
    (tried_no_more test (after_taken s (taken s line)) lines))

fewer : (r : Option (List Line)) (few many : ℕ) → few < many → IsNoMore r few → IsNoSmaller r many → r ≡ None
fewer None few many lt h k = refl
fewer (Some lines) few many lt h k = absurd (omega (arith, lt, h, k))

-- a trial without a line that leaves no smaller run fails
none_without : (test : Played → Bool) (setup : Setup) (lines : List Line) (i : ℕ) → i < length lines →
    IsNoSmaller (trial test setup (remove lines i)) (length lines) → trial test setup (remove lines i) ≡ None
unfolding trial
none_without test setup lines i lt h =
    fewer (trial test setup (remove lines i)) (length (remove lines i)) (length lines) (omega (arith, length-remove lines i lt))
    (tried_no_more test (uncut (record_of setup [])) (remove lines i)) h

-- a run of which no trial without a line leaves a smaller one can do without none
pub least : (test : Played → Bool) (setup : Setup) (lines : List Line) → IsLeastBy (trial test setup) lines → IsLeast test setup lines
least test setup lines h i lt = none_without test setup lines i lt (h i lt)
