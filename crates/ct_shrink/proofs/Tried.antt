-- How a trial goes on.
use Rattle.std.proofs.Common.{◌≡◌, ℕ, suc, ◌+◌, ◌<◌, ◌≤◌, Bool, true, false, List, [], ◌∷◌, ◌++◌, length, drop, get_or, Option, Some, None}
use Rattle.std.proofs.Common.{Ok, ap, sym, refl, ◌∙◌, append-nil, append_assoc, add-one, drop-cons}
use Rattle.std.specs.Prelude.{option_map}
use Rattle.std.proofs.lemmas.List.{drop_all}
use Rattle.ct_world.specs.Setup.{record_of}
use Rattle.ct_world.specs.declared.setup.Setup.{Setup}
use Rattle.ct_play.specs.Goals.{uncut}
use Rattle.ct_play.specs.Played.{Played}
use Rattle.ct_shrink.specs.Lines.{after_taken, taken}
use Rattle.ct_shrink.specs.Runs.{IsRunOf}
use Rattle.ct_shrink.specs.Trials.{behind, trial, tried}
use Rattle.ct_shrink.specs.declared.line.Line.{Line}
use Rattle.ct_shrink.proofs.Leading.{IsLed, none_led, taken_led}

-- so many of the lines were tried, these are left of them, and the stage is this one
pub record IsTrying (test : Played → Bool) (setup : Setup) (lines : List Line) (i : ℕ) (kept : List Line) (s : Played) : Type 0 where
  pub led : IsLed setup kept s
  pub ahead : trial test setup lines ≡ option_map (λ more. kept ++ more) (tried test s (drop i lines))

no_more : (r : Option (List Line)) (kept : List Line) → kept ≡ [] → r ≡ option_map (λ more. kept ++ more) r
no_more None kept e = refl
no_more (Some lines) kept e = ap (λ l. Some (l ++ lines)) (sym e)

pub none_tried : (test : Played → Bool) (setup : Setup) (lines kept : List Line) (s : Played) → s ≡ uncut (record_of setup []) →
    kept ≡ [] →
    IsTrying test setup lines 0 kept s
unfolding trial
none_tried test setup lines kept s e n = record {
  led = none_led setup kept s e n;
  ahead = ap (λ t. tried test t lines) (sym e) ∙ no_more (tried test s lines) kept n;
}

behind_more : (kept : List Line) (line : Option Line) (r : Option (List Line)) →
    option_map (λ more. kept ++ more) (option_map (behind line) r) ≡ option_map (λ more. (kept ++ behind line []) ++ more) r
behind_more kept line None = refl
behind_more kept None (Some lines) = ap (λ l. Some (l ++ lines)) (sym (append-nil kept))
behind_more kept (Some line) (Some lines) = ap Some (sym (append_assoc kept (line ∷ []) lines))

tried_on : (test : Played → Bool) (s : Played) (line : Line) (lines : List Line) → test s ≡ false →
    tried test s (line ∷ lines) ≡ option_map (behind (taken s line)) (tried test (after_taken s (taken s line)) lines)
unfolding tried
tried_on test s line lines e = rw e refl

-- one more line, where the goal is not shown yet
pub one_tried : (test : Played → Bool) (setup : Setup) (lines kept more : List Line) (i : ℕ) (d line : Line) (s t : Played) →
    i < length lines →
    get_or lines i d ≡ line → test s ≡ false → IsTrying test setup lines i kept s → more ≡ kept ++ behind (taken s line) [] →
    t ≡ after_taken s (taken s line) → IsTrying test setup lines (i + 1) more t
one_tried test setup lines kept more i d line s t lt here hidden h m e = rw (m, e) record {
  led = taken_led setup kept line s (taken s line) refl h.led;
  ahead = h.ahead
      ∙ ap (λ l. option_map (λ more. kept ++ more) (tried test s l)) (drop-cons lines i d lt ∙ ap (λ l. l ∷ drop (suc i) lines) here)
      ∙ ap (option_map (λ more. kept ++ more)) (tried_on test s line (drop (suc i) lines) hidden)
      ∙ behind_more kept (taken s line) (tried test (after_taken s (taken s line)) (drop (suc i) lines))
      ∙ ap (λ k. option_map (λ more. (kept ++ behind (taken s line) []) ++ more) (tried test (after_taken s (taken s line)) (drop
      k lines)))
      (sym (add-one i));
}

-- ---- the end

ended : (test : Played → Bool) (s : Played) (lines : List Line) → test s ≡ true → tried test s lines ≡ Some []
unfolding tried
ended test s [] e = rw e refl
ended test s (line ∷ lines) e = rw e refl

unshown : (test : Played → Bool) (s : Played) → test s ≡ false → tried test s [] ≡ None
unfolding tried
unshown test s e = rw e refl

-- where the goal is shown, the trial leaves these lines
pub shown_tried : (test : Played → Bool) (setup : Setup) (lines kept : List Line) (i : ℕ) (s : Played) → test s ≡ true →
    IsTrying test setup lines i kept s → trial test setup lines ≡ Some kept
shown_tried test setup lines kept i s e h =
    h.ahead ∙ ap (option_map (λ more. kept ++ more)) (ended test s (drop i lines) e) ∙ ap Some (append-nil kept)

-- where it is not shown after the last line, the trial fails
pub never_tried : (test : Played → Bool) (setup : Setup) (lines kept : List Line) (i : ℕ) (s : Played) → test s ≡ false →
    length lines ≤ i →
    IsTrying test setup lines i kept s → trial test setup lines ≡ None
never_tried test setup lines kept i s e over h =
    h.ahead ∙ ap (λ l. option_map (λ more. kept ++ more) (tried test s l)) (drop_all i lines over)
    ∙ ap (option_map (λ more. kept ++ more)) (unshown test s e)

-- the run of a stage that shows the goal
pub shown_run : (test : Played → Bool) (setup : Setup) (lines : List Line) (s : Played) → test s ≡ true → IsLed setup lines s →
    IsRunOf test setup lines s.rehearsal
shown_run test setup lines s e h =
    let same : s ≡ uncut s.rehearsal = h.same ∙ ap (λ (t : Played). uncut t.rehearsal) (sym h.same) in
    record {
      same = ap (λ (t : Played). t.rehearsal) h.same;
      led = h.led ∙ ap Ok same;
      count = h.count;
      shown = ap test (sym same) ∙ e;
    }
