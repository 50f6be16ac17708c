-- What the run is, once it is told what a trial left.
use Rattle.std.proofs.Common.{◌≡◌, ◌<◌, ◌≤◌, Bool, true, false, List, length, Option, Some, None, cond, refl, subst, sym, ◌∙◌, arith}
use Rattle.std.specs.Prelude.{nat_lt}
use Rattle.std.proofs.lemmas.Bool.Decides.{nat_tests}
use Rattle.ct_model.specs.Rehearsal.{Rehearsal}
use Rattle.ct_world.specs.declared.setup.Setup.{Setup}
use Rattle.ct_play.specs.Played.{Played}
use Rattle.ct_shrink.specs.Runs.{IsRunOf}
use Rattle.ct_shrink.specs.Shrinking.{Agrees, Shrinking, smaller}
use Rattle.ct_shrink.specs.Trials.{IsTried, trial}
use Rattle.ct_shrink.specs.declared.line.Line.{Line}

no_more_by : (b : Bool) (lines kept : List Line) → nat_lt (length kept) (length lines) ≡ b → length (cond b kept lines) ≤ length lines
no_more_by true lines kept is = grind (arith, nat_tests)
no_more_by false lines kept is = omega arith

-- no longer than it was
pub smaller_no_more : (lines : List Line) (kept : Option (List Line)) → length (smaller lines kept) ≤ length lines
smaller_no_more lines None = omega arith
smaller_no_more lines (Some kept) = no_more_by (nat_lt (length kept) (length lines)) lines kept refl

left_by : (b : Bool) (lines kept : List Line) → length (cond b kept lines) < length lines → cond b kept lines ≡ kept
left_by true lines kept fewer = refl
left_by false lines kept fewer = absurd (omega (arith, fewer))

same_by : (b : Bool) (lines kept : List Line) → nat_lt (length kept) (length lines) ≡ b → length lines ≤ length (cond b kept lines) →
    cond b kept lines ≡ lines
same_by true lines kept is long = absurd (grind (arith, nat_tests))
same_by false lines kept is long = refl

module _ (test : Played → Bool) (setup : Setup) (s t : Shrinking) (w : Rehearsal) (kept : List Line)
    (told : t.lines ≡ smaller s.lines (Some kept)) (agrees : Agrees (trial test setup) t) where
  -- where it is shorter, it is what was left
  pub left : length t.lines < length s.lines → IsRunOf test setup kept w → IsTried test setup t w
  left fewer run =
      let same : t.lines ≡ kept = told ∙ left_by (nat_lt (length kept) (length s.lines)) s.lines kept (rw (← told) fewer) in
      record { run = subst (λ lines. IsRunOf test setup lines w) (sym same) run; agrees = agrees }

  -- else it is what it was
  pub stays : length s.lines ≤ length t.lines → IsRunOf test setup s.lines w → IsTried test setup t w
  stays long run =
      let same : t.lines ≡ s.lines = told ∙ same_by (nat_lt (length kept) (length s.lines)) s.lines kept refl (rw (← told) long) in
      record { run = subst (λ lines. IsRunOf test setup lines w) (sym same) run; agrees = agrees }
