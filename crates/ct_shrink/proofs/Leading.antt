-- What lines lead to.
use Rattle.std.proofs.Common.{◌≡◌, ◌+◌, Bool, List, [], ◌∷◌, ◌++◌, length, Option, Some, None, Result, Ok, Err, ap, sym, refl, ◌∙◌, cond}
use Rattle.std.proofs.Common.{append-nil}
use Rattle.std.specs.Prelude.{is_ok}
use Rattle.std.specs.Option.{option_or}
use Rattle.std.proofs.lemmas.List.{length-append}
use Rattle.std.proofs.lemmas.List.Sums.{fold-append}
use Rattle.ct_names.specs.declared.refusal.Refusal.{Refusal}
use Rattle.ct_model.specs.Cause.{cause}
use Rattle.ct_model.specs.declared.step.Step.{Step}
use Rattle.ct_world.specs.Setup.{record_of}
use Rattle.ct_world.specs.declared.setup.Setup.{Setup}
use Rattle.ct_play.specs.Acting.{go_on, step_of, stepped, unless_refused}
use Rattle.ct_grammar.specs.declared.term.Term.{Term}
use Rattle.ct_play.specs.Goals.{is_shown, shows, uncut}
use Rattle.ct_play.specs.Played.{Played, with_step}
use Rattle.ct_play.specs.declared.line_fault.LineFault.{LineFault}
use Rattle.ct_shrink.specs.Lines.{after_line, after_lines, after_taken, allowed, other_line, taken}
use Rattle.ct_shrink.specs.Trials.{behind}
use Rattle.ct_shrink.specs.declared.line.Line.{Line}

-- ---- one line

-- the stage is the old one with one more step
pub record IsNext (s t : Played) : Type 0 where
  pub step : Step
  pub is : t ≡ with_step s step

joined : (s t : Played) (step : Step) (c : Option Refusal) → unless_refused s step c ≡ Ok t → t ≡ with_step s step
joined s t step None e = cc
joined s t step (Some refusal) e = absurd (cc)

joined_by : (s t : Played) (r : Result Step LineFault) → go_on r (stepped s) ≡ Ok t → IsNext s t
unfolding stepped
joined_by s t (Ok step) e = record { step = step; is = joined s t step (cause s.rehearsal step) e }
joined_by s t (Err fault) e = absurd (cc)

pub line_joins : (s t : Played) (line : Line) → after_line s line ≡ Ok t → IsNext s t
unfolding after_line
line_joins s t line e = joined_by s t (step_of s.rehearsal line.member line.act) e

-- ---- a line that was taken

if_ok : (s : Played) (line kept : Line) (r : Result Played LineFault) → after_line s line ≡ r →
    cond (is_ok r) (Some line) None ≡ Some kept → after_line s kept ≡ Ok (after_taken s (Some kept))
unfolding after_taken
if_ok s line kept (Ok t) e h =
    let same : line ≡ kept = cc in
    let led : after_line s kept ≡ Ok t = ap (after_line s) (sym same) ∙ e in
    rw led refl
if_ok s line kept (Err fault) e h = absurd (cc)

allowed_leads : (s : Played) (line : Option Line) (kept : Line) → allowed s line ≡ Some kept →
    after_line s kept ≡ Ok (after_taken s (Some kept))
unfolding allowed
allowed_leads s None kept h = absurd (cc)
allowed_leads s (Some line) kept h = if_ok s line kept (after_line s line) refl h

either_leads : (s : Played) (a b : Option Line) (kept : Line) →
    (a ≡ Some kept → after_line s kept ≡ Ok (after_taken s (Some kept))) →
    (b ≡ Some kept → after_line s kept ≡ Ok (after_taken s (Some kept))) → option_or a b ≡ Some kept →
    after_line s kept ≡ Ok (after_taken s (Some kept))
either_leads s (Some line) b kept f g h = f h
either_leads s None b kept f g h = g h

-- a line that is taken leads to the stage after it
pub taken_leads : (s : Played) (line kept : Line) → taken s line ≡ Some kept → after_line s kept ≡ Ok (after_taken s (Some kept))
unfolding taken
taken_leads s line kept h =
    either_leads s (allowed s (Some line)) (allowed s (other_line s.rehearsal line)) kept (allowed_leads s (Some line) kept)
    (allowed_leads s (other_line s.rehearsal line) kept) h

-- ---- lines

-- the lines lead from the stage without steps to this one, and each is a step
pub record IsLed (setup : Setup) (lines : List Line) (s : Played) : Type 0 where
  pub same : s ≡ uncut (record_of setup s.rehearsal.steps)
  pub led : after_lines (uncut (record_of setup [])) lines ≡ Ok s
  pub count : length s.rehearsal.steps ≡ length lines

pub none_led : (setup : Setup) (lines : List Line) (s : Played) → s ≡ uncut (record_of setup []) → lines ≡ [] → IsLed setup lines s
none_led setup lines s e n =
    record {
      same = e ∙ ap (λ (t : Played). uncut (record_of setup t.rehearsal.steps)) (sym e);
      led = ap (after_lines (uncut (record_of setup []))) n ∙ ap Ok (sym e);
      count = ap (λ (t : Played). length t.rehearsal.steps) e ∙ sym (ap length n);
    }

step_same : (setup : Setup) (s : Played) (step : Step) → s ≡ uncut (record_of setup s.rehearsal.steps) →
    with_step s step ≡ uncut (record_of setup (s.rehearsal.steps ++ step ∷ []))
step_same setup s step e = ap (λ (t : Played). with_step t step) e

pub one_led : (setup : Setup) (lines : List Line) (line : Line) (s t : Played) → IsLed setup lines s → after_line s line ≡ Ok t →
    IsLed setup (lines ++ line ∷ []) t
one_led setup lines line s t h e =
    let next = line_joins s t line e in
    let more : t ≡ uncut (record_of setup (s.rehearsal.steps ++ next.step ∷ [])) = next.is ∙ step_same setup s next.step h.same in
    let steps : t.rehearsal.steps ≡ s.rehearsal.steps ++ next.step ∷ [] = ap (λ (u : Played). u.rehearsal.steps) more in
    record {
      same = more ∙ ap (λ l. uncut (record_of setup l)) (sym steps);
      led = fold-append (λ r l. go_on r (λ u. after_line u l)) (Ok (uncut (record_of setup []))) lines (line ∷ [])
          ∙ ap (λ r. go_on r (λ u. after_line u line)) h.led ∙ e;
      count = ap length steps ∙ length-append s.rehearsal.steps (next.step ∷ []) ∙ ap (λ n. n + 1) h.count
          ∙ sym (length-append lines (line ∷ []));
    }

-- the same for a line that was taken, or left out
pub taken_led : (setup : Setup) (lines : List Line) (line : Line) (s : Played) (kept : Option Line) → taken s line ≡ kept →
    IsLed setup lines s → IsLed setup (lines ++ behind kept []) (after_taken s kept)
unfolding after_taken
taken_led setup lines line s None e h = rw append-nil h
taken_led setup lines line s (Some l) e h = one_led setup lines l s (after_taken s (Some l)) h (taken_leads s line l e)

-- ---- what is shown

-- what a watch answers that looks for this goal
pub looked_for : (o : Option (List Term)) (goal : List Term) (s : Played) (b : Bool) → b ≡ is_shown o s → o ≡ Some goal → shows goal s ≡ b
unfolding is_shown
looked_for o goal s b e f = sym (e ∙ ap (λ (x : Option (List Term)). is_shown x s) f)
