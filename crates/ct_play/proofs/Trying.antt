-- What a step that is tried comes to, and rounds that change nothing.
use Rattle.std.proofs.Common.{◌≡◌, ℕ, zero, suc, ◌+◌, ◌-◌, ◌≤◌, List, Option, Some, None, Ok, Err, arith, sym, ap, ◌∙◌, refl}
use Rattle.std.specs.Prelude.{is_none, if◌then◌else◌}
use Rattle.ct_names.specs.declared.refusal.Refusal.{Refusal}
use Rattle.ct_model.specs.Cause.{cause}
use Rattle.ct_model.specs.declared.step.Step.{Step}
use Rattle.ct_model.specs.Rehearsal.{extended}
use Rattle.ct_grammar.specs.declared.play.Play.{Play}
use Rattle.ct_play.specs.declared.line_fault.LineFault.{LineFault}
use Rattle.ct_play.specs.Acting.{stepped, unless_refused}
use Rattle.ct_play.specs.Played.{Played, with_record}
use Rattle.ct_play.specs.Turning.{after_attempt, after_round, after_rounds}

joined : (s new : Played) (step : Step) (c : Option Refusal) → unless_refused s step c ≡ Ok new →
    new ≡ with_record s (if is_none c then extended s.rehearsal step else s.rehearsal)
joined s new step None e = cc
joined s new step (Some refusal) e = absurd (cc)

pub joins : (s new : Played) (step : Step) → stepped s step ≡ Ok new → new ≡ after_attempt s (Some step)
unfolding stepped
joins s new step e = joined s new step (cause s.rehearsal step) e

stayed : (s : Played) (step : Step) (c : Option Refusal) (fault : LineFault) → unless_refused s step c ≡ Err fault →
    s ≡ with_record s (if is_none c then extended s.rehearsal step else s.rehearsal)
stayed s step None fault e = absurd (cc)
stayed s step (Some refusal) fault e = refl

pub rests : (s new : Played) (step : Step) (fault : LineFault) → stepped s step ≡ Err fault → new ≡ s → new ≡ after_attempt s (Some step)
unfolding stepped
rests s new step fault e same = same ∙ stayed s step (cause s.rehearsal step) fault e

-- ---- rounds

pub no_rounds : (play : Play) (ps : List ℕ) (s : Played) → after_rounds play ps s 0 ≡ s
unfolding after_rounds
no_rounds play ps s = refl

pub one_more : (play : Play) (ps : List ℕ) (s : Played) (k : ℕ) →
    after_rounds play ps s (suc k) ≡ after_round play ps (after_rounds play ps s k)
unfolding after_rounds
one_more play ps s k = refl

rest_for : (play : Play) (ps : List ℕ) (s : Played) (k : ℕ) → after_round play ps (after_rounds play ps s k) ≡ after_rounds play ps s k →
    (d n : ℕ) → n ≡ k + d → after_rounds play ps s n ≡ after_rounds play ps s k
rest_for play ps s k h zero n e =
    let same : n ≡ k = omega arith in
    ap (after_rounds play ps s) same
rest_for play ps s k h (suc d) zero e = absurd (omega arith)
rest_for play ps s k h (suc d) (suc m) e =
    one_more play ps s m ∙ (ap (after_round play ps) (rest_for play ps s k h d m (omega arith)) ∙ h)

-- where a round changes nothing, all those behind it change nothing
pub rest_on : (play : Play) (ps : List ℕ) (s v : Played) (k n : ℕ) → k ≤ n → v ≡ after_rounds play ps s k → v ≡ after_round play ps v →
    v ≡ after_rounds play ps s n
rest_on play ps s v k n le e h =
    let here : after_round play ps (after_rounds play ps s k) ≡ after_rounds play ps s k =
    ap (after_round play ps) (sym e) ∙ (sym h ∙ e) in
    e ∙ sym (rest_for play ps s k here (n - k) n (omega arith))
