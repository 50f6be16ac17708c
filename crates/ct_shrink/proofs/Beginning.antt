-- The beginnings of a record, one after the other.
use Rattle.std.proofs.Common.{◌≡◌, Bool, ℕ, ◌+◌, ◌<◌, ◌≤◌, true, false, List, [], ◌∷◌, ◌++◌, length, take, get_or, Ok, ap, sym, ◌∙◌, arith}
use Rattle.std.proofs.Common.{below_more, length-append}
use Rattle.std.proofs.lemmas.List.{take_more}
use Rattle.ct_model.specs.declared.step.Step.{Step}
use Rattle.ct_world.specs.Setup.{record_of}
use Rattle.ct_world.specs.declared.setup.Setup.{Setup}
use Rattle.ct_play.specs.Goals.{uncut}
use Rattle.ct_play.specs.Played.{Played, with_step}
use Rattle.ct_shrink.specs.Lines.{after_line}
use Rattle.ct_shrink.specs.Runs.{IsFirstOf, IsNeverShown, shows_after}
use Rattle.ct_shrink.specs.declared.line.Line.{Line}
use Rattle.ct_shrink.proofs.Leading.{IsLed, none_led, one_led}
use Rattle.ct_shrink.proofs.Tried.{shown_run}

-- the stage is that of so many steps, with these lines, and no beginning before it shows the goal
pub record IsBegun (test : Played → Bool) (setup : Setup) (steps : List Step) (i : ℕ) (lines : List Line) (s : Played) : Type 0 where
  pub led : IsLed setup lines s
  pub stage : s ≡ uncut (record_of setup (take i steps))
  pub count : length lines ≡ i
  pub before : (k : ℕ) → k < i → shows_after test setup steps k ≡ false

pub none_begun : (test : Played → Bool) (setup : Setup) (steps : List Step) (lines : List Line) (s : Played) →
    s ≡ uncut (record_of setup []) →
    lines ≡ [] → IsBegun test setup steps 0 lines s
none_begun test setup steps lines s e n = record {
  led = none_led setup lines s e n;
  stage = e;
  count = ap length n;
  before = λ k lt. absurd (omega (arith, lt));
}

hidden_more : (test : Played → Bool) (setup : Setup) (steps : List Step) (i : ℕ) (s : Played) →
    s ≡ uncut (record_of setup (take i steps)) → test s ≡ false → ((k : ℕ) → k < i → shows_after test setup steps k ≡ false) →
    (k : ℕ) → k < i + 1 → shows_after test setup steps k ≡ false
hidden_more test setup steps i s stage hidden before =
    below_more (λ k. shows_after test setup steps k ≡ false) i before (ap test (sym stage) ∙ hidden)

-- one more step, where the goal is not shown yet
pub one_begun : (test : Played →
    Bool) (setup : Setup) (steps : List Step) (lines more : List Line) (i : ℕ) (d step : Step) (line : Line) (s t : Played) →
    i < length steps → get_or steps i d ≡ step → test s ≡ false → IsBegun test setup steps i lines s → more ≡ lines ++ line ∷ [] →
    after_line s line ≡ Ok t → t ≡ with_step s step → IsBegun test setup steps (i + 1) more t
one_begun test setup steps lines more i d step line s t lt here hidden h m e joined =
    let led : IsLed setup (lines ++ line ∷ []) t = one_led setup lines line s t h.led e in
    rw m record {
      led = led;
      stage = joined ∙ ap (λ (u : Played). with_step u step) h.stage
          ∙ ap (λ l. uncut (record_of setup (take i steps ++ l ∷ []))) (sym here)
          ∙ ap (λ l. uncut (record_of setup l)) (sym (take_more steps i d lt));
      count = simp length-append (ap (λ n. n + 1) h.count);
      before = hidden_more test setup steps i s h.stage hidden h.before;
    }

-- the first beginning that shows the goal
pub shown_begun : (test : Played → Bool) (setup : Setup) (steps : List Step) (lines : List Line) (i : ℕ) (s : Played) → i ≤ length steps →
    test s ≡ true → IsBegun test setup steps i lines s → IsFirstOf test setup steps lines s.rehearsal
shown_begun test setup steps lines i s within e h = record {
  run = shown_run test setup lines s e h.led;
  first = rw h.count record {
    within = within;
    shown = ap test (sym h.stage) ∙ e;
    before = h.before;
  };
}

-- none shows it
pub never_begun : (test : Played → Bool) (setup : Setup) (steps : List Step) (lines : List Line) (i : ℕ) (s : Played) → length steps ≤ i →
    test s ≡ false → IsBegun test setup steps i lines s → IsNeverShown test setup steps
never_begun test setup steps lines i s all e h k within =
    hidden_more test setup steps i s h.stage e h.before k (omega (arith, within, all))
