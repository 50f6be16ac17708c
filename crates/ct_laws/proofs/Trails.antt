-- The steps of a window, by their indices in the record.
use Rattle.std.proofs.Common.{◌≡◌, ◌⊎◌, ℕ, zero, suc, ◌+◌, ◌-◌, ◌<◌, ◌≤◌, Bool, true, false, List, [], ◌∷◌, ◌++◌, length, refl, ap}
use Rattle.std.proofs.Common.{Option, Some, None, sym, ◌∙◌, subst, arith, inl, inr, fold, nat_le, leb-true, le-leb}
use Rattle.std.proofs.Common.{eq-or-lt_of_le, append_assoc}
use Rattle.std.proofs.lemmas.Bool.Decides.{nat_tests}
use Rattle.std.proofs.lemmas.List.Sums.{fold-append}
use Rattle.std.specs.Prelude.{slice_get, ◌&&◌, ◌||◌, nat_lt, if◌then◌else◌}
use Rattle.ct_names.specs.Membership.{IsIn, IsWithoutRepeats}
use Rattle.ct_names.proofs.Lists.{IsIn-append_cases, IsIn-append_left, IsIn-append_right, IsWithoutRepeats-append, both}
use Rattle.ct_names.proofs.Lists.{both-left, both-right, contrary}
use Rattle.ct_model.specs.Rehearsal.{Rehearsal, extended, state_of}
use Rattle.ct_model.specs.State.{at_serial}
use Rattle.ct_model.specs.declared.step.Step.{Step}
use Rattle.ct_model.proofs.Basics.Options.{some-none, some-same}
use Rattle.ct_model.proofs.Basics.Tests.{not_true, or_cases}
use Rattle.ct_records.specs.Replay.{IsAllowed}
use Rattle.ct_show.specs.Facts.{returns, takes}
use Rattle.ct_diagram.specs.Diagram.{drawn_after, drawn_next, first_trail, whole_trail}
use Rattle.ct_diagram.specs.Sight.{glance_of}
use Rattle.ct_diagram.specs.Trail.{origin, origin_or, place_after, puts}
use Rattle.ct_diagram.specs.Window.{is_drawn}
use Rattle.ct_diagram.specs.declared.window.Window.{Window}
use Rattle.ct_laws.specs.Diagrams.{Drawn, HasColumn, HasSteps, IsStepOf, sent_by}
use Rattle.ct_laws.proofs.Records.{grows, part, part_next, within}
use Rattle.ct_laws.proofs.Waits.{NonePass, Sends, mail_returned, mail_sent, never_returned, never_returned_sent, returned_between}

-- ---- a step that is drawn

abbrev pub trail_at : Window → Rehearsal → ℕ → List Drawn
trail_at window w n = first_trail window w.setting w.cells w.steps n

abbrev pub drawn_at : Window → Rehearsal → ℕ → Step → Drawn
drawn_at window w m step =
    drawn_after window (extended (part w m) step) (trail_at window w m) (length (state_of (part w m)).sent) (m + 1) step
    (glance_of (part w m) step)

-- the window has the step of this index, and it is drawn so
pub record IsAt (window : Window) (w : Rehearsal) (m : ℕ) (d : Drawn) : Type 0 where
  pub at : slice_get w.steps m ≡ Some d.step
  pub drawn : is_drawn window (m + 1) ≡ true
  pub is : d ≡ drawn_at window w m d.step
  pub within : m < length w.steps
  pub low : window.from ≤ m + 1
  pub high : m + 1 ≤ window.to
  pub number : d.number ≡ m + 1
  pub before : d.before ≡ sent_by w m
  pub sent : d.sent ≡ sent_by w (suc m)
  pub place : d.place ≡ place_after (trail_at window w m) d.sight

pub drawn_low : (window : Window) (n : ℕ) → is_drawn window n ≡ true → window.from ≤ n
drawn_low window n h = leb-true window.from n (both-left (nat_le window.from n) (nat_le n window.to) h)

pub drawn_of : (window : Window) (n : ℕ) → window.from ≤ n → n ≤ window.to → is_drawn window n ≡ true
drawn_of window n low high =
    both (nat_le window.from n) (nat_le n window.to) (le-leb window.from n low) (le-leb n window.to high)

module _ (window : Window) (w : Rehearsal) where
  pub step_is : (m : ℕ) (step : Step) → (drawn_at window w m step).step ≡ step
  unfolding drawn_after
  step_is m step = refl

  pub at_here : (m : ℕ) (step : Step) → slice_get w.steps m ≡ Some step → is_drawn window (m + 1) ≡ true →
      IsAt window w m (drawn_at window w m step)
  unfolding drawn_after
  at_here m step at drawn = record {
    at = at;
    drawn = drawn;
    is = refl;
    within = within w.steps m step at;
    low = drawn_low window (m + 1) drawn;
    high = leb-true (m + 1) window.to (both-right (nat_le window.from (m + 1)) (nat_le (m + 1) window.to) drawn);
    number = refl;
    before = refl;
    sent = sym (ap (λ v. length (state_of v).sent) (part_next w m step at));
    place = refl;
  }

  pub at_one : (m : ℕ) (d e : Drawn) → IsAt window w m d → IsAt window w m e → d ≡ e
  at_one m d e h k = h.is ∙ ap (drawn_at window w m) (some-same d.step e.step (sym h.at ∙ k.at)) ∙ sym k.is

  -- a step between two steps of the window, or behind one and not behind the window
  pub at_between : (i n m : ℕ) (step : Step) → is_drawn window (i + 1) ≡ true → i ≤ m → m ≤ n → n + 1 ≤ window.to →
      slice_get w.steps m ≡ Some step → IsAt window w m (drawn_at window w m step)
  at_between i n m step first low high last at =
      let from = drawn_low window (i + 1) first in
      at_here m step at (drawn_of window (m + 1) (omega arith) (omega arith))

  -- ---- what is drawn of the first steps

  -- what the step of an index adds: nothing where it isn't drawn
  data Adds (n : ℕ) : List Drawn → Type 0 where
    nothing : ((d : Drawn) → IsAt window w n d → ⊥) → Adds n []
    one : (d : Drawn) → IsAt window w n d → Adds n (d ∷ [])

  abbrev added : ℕ → List Drawn
  added n = drawn_next window (part w n) (trail_at window w n) n (slice_get w.steps n)

  adds : (n : ℕ) → Adds n (added n)
  adds n = by_step (slice_get w.steps n) refl
    where
      by_test : (step : Step) → slice_get w.steps n ≡ Some step → (b : Bool) → is_drawn window (n + 1) ≡ b →
          Adds n (if b then drawn_at window w n step ∷ [] else [])
      by_test step at true is = one (drawn_at window w n step) (at_here n step at is)
      by_test step at false is = nothing (λ d h. contrary (is_drawn window (n + 1)) h.drawn is)

      by_step : (o : Option Step) → slice_get w.steps n ≡ o → Adds n (drawn_next window (part w n) (trail_at window w n) n o)
      by_step None at = nothing (λ d h. some-none d.step (sym at ∙ h.at))
      by_step (Some step) at = by_test step at (is_drawn window (n + 1)) refl

  in_added : {next : List Drawn} (n : ℕ) (d : Drawn) → Adds n next → IsIn d next → IsAt window w n d
  in_added n d (nothing none) h = absurd h
  in_added n d (one e at) (inl same) = subst (λ x. IsAt window w n x) (sym same) at
  in_added n d (one e at) (inr h) = absurd h

  -- a step of the window among the first n
  pub record IsAmong (n : ℕ) (d : Drawn) : Type 0 where
    pub index : ℕ
    pub below : index < n
    pub is : IsAt window w index d

  pub in_trail : (n : ℕ) (d : Drawn) → IsIn d (trail_at window w n) → IsAmong n d
  in_trail zero d h = absurd h
  in_trail (suc n) d h =
      elim (IsIn-append_cases d (trail_at window w n) (added n) h) [
        | inl k ↦ let r = in_trail n d k in record { index = r.index; below = omega arith; is = r.is }
        | inr k ↦ record { index = n; below = omega arith; is = in_added n d (adds n) k }
      ]

  pub once_trail : (n : ℕ) → IsWithoutRepeats (trail_at window w n)
  once_trail zero = tt
  once_trail (suc n) =
      IsWithoutRepeats-append (trail_at window w n) (added n) (once_trail n) (once (adds n)) (λ d h k.
      let r = in_trail n d h in
      let at = in_added n d (adds n) k in
      omega arith)
    where
      once : {next : List Drawn} → Adds n next → IsWithoutRepeats next
      once (nothing none) = tt
      once (one d at) = ((λ h. h), tt)

  pub trail_has : (n m : ℕ) (d : Drawn) → m < n → IsAt window w m d → IsIn d (trail_at window w n)
  trail_has zero m d less h = absurd (omega arith)
  trail_has (suc n) m d less h =
      let up : m ≤ n = omega arith in
      elim (eq-or-lt_of_le up) [
        | inl same ↦ IsIn-append_right d (trail_at window w n) (added n) (has (subst (λ i. IsAt window w i d) same h) (adds n))
        | inr low ↦ IsIn-append_left d (trail_at window w n) (added n) (trail_has n m d low h)
      ]
    where
      has : {next : List Drawn} → IsAt window w n d → Adds n next → IsIn d next
      has at (nothing none) = absurd (none d at)
      has at (one e there) = inl (at_one n d e at there)

  pub in_whole : (d : Drawn) → IsIn d (whole_trail window w) → IsAmong (length w.steps) d
  in_whole d h = in_trail (length w.steps) d h

  pub whole_has : (m : ℕ) (d : Drawn) → IsAt window w m d → IsIn d (whole_trail window w)
  whole_has m d h = trail_has (length w.steps) m d h.within h

  -- two steps of one number
  pub same_number_one : (d e : Drawn) → IsIn d (whole_trail window w) → IsIn e (whole_trail window w) → d.number ≡ e.number → d ≡ e
  same_number_one d e h k same =
      let a = in_whole d h in
      let b = in_whole e k in
      let index : a.index ≡ b.index = omega arith in
      at_one b.index d e (subst (λ i. IsAt window w i d) index a.is) b.is

  -- ---- the steps of the window

  pub step_of : (d : Drawn) → IsIn d (whole_trail window w) → IsStepOf window w d
  step_of d h =
      let a = in_whole d h in
      let next : suc a.index ≡ d.number = omega arith in
      let plus : a.index + 1 ≡ d.number = omega arith in
      let minus : a.index ≡ d.number - 1 = omega arith in
      record {
        drawn = subst (λ n. is_drawn window n ≡ true) plus a.is.drawn;
        step = subst (λ n. at_serial w.steps n ≡ Some d.step) next a.is.at;
        before = subst (λ n. d.before ≡ sent_by w n) minus a.is.before;
        sent = subst (λ n. d.sent ≡ sent_by w n) next a.is.sent;
      }

  step_there : (n : ℕ) (step : Step) → is_drawn window n ≡ true → at_serial w.steps n ≡ Some step →
      (d : Drawn) × IsIn d (whole_trail window w) × (d.number ≡ n)
  step_there zero step drawn at = some-none step at
  step_there (suc m) step drawn at =
      let plus : suc m ≡ m + 1 = omega arith in
      let here = at_here m step at (subst (λ n. is_drawn window n ≡ true) plus drawn) in
      (drawn_at window w m step, whole_has m (drawn_at window w m step) here, here.number ∙ sym plus)

  column_of : (n : ℕ) (d : Drawn) → IsIn d (trail_at window w n) → HasColumn (trail_at window w n) d
  column_of zero d h = absurd h
  column_of (suc n) d h =
      elim (IsIn-append_cases d (trail_at window w n) (added n) h) [ inl k ↦ go (column_of n d k) | inr k ↦ new (adds n) k ]
    where
      go : HasColumn (trail_at window w n) d → HasColumn (trail_at window w n ++ added n) d
      go c = record {
        earlier = c.earlier;
        later = c.later ++ added n;
        all = ap (λ l. l ++ added n) c.all ∙ append_assoc c.earlier (d ∷ c.later) (added n);
        place = c.place;
      }

      new : {next : List Drawn} → Adds n next → IsIn d next → HasColumn (trail_at window w n ++ next) d
      new (nothing none) k = absurd k
      new (one e at) (inl same) =
          subst (λ x. HasColumn (trail_at window w n ++ e ∷ []) x) (sym same)
          (record { earlier = trail_at window w n; later = []; all = refl; place = at.place })
      new (one e at) (inr k) = absurd k

  pub has_steps : HasSteps window w
  has_steps = record {
    each = step_of;
    all = step_there;
    one = same_number_one;
    columns = λ d h. column_of (length w.steps) d h;
  }

  -- ---- where an envelope's way begins

  -- the last of the first n steps of the window that puts the envelope into its line
  abbrev pub IsOrigin : (n serial : ℕ) → Option Drawn → Type 0
  IsOrigin n k None = (m : ℕ) (d : Drawn) → m < n → IsAt window w m d → puts k d ≡ false
  IsOrigin n k (Some d) =
      (i : ℕ) × (i < n) × IsAt window w i d × (puts k d ≡ true)
      × ((m : ℕ) (e : Drawn) → i < m → m < n → IsAt window w m e → puts k e ≡ false)

  origin_same : (n k : ℕ) (before : Option Drawn) → ((e : Drawn) → IsAt window w n e → puts k e ≡ false) → IsOrigin n k before →
      IsOrigin (suc n) k before
  origin_same n k None none h = λ m d less at.
      let up : m ≤ n = omega arith in
      elim (eq-or-lt_of_le up) [ inl same ↦ none d (subst (λ i. IsAt window w i d) same at) | inr low ↦ h m d low at ]
  origin_same n k (Some d) none h =
      let below = h.1 in (
        h.0,
        omega arith,
        h.2,
        h.3,
        λ m e from less at.
            let up : m ≤ n = omega arith in
            elim (eq-or-lt_of_le up) [ inl same ↦ none e (subst (λ i. IsAt window w i e) same at) | inr low ↦ h.4 m e from low at ],
      )

  origin_put : (n k : ℕ) (before : Option Drawn) (d : Drawn) → IsOrigin n k before → IsAt window w n d → (b : Bool) → puts k d ≡ b →
      IsOrigin (suc n) k (if b then Some d else before)
  origin_put n k before d h at true is = (n, omega arith, at, is, λ m e from less there. absurd (omega arith))
  origin_put n k before d h at false is =
      origin_same n k before (λ e there. subst (λ x. puts k x ≡ false) (at_one n d e at there) is) h

  pub origin_is : (n k : ℕ) → IsOrigin n k (origin (trail_at window w n) k)
  origin_is zero k = λ m d less at. absurd (omega arith)
  origin_is (suc n) k =
      subst (IsOrigin (suc n) k) (sym (fold-append (origin_or k) None (trail_at window w n) (added n)))
      (go (origin (trail_at window w n) k) (origin_is n k) (adds n))
    where
      go : {next : List Drawn} (before : Option Drawn) → IsOrigin n k before → Adds n next →
          IsOrigin (suc n) k (fold (origin_or k) before next)
      go before h (nothing none) = origin_same n k before (λ e there. absurd (none e there)) h
      go before h (one d at) = origin_put n k before d h at (puts k d) refl

  -- ---- putting and taking

  pub put_cases : (m k : ℕ) (d : Drawn) → IsAt window w m d → puts k d ≡ true → (returns d.step k ≡ true) ⊎ Sends w m k
  put_cases m k d at h =
      elim (or_cases (returns d.step k) (nat_lt d.before k && nat_le k d.sent) h) [
        | inl r ↦ inl r
        | inr s ↦ inr (grind (arith, nat_tests, at.before, at.sent), grind (arith, nat_tests, at.before, at.sent))
      ]

module _ (window : Window) (w : Rehearsal) (all : IsAllowed w) where
  -- what a step put into its line no later step puts there before one takes it out
  pub never_again : (i m k : ℕ) (d e : Drawn) → IsAt window w i d → IsAt window w m e → i < m → puts k d ≡ true → puts k e ≡ true →
      NonePass (λ step. takes step k) w (suc i) m → ⊥
  never_again i m k d e here there less p q none =
      let grown = grows w all i m (omega arith) (omega arith) in
      let grown_next = grows w all (suc i) m less (omega arith) in
      elim (put_cases window w m k e there q) [
        | inl r ↦ elim (put_cases window w i k d here p) [
          | inl s ↦ never_returned w all i m k d.step e.step here.at there.at s r less none
          | inr s ↦ never_returned_sent w all i m k d.step e.step here.at there.at s r less none
        ]
        | inr r ↦ elim (put_cases window w i k d here p) [
          | inl s ↦ let sent = mail_sent w i _ k (mail_returned w all i k d.step here.at s) in omega arith
          | inr s ↦ omega arith
        ]
      ]

  -- a step that takes an envelope: none that puts it there stands between it and one that took it out before
  pub never_taken : (low n k : ℕ) (e : Drawn) → IsAt window w n e → takes e.step k ≡ true →
      ((m : ℕ) (f : Drawn) → low ≤ m → m < n → IsAt window w m f → puts k f ≡ false) → (m : ℕ) (f : Drawn) → low ≤ m → m < n →
      IsAt window w m f → takes f.step k ≡ false
  never_taken low n k e there t none m f from less at =
      not_true (takes f.step k) (λ is. returned_between w all m n k f.step e.step at.at there.at is t less between)
    where
      not_or : (a b : Bool) → (a || b) ≡ false → a ≡ false
      not_or a b h = grind arith

      between : NonePass (λ step. returns step k) w (suc m) n
      between j step lower upper here =
          let d = drawn_at window w j step in
          let at_j = at_between window w m n j step at.drawn (omega arith) (omega arith) there.high here in
          subst (λ s. returns s k ≡ false) (step_is window w j step)
          (not_or (returns d.step k) (nat_lt d.before k && nat_le k d.sent) (none j d (omega arith) upper at_j))

-- none of the window's steps between two takes it, so none of the record's does
pub none_between : (window : Window) (w : Rehearsal) (i n k last : ℕ) → is_drawn window (i + 1) ≡ true → n ≤ window.to → n ≤ last →
    ((x : Drawn) → IsIn x (whole_trail window w) → i + 1 < x.number → x.number ≤ last → takes x.step k ≡ false) →
    NonePass (λ step. takes step k) w (suc i) n
none_between window w i n k last drawn high less none j step lower upper here =
    let at_j = at_between window w i j j step drawn (omega arith) (omega arith) (omega arith) here in
    let x = drawn_at window w j step in
    subst (λ s. takes s k ≡ false) (step_is window w j step)
    (none x (whole_has window w j x at_j) (omega arith) (omega arith))
