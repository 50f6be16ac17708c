-- The arrows of a diagram, in the order in which they are drawn.
use Rattle.std.proofs.Common.{◌≡◌, ◌⊎◌, ℕ, zero, suc, ◌+◌, ◌-◌, ◌<◌, ◌≤◌, Bool, true, false, List, [], ◌∷◌, ◌++◌, drop, length, refl, ap}
use Rattle.std.proofs.Common.{Option, Some, None, sym, ◌∙◌, subst, arith, inl, inr, nat_le, lt-ltb, le-leb, eq-or-lt_of_le, leb-true}
use Rattle.std.proofs.Common.{ltb-true}
use Rattle.std.specs.Prelude.{◌&&◌, flat_map, nat_lt, if◌then◌else◌}
use Rattle.std.proofs.lemmas.Bool.{or_left, or_right}
use Rattle.std.proofs.lemmas.Bool.Decides.{nat_tests}
use Rattle.ct_names.specs.Membership.{IsIn, IsWithoutRepeats}
use Rattle.ct_names.proofs.Lists.{IsIn-append_cases, IsIn-append_left, IsIn-append_right, IsWithoutRepeats-append, both, both-left}
use Rattle.ct_names.proofs.Lists.{both-right}
use Rattle.ct_model.specs.Rehearsal.{Rehearsal}
use Rattle.ct_model.specs.declared.envelope.Envelope.{Envelope}
use Rattle.ct_model.specs.declared.step.Step.{Step}
use Rattle.ct_model.proofs.Basics.Options.{some-none}
use Rattle.ct_model.proofs.Basics.Tests.{or_cases}
use Rattle.ct_records.specs.Replay.{IsAllowed}
use Rattle.ct_show.specs.Facts.{returns, takes}
use Rattle.ct_diagram.specs.Trail.{is_taken, origin, puts, returned, taken}
use Rattle.ct_diagram.specs.Diagram.{whole_trail}
use Rattle.ct_diagram.specs.declared.window.Window.{Window}
use Rattle.ct_laws.specs.Diagrams.{Drawn, wanted}
use Rattle.ct_laws.proofs.Cases.{if_either}
use Rattle.ct_laws.proofs.DrawnArrows.{DrawnArrow}
use Rattle.ct_laws.proofs.Trails.{IsAmong, IsAt, in_whole, once_trail, same_number_one, trail_at, whole_has}
use Rattle.ct_laws.proofs.Waits.{mail_returned, mail_sent}

-- ---- those of a step

-- of the envelope of a serial, that a member sent
abbrev pub an_arrow : ℕ → ℕ × Envelope (Unit {0}) → (from to : Option Drawn) → DrawnArrow
an_arrow k sent from to = record { serial = k; sender = sent.0; envelope = sent.1; from = from; to = to }

abbrev pub one_arrow : ℕ → (from to : Option Drawn) → Option (ℕ × Envelope (Unit {0})) → List DrawnArrow
one_arrow k from to None = []
one_arrow k from to (Some sent) = an_arrow k sent from to ∷ []

abbrev pub taken_arrows : Window → Rehearsal → List Drawn → Drawn → Option ℕ → List DrawnArrow
taken_arrows window w trail d None = []
taken_arrows window w trail d (Some k) = one_arrow k (origin trail k) (Some d) (wanted window w k)

abbrev pub stub_arrows : Window → Rehearsal → Drawn → List Step → ℕ → List DrawnArrow
stub_arrows window w d later k = if is_taken later k then [] else one_arrow k (Some d) None (wanted window w k)

abbrev pub returned_arrows : Window → Rehearsal → Drawn → List Step → Option ℕ → List DrawnArrow
returned_arrows window w d later None = []
returned_arrows window w d later (Some k) = stub_arrows window w d later k

abbrev pub sent_arrows : Window → Rehearsal → Drawn → List Step → ℕ → List DrawnArrow
sent_arrows window w d later zero = []
sent_arrows window w d later (suc j) = sent_arrows window w d later j ++ stub_arrows window w d later (d.before + suc j)

abbrev pub own_arrows : Window → Rehearsal → List Drawn → Drawn → List Step → List DrawnArrow
own_arrows window w trail d later =
    taken_arrows window w trail d (taken d.step)
    ++ (returned_arrows window w d later (returned d.step) ++ sent_arrows window w d later (d.sent - d.before))

abbrev pub own_at : Window → Rehearsal → ℕ → Drawn → List DrawnArrow
own_at window w m d = own_arrows window w (trail_at window w m) d (drop (m + 1) w.steps)

-- by its number
abbrev pub own_of : Window → Rehearsal → Drawn → List DrawnArrow
own_of window w d = own_at window w (d.number - 1) d

-- of some steps
abbrev pub all_arrows : Window → Rehearsal → List Drawn → List DrawnArrow
all_arrows window w trail = flat_map (own_of window w) trail

-- ---- lists of lists

in_flat : {A B : Type 0} (f : A → List B) (y : B) (xs : List A) → IsIn y (flat_map f xs) → (x : A) × IsIn x xs × IsIn y (f x)
in_flat f y [] h = absurd h
in_flat f y (x ∷ xs) h =
    elim (IsIn-append_cases y (f x) (flat_map f xs) h) [
      | inl i ↦ (x, inl refl, i)
      | inr i ↦ let r = in_flat f y xs i in (r.0, inr r.1, r.2)
    ]

flat_in : {A B : Type 0} (f : A → List B) (x : A) (y : B) (xs : List A) → IsIn x xs → IsIn y (f x) → IsIn y (flat_map f xs)
flat_in f x y [] h i = absurd h
flat_in f x y (z ∷ xs) (inl e) i = IsIn-append_left y (f z) (flat_map f xs) (subst (λ v. IsIn y (f v)) e i)
flat_in f x y (z ∷ xs) (inr h) i = IsIn-append_right y (f z) (flat_map f xs) (flat_in f x y xs h i)

once_flat : {A B : Type 0} (f : A → List B) (xs : List A) → IsWithoutRepeats xs → ((x : A) → IsIn x xs → IsWithoutRepeats (f x)) →
    ((x y : A) (z : B) → IsIn x xs → IsIn y xs → IsIn z (f x) → IsIn z (f y) → x ≡ y) → IsWithoutRepeats (flat_map f xs)
once_flat f [] once each apart = tt
once_flat f (x ∷ xs) once each apart =
    IsWithoutRepeats-append (f x) (flat_map f xs) (each x (inl refl))
    (once_flat f xs once.1 (λ y h. each y (inr h)) (λ y z v h i. apart y z v (inr h) (inr i)))
    (λ z h k.
    let r = in_flat f z xs k in
    once.0 (subst (λ y. IsIn y xs) (sym (apart x r.0 z (inl refl) (inr r.1) h r.2)) r.1))

-- ---- what a step takes out of its line, or puts back

pub taken_takes : (step : Step) (k : ℕ) → taken step ≡ Some k → takes step k ≡ true
taken_takes step k h = grind (arith, nat_tests)

takes_taken : (step : Step) (k : ℕ) → takes step k ≡ true → taken step ≡ Some k
takes_taken step k h = grind (arith, nat_tests)

pub returned_returns : (step : Step) (k : ℕ) → returned step ≡ Some k → returns step k ≡ true
returned_returns step k h = grind (arith, nat_tests)

returns_returned : (step : Step) (k : ℕ) → returns step k ≡ true → returned step ≡ Some k
returns_returned step k h = grind (arith, nat_tests)

-- ---- what an arrow of a step is

in_arrow : (k : ℕ) (from to : Option Drawn) (o : Option (ℕ × Envelope (Unit {0}))) (Is : DrawnArrow → Type 0) →
    ((sent : ℕ × Envelope (Unit {0})) → o ≡ Some sent → Is (an_arrow k sent from to)) → (a : DrawnArrow) → IsIn a (one_arrow k from to o) →
    Is a
in_arrow k from to None Is is a h = absurd h
in_arrow k from to (Some sent) Is is a (inl e) = subst Is (sym e) (is sent refl)
in_arrow k from to (Some sent) Is is a (inr h) = absurd h

has_arrow : (k : ℕ) (from to : Option Drawn) (sent : ℕ × Envelope (Unit {0})) (o : Option (ℕ × Envelope (Unit {0}))) → o ≡ Some sent →
    IsIn (an_arrow k sent from to) (one_arrow k from to o)
has_arrow k from to sent o h = subst (λ x. IsIn (an_arrow k sent from to) (one_arrow k from to x)) (sym h) (inl refl)

once_arrow : (k : ℕ) (from to : Option Drawn) (o : Option (ℕ × Envelope (Unit {0}))) → IsWithoutRepeats (one_arrow k from to o)
once_arrow k from to None = tt
once_arrow k from to (Some sent) = ((λ h. h), tt)

-- the number of the step that it goes to, or else from
abbrev number_of : (to from : Option Drawn) → ℕ
number_of None None = zero
number_of None (Some d) = d.number
number_of (Some e) from = e.number

module _ (window : Window) (w : Rehearsal) (m : ℕ) (d : Drawn) where
  pub record IsTaking (a : DrawnArrow) : Type 0 where
    pub takes : takes d.step a.serial ≡ true
    pub envelope : wanted window w a.serial ≡ Some (a.sender, a.envelope)
    pub from : a.from ≡ origin (trail_at window w m) a.serial
    pub to : a.to ≡ Some d

  pub record IsPutting (a : DrawnArrow) : Type 0 where
    pub puts : puts a.serial d ≡ true
    pub envelope : wanted window w a.serial ≡ Some (a.sender, a.envelope)
    pub from : a.from ≡ Some d
    pub to : a.to ≡ None
    pub none : is_taken (drop (m + 1) w.steps) a.serial ≡ false

  abbrev later : List Step
  later = drop (m + 1) w.steps

  abbrev back : List DrawnArrow
  back = returned_arrows window w d later (returned d.step)

  abbrev sent : ℕ → List DrawnArrow
  sent j = sent_arrows window w d later j

  in_taken : (a : DrawnArrow) (o : Option ℕ) → taken d.step ≡ o → IsIn a (taken_arrows window w (trail_at window w m) d o) → IsTaking a
  in_taken a None is h = absurd h
  in_taken a (Some k) is h =
      in_arrow k (origin (trail_at window w m) k) (Some d) (wanted window w k) IsTaking
      (λ _ wants. record { takes = taken_takes d.step k is; envelope = wants; from = refl; to = refl }) a h

  -- one of a serial
  in_stub : (k : ℕ) (a : DrawnArrow) → IsIn a (stub_arrows window w d later k) → (puts k d ≡ true → IsPutting a) × (a.serial ≡ k)
  in_stub k a = go (is_taken later k) refl
    where
      go : (b : Bool) → is_taken later k ≡ b → IsIn a (if b then [] else one_arrow k (Some d) None (wanted window w k)) →
          (puts k d ≡ true → IsPutting a) × (a.serial ≡ k)
      go true is h = absurd h
      go false is h =
          in_arrow k (Some d) None (wanted window w k) (λ x. (puts k d ≡ true → IsPutting x) × (x.serial ≡ k))
          (λ _ wants. ((λ p. record { puts = p; envelope = wants; from = refl; to = refl; none = is }), refl)) a h

  in_returned : (a : DrawnArrow) (o : Option ℕ) → returned d.step ≡ o → IsIn a (returned_arrows window w d later o) →
      IsPutting a × (returns d.step a.serial ≡ true)
  in_returned a None is h = absurd h
  in_returned a (Some k) is h =
      let r = returned_returns d.step k is in
      let s = in_stub k a h in
      (s.0 (or_left (returns d.step k) (nat_lt d.before k && nat_le k d.sent) r), subst (λ i. returns d.step i ≡ true) (sym s.1) r)

  -- a serial among so many behind those that had been sent
  in_sent : (a : DrawnArrow) (j : ℕ) → j ≤ d.sent - d.before → IsIn a (sent j) →
      (d.before < a.serial) × (a.serial ≤ d.before + j) × IsPutting a
  in_sent a zero few h = absurd h
  in_sent a (suc j) few h =
      let k = d.before + suc j in
      elim (IsIn-append_cases a (sent j) (stub_arrows window w d later k) h) [
        | inl i ↦ let s = in_sent a j (omega arith) i in (s.0, omega arith, s.2)
        | inr i ↦
            let p : puts k d ≡ true =
            or_right (returns d.step k) (nat_lt d.before k && nat_le k d.sent)
            (both (nat_lt d.before k) (nat_le k d.sent) (lt-ltb d.before k (omega arith)) (le-leb k d.sent (omega arith))) in
            let s = in_stub k a i in
            (omega arith, omega arith, s.0 p)
      ]

  in_back : (a : DrawnArrow) → IsIn a (back ++ sent (d.sent - d.before)) → IsPutting a
  in_back a h =
      elim (IsIn-append_cases a back (sent (d.sent - d.before)) h) [
        | inl b ↦ (in_returned a (returned d.step) refl b).0
        | inr s ↦ (in_sent a (d.sent - d.before) (omega arith) s).2
      ]

  pub in_own : (a : DrawnArrow) → IsIn a (own_at window w m d) → IsTaking a ⊎ IsPutting a
  in_own a h =
      elim (IsIn-append_cases a (taken_arrows window w (trail_at window w m) d (taken d.step)) (back ++ sent (d.sent - d.before)) h) [
        | inl t ↦ inl (in_taken a (taken d.step) refl t)
        | inr r ↦ inr (in_back a r)
      ]

  -- ---- which arrows a step has

  pub own_taking : (k : ℕ) (one : ℕ × Envelope (Unit {0})) → takes d.step k ≡ true → wanted window w k ≡ Some one →
      IsIn (an_arrow k one (origin (trail_at window w m) k) (Some d)) (own_at window w m d)
  own_taking k one t is =
      let a = an_arrow k one (origin (trail_at window w m) k) (Some d) in
      IsIn-append_left a (taken_arrows window w (trail_at window w m) d (taken d.step)) (back ++ sent (d.sent - d.before))
      (subst (λ o. IsIn a (taken_arrows window w (trail_at window w m) d o)) (sym (takes_taken d.step k t))
      (has_arrow k (origin (trail_at window w m) k) (Some d) one (wanted window w k) is))

  has_stub : (k : ℕ) (one : ℕ × Envelope (Unit {0})) → is_taken later k ≡ false → wanted window w k ≡ Some one →
      IsIn (an_arrow k one (Some d) None) (stub_arrows window w d later k)
  has_stub k one none is =
      subst (λ b. IsIn (an_arrow k one (Some d) None) (if b then [] else one_arrow k (Some d) None (wanted window w k))) (sym none)
      (has_arrow k (Some d) None one (wanted window w k) is)

  has_sent : (a : DrawnArrow) (k : ℕ) → IsIn a (stub_arrows window w d later k) → (j : ℕ) → d.before < k → k ≤ d.before + j →
      IsIn a (sent j)
  has_sent a k here zero low high = absurd (omega arith)
  has_sent a k here (suc j) low high =
      elim (eq-or-lt_of_le high) [
        | inl same ↦ IsIn-append_right a (sent j) (stub_arrows window w d later (d.before + suc j))
            (subst (λ i. IsIn a (stub_arrows window w d later i)) same here)
        | inr less ↦ IsIn-append_left a (sent j) (stub_arrows window w d later (d.before + suc j))
            (has_sent a k here j low (omega arith))
      ]

  pub own_putting : (k : ℕ) (one : ℕ × Envelope (Unit {0})) → puts k d ≡ true → is_taken later k ≡ false → wanted window w k ≡ Some one →
      IsIn (an_arrow k one (Some d) None) (own_at window w m d)
  own_putting k one p none is =
      let a = an_arrow k one (Some d) None in
      let here = has_stub k one none is in
      IsIn-append_right a (taken_arrows window w (trail_at window w m) d (taken d.step)) (back ++ sent (d.sent - d.before))
      (elim (or_cases (returns d.step k) (nat_lt d.before k && nat_le k d.sent) p) [
        | inl r ↦ IsIn-append_left a back (sent (d.sent - d.before))
            (subst (λ o. IsIn a (returned_arrows window w d later o)) (sym (returns_returned d.step k r)) here)
        | inr r ↦
            let low = ltb-true d.before k (both-left (nat_lt d.before k) (nat_le k d.sent) r) in
            let high = leb-true k d.sent (both-right (nat_lt d.before k) (nat_le k d.sent) r) in
            IsIn-append_right a back (sent (d.sent - d.before)) (has_sent a k here (d.sent - d.before) low (omega arith))
      ])

  -- ---- each once

  once_stub : (k : ℕ) → IsWithoutRepeats (stub_arrows window w d later k)
  once_stub k = if_either IsWithoutRepeats (is_taken later k) [] _ tt (once_arrow k (Some d) None (wanted window w k))

  once_taken : (o : Option ℕ) → IsWithoutRepeats (taken_arrows window w (trail_at window w m) d o)
  once_taken None = tt
  once_taken (Some k) = once_arrow k (origin (trail_at window w m) k) (Some d) (wanted window w k)

  once_returned : (o : Option ℕ) → IsWithoutRepeats (returned_arrows window w d later o)
  once_returned None = tt
  once_returned (Some k) = once_stub k

  once_sent : (j : ℕ) → j ≤ d.sent - d.before → IsWithoutRepeats (sent j)
  once_sent zero few = tt
  once_sent (suc j) few =
      let k = d.before + suc j in
      IsWithoutRepeats-append (sent j) (stub_arrows window w d later k) (once_sent j (omega arith)) (once_stub k) (λ a h i.
      let s = in_sent a j (omega arith) h in
      let t = in_stub k a i in
      omega arith)

  once_own : IsAllowed w → IsAt window w m d → IsWithoutRepeats (own_at window w m d)
  once_own all at =
      let rest : IsWithoutRepeats (back ++ sent (d.sent - d.before)) =
      IsWithoutRepeats-append back (sent (d.sent - d.before)) (once_returned (returned d.step))
      (once_sent (d.sent - d.before) (omega arith)) (λ a h k.
      let r = in_returned a (returned d.step) refl h in
      let s = in_sent a (d.sent - d.before) (omega arith) k in
      let mail = mail_sent w m _ a.serial (mail_returned w all m a.serial d.step at.at r.1) in
      omega arith) in
      IsWithoutRepeats-append (taken_arrows window w (trail_at window w m) d (taken d.step)) (back ++ sent (d.sent - d.before))
      (once_taken (taken d.step)) rest
      (λ a h k. some-none d (sym (in_back a k).to ∙ (in_taken a (taken d.step) refl h).to))

  own_number : (a : DrawnArrow) → IsAt window w m d → IsIn a (own_at window w m d) → number_of a.to a.from ≡ d.number
  own_number a at h =
      elim (in_own a h) [
        | inl t ↦ ap (λ o. number_of o a.from) t.to
        | inr p ↦ ap (λ o. number_of o a.from) p.to ∙ ap (number_of None) p.from
      ]

  pub own_same : IsAt window w m d → own_of window w d ≡ own_at window w m d
  own_same at = let same : d.number - 1 ≡ m = omega arith in ap (λ i. own_at window w i d) same

-- ---- those of all steps

module _ (window : Window) (w : Rehearsal) where
  pub in_all : (a : DrawnArrow) → IsIn a (all_arrows window w (whole_trail window w)) →
      (d : Drawn) × (r : IsAmong window w (length w.steps) d) × IsIn a (own_at window w r.index d)
  in_all a h =
      let f = in_flat (own_of window w) a (whole_trail window w) h in
      let r = in_whole window w f.0 f.1 in
      (f.0, r, subst (IsIn a) (own_same window w r.index f.0 r.is) f.2)

  pub all_has : (m : ℕ) (d : Drawn) (a : DrawnArrow) → IsAt window w m d → IsIn a (own_at window w m d) →
      IsIn a (all_arrows window w (whole_trail window w))
  all_has m d a at own =
      flat_in (own_of window w) d a (whole_trail window w) (whole_has window w m d at) (subst (IsIn a) (sym (own_same window w m d at)) own)

  pub once_all : IsAllowed w → IsWithoutRepeats (all_arrows window w (whole_trail window w))
  once_all all =
      once_flat (own_of window w) (whole_trail window w) (once_trail window w (length w.steps))
      (λ d there.
      let r = in_whole window w d there in
      subst IsWithoutRepeats (sym (own_same window w r.index d r.is)) (once_own window w r.index d all r.is))
      (λ d e a there here h k. same_number_one window w d e there here (sym (number d a there h) ∙ number e a here k))
    where
      number : (d : Drawn) (a : DrawnArrow) → IsIn d (whole_trail window w) → IsIn a (own_of window w d) →
          number_of a.to a.from ≡ d.number
      number d a there h =
          let r = in_whole window w d there in
          own_number window w r.index d a r.is (subst (IsIn a) (own_same window w r.index d r.is) h)
