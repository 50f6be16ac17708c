-- The same arrows, by the numbers of their steps.
use Rattle.std.proofs.Common.{◌≡◌, ℕ, zero, suc, ◌-◌, ◌<◌, ◌≤◌, Bool, true, false, List, [], ◌∷◌, length, map, refl, ap}
use Rattle.std.proofs.Common.{Option, Some, None, sym, ◌∙◌, subst, arith, inl, inr, nat_le, find, take_all}
use Rattle.std.proofs.Common.{eq-or-lt_of_le}
use Rattle.std.proofs.lemmas.Bool.Decides.{nat_tests}
use Rattle.std.specs.List.{concat}
use Rattle.std.specs.Option.{option_map_or}
use Rattle.std.specs.Prelude.{◌==◌, ◌&&◌, ◌||◌, nat_lt}
use Rattle.ct_names.specs.Membership.{IsIn, IsWithoutRepeats}
use Rattle.ct_names.proofs.Lists.{IsIn-map, contrary}
use Rattle.ct_model.specs.Rehearsal.{Rehearsal, state_of}
use Rattle.ct_model.specs.State.{at_serial}
use Rattle.ct_model.specs.declared.step.Step.{Step}
use Rattle.ct_model.proofs.Basics.Tests.{not_true, or_cases}
use Rattle.ct_records.specs.Replay.{IsAllowed}
use Rattle.ct_show.specs.Facts.{returns, takes}
use Rattle.ct_diagram.specs.Arrows.{grid_of}
use Rattle.ct_diagram.specs.Diagram.{framed_text, marks_layer, shades_layer, whole_layer, whole_trail}
use Rattle.ct_diagram.specs.Trail.{puts}
use Rattle.ct_diagram.specs.Window.{is_drawn}
use Rattle.ct_diagram.specs.declared.window.Window.{Window}
use Rattle.ct_laws.specs.Diagrams.{Arrow, BeginsOnce, Drawn, EndsOnce, HasArrows, IsArrow, IsEnd, IsWay}
use Rattle.ct_laws.specs.Diagrams.{IsOne, KnowsSent, drawn_of, puts_at, sent_by, takes_at, text_of_arrow}
use Rattle.ct_laws.proofs.ArrowTexts.{has_line}
use Rattle.ct_laws.proofs.ArrowWays.{begins_one, ends_one, has_arrows, knows_sent, part_within}
use Rattle.ct_laws.proofs.DrawnArrows.{DrawnArrow, IsDrawnArrow, IsDrawnEnd, IsDrawnWay, text_of_drawn}
use Rattle.ct_laws.proofs.Records.{at_of, at_within}
use Rattle.ct_laws.proofs.Waits.{mail_sent, mail_taken}
use Rattle.ct_laws.proofs.Trails.{drawn_low, drawn_of as drawn_if, has_steps, in_whole, same_number_one, step_of}

-- ---- what is so of the step of a number

-- it is so of the window's steps where the test says so, and only of numbers that have a step
record IsTold (window : Window) (w : Rehearsal) (at : ℕ → Bool) (test : Drawn → Bool) : Type 0 where
  pub same : (d : Drawn) → IsIn d (whole_trail window w) → at d.number ≡ test d
  pub some : (n : ℕ) → at n ≡ true → (step : Step) × (at_serial w.steps n ≡ Some step)

-- a step of a number of which it is so
record IsThere (trail : List Drawn) (test : Drawn → Bool) (n : ℕ) : Type 0 where
  pub drawn : Drawn
  pub there : IsIn drawn trail
  pub number : drawn.number ≡ n
  pub so : test drawn ≡ true

passes_some : (test : Step → Bool) (o : Option Step) → option_map_or test o false ≡ true → (step : Step) × (o ≡ Some step)
passes_some test None h = absurd (cc h)
passes_some test (Some step) h = (step, refl)

-- behind the last step nothing more is sent
sent_all : (w : Rehearsal) (n : ℕ) → length w.steps ≤ n → sent_by w n ≡ length (state_of w).sent
sent_all w n h = ap (λ (steps : List Step). length (state_of (record w { steps = steps })).sent) (take_all n w.steps h)

sends_some : (w : Rehearsal) (n k : ℕ) → sent_by w (n - 1) < k → k ≤ sent_by w n → (step : Step) × (at_serial w.steps n ≡ Some step)
sends_some w n k low high =
    let here : (1 ≤ n) × (n ≤ length w.steps) = (grind arith, grind (arith, sent_all w (n - 1), sent_all w n)) in
    at_of w.steps n here.0 here.1

-- what was sent by then, and is put there by none of the steps between, was sent before them
unsent : (put : Bool) (k before upto : ℕ) → (put || (nat_lt before k && nat_le k upto)) ≡ false → k ≤ upto → k ≤ before
unsent put k before upto none high = grind (arith, nat_tests)

sent_before : (w : Rehearsal) (k first last : ℕ) → first ≤ last → k ≤ sent_by w last →
    ((m : ℕ) → first < m → m ≤ last → puts_at w m k ≡ false) → k ≤ sent_by w first
sent_before w k first zero up high none =
    let same : zero ≡ first = omega arith in
    subst (λ m. k ≤ sent_by w m) same high
sent_before w k first (suc n) up high none = elim (eq-or-lt_of_le up) [
  | inl same ↦ subst (λ m. k ≤ sent_by w m) (sym same) high
  | inr less ↦
      let back : suc n - 1 ≡ n = omega arith in
      sent_before w k first n (omega arith) (subst (λ m. k ≤ sent_by w m) back (unsent _ k _ _ (none (suc n) less (omega arith)) high))
      (λ m from to. none m from (omega arith))
]

module _ (window : Window) (w : Rehearsal) where
  taking : (k : ℕ) → IsTold window w (λ n. takes_at w n k) (λ d. takes d.step k)
  taking k = record {
    same = λ d there. ap (λ o. option_map_or (λ step. takes step k) o false) (step_of window w d there).step;
    some = λ n h. passes_some (λ step. takes step k) (at_serial w.steps n) h;
  }

  putting : (k : ℕ) → IsTold window w (λ n. puts_at w n k) (puts k)
  putting k = record {
    same = λ d there. let s = step_of window w d there in simp (s.step, s.before, s.sent);
    some = λ n h. elim (or_cases (option_map_or (λ step. returns step k) (at_serial w.steps n) false) _ h) [
      | inl r ↦ passes_some (λ step. returns step k) (at_serial w.steps n) r
      | inr s ↦ sends_some w n k (grind (arith, nat_tests)) (grind (arith, nat_tests))
    ];
  }

  there : {at : ℕ → Bool} {test : Drawn → Bool} → IsTold window w at test → (n : ℕ) → is_drawn window n ≡ true → at n ≡ true →
      IsThere (whole_trail window w) test n
  there {at} {test} t n drawn h =
      let s = t.some n h in
      let d = (has_steps window w).all n s.0 drawn s.1 in
      record { drawn = d.0; there = d.1; number = d.2; so = sym (t.same d.0 d.1) ∙ subst (λ m. at m ≡ true) (sym d.2) h }

  not_so : {at : ℕ → Bool} {test : Drawn → Bool} → IsTold window w at test → (d : Drawn) → IsIn d (whole_trail window w) →
      at d.number ≡ false → test d ≡ false
  not_so t d there h = sym (t.same d there) ∙ h

  bounds : (d : Drawn) → IsIn d (whole_trail window w) → (0 < d.number) × (window.from ≤ d.number)
  bounds d there = let a = in_whole window w d there in (omega arith, omega arith)

-- ---- the number of a step

abbrev number_of : Option Drawn → Option ℕ
number_of None = None
number_of (Some d) = Some d.number

-- in the trail, where it is a step
abbrev IsInIf : List Drawn → Option Drawn → Type 0
IsInIf trail None = Unit {0}
IsInIf trail (Some d) = IsIn d trail

found : (d : Drawn) (list : List Drawn) → IsIn d list → ((x : Drawn) → IsIn x list → x.number ≡ d.number → x ≡ d) →
    find (λ (x : Drawn). x.number == d.number) list ≡ Some d
found d [] h one = absurd h
found d (x ∷ list) (inl e) one = grind (arith, nat_tests)
found d (x ∷ list) (inr h) one =
    let rest = found d list h (λ y i. one y (inr i)) in
    let first = one x (inl refl) in
    grind (arith, nat_tests)

ways_in : (trail : List Drawn) (k : ℕ) (from to : Option Drawn) → IsDrawnWay trail k from to → IsInIf trail from × IsInIf trail to
ways_in trail k None None h = absurd h
ways_in trail k None (Some e) h = (tt, h.0.0)
ways_in trail k (Some d) None h = (h.0, tt)
ways_in trail k (Some d) (Some e) h = (h.0, h.2.0)

abbrev numbered : DrawnArrow → Arrow
numbered a = record { serial = a.serial; sender = a.sender; envelope = a.envelope; from = number_of a.from; to = number_of a.to }

in_map : (a : Arrow) (list : List DrawnArrow) → IsIn a (map numbered list) → (from : DrawnArrow) × IsIn from list × (a ≡ numbered from)
in_map a [] h = absurd h
in_map a (x ∷ list) (inl e) = (x, inl refl, e)
in_map a (x ∷ list) (inr h) = let r = in_map a list h in (r.0, inr r.1, r.2)

module _ (window : Window) (w : Rehearsal) where
  drawn_number : (o : Option Drawn) → IsInIf (whole_trail window w) o → drawn_of window w (number_of o) ≡ o
  drawn_number None h = refl
  drawn_number (Some d) h = found d (whole_trail window w) h (λ x i same. same_number_one window w x d i h same)

  number_one : (a b : Option Drawn) → IsInIf (whole_trail window w) a → IsInIf (whole_trail window w) b → number_of a ≡ number_of b → a ≡ b
  number_one a b h i e = sym (drawn_number a h) ∙ ap (drawn_of window w) e ∙ drawn_number b i

  arrow_in : (a : DrawnArrow) → IsDrawnArrow window w a → IsInIf (whole_trail window w) a.from × IsInIf (whole_trail window w) a.to
  arrow_in a h = ways_in (whole_trail window w) a.serial a.from a.to h.way

  numbered_one : (a b : DrawnArrow) → IsDrawnArrow window w a → IsDrawnArrow window w b → numbered a ≡ numbered b → a ≡ b
  numbered_one a b h i e =
      let from = number_one a.from b.from (arrow_in a h).0 (arrow_in b i).0 (ap (λ (x : Arrow). x.from) e) in
      let to = number_one a.to b.to (arrow_in a h).1 (arrow_in b i).1 (ap (λ (x : Arrow). x.to) e) in
      λ j. record { serial = (e j).serial; sender = (e j).sender; envelope = (e j).envelope; from = from j; to = to j }

  once_map : (list : List DrawnArrow) → ((a : DrawnArrow) → IsIn a list → IsDrawnArrow window w a) → IsWithoutRepeats list →
      IsWithoutRepeats (map numbered list)
  once_map [] are h = tt
  once_map (x ∷ list) are h = (
    λ i.
        let r = in_map (numbered x) list i in
        h.0 (subst (λ a. IsIn a list) (sym (numbered_one x r.0 (are x (inl refl)) (are r.0 (inr r.1)) r.2)) r.1),
    once_map list (λ a i. are a (inr i)) h.1,
  )

  text_same : (a : DrawnArrow) → IsDrawnArrow window w a → text_of_drawn w window a ≡ text_of_arrow w window (numbered a)
  text_same a h =
      let from = drawn_number a.from (arrow_in a h).0 in
      let to = drawn_number a.to (arrow_in a h).1 in
      rw (from, to)

  texts_same : (list : List DrawnArrow) → ((a : DrawnArrow) → IsIn a list → IsDrawnArrow window w a) →
      concat (map (text_of_drawn w window) list) ≡ concat (map (text_of_arrow w window) (map numbered list))
  texts_same [] are = refl
  texts_same (x ∷ list) are = cc (text_same x (are x (inl refl)), texts_same list (λ a i. are a (inr i)))

  framed_with : (end : ℕ) (one other : List ℕ) → one ≡ other →
      framed_text (grid_of w window) end (whole_layer shades_layer window w) one (whole_layer marks_layer window w)
      ≡ framed_text (grid_of w window) end (whole_layer shades_layer window w) other (whole_layer marks_layer window w)
  framed_with end one other h = rw h

  pub knows_numbered : IsAllowed w → KnowsSent window w
  knows_numbered all n k drawn h = let t = there window w (putting window w k) n drawn h in knows_sent window w all t.drawn k t.there t.so

-- ---- where the window goes to the end of the record

module _ (window : Window) (w : Rehearsal) (end : length w.steps ≤ window.to) where
  reached : {at : ℕ → Bool} {test : Drawn → Bool} → IsTold window w at test → (n : ℕ) → window.from ≤ n → at n ≡ true →
      IsThere (whole_trail window w) test n
  reached t n low h =
      let s = t.some n h in
      let high = at_within w.steps n s.0 s.1 in
      there window w t n (drawn_if window n low (omega arith)) h

  none_at : {at : ℕ → Bool} {test : Drawn → Bool} → IsTold window w at test → (m : ℕ) → window.from ≤ m →
      ((d : Drawn) → IsIn d (whole_trail window w) → d.number ≡ m → test d ≡ false) → at m ≡ false
  none_at {at} {test} t m low none =
      not_true (at m) (λ yes. let r = reached t m low yes in contrary (test r.drawn) r.so (none r.drawn r.there r.number))

  -- ---- ways

  end_numbered : (k after : ℕ) (to : Option Drawn) → window.from ≤ after → IsDrawnEnd (whole_trail window w) k after to →
      IsEnd w k after (number_of to)
  end_numbered k after None low h =
      λ m behind. none_at (taking window w k) m (omega arith) (λ d there is. h d there (omega arith))
  end_numbered k after (Some e) low h = (
    h.1,
    (taking window w k).same e h.0 ∙ h.2,
    λ m behind before. none_at (taking window w k) m (omega arith) (λ d there is. h.3 d there (omega arith) (omega arith)),
  )

  -- an envelope that a step of the window takes, and none before puts there
  before_window : IsAllowed w → (k : ℕ) (e : Drawn) → IsIn e (whole_trail window w) → takes e.step k ≡ true →
      ((m : ℕ) → window.from ≤ m → m < e.number → puts_at w m k ≡ false) → k ≤ sent_by w (window.from - 1)
  before_window all k e there t none =
      let a = in_whole window w e there in
      let mail = mail_sent w a.index _ k (mail_taken w all a.index k e.step a.is.at t) in
      sent_before w k (window.from - 1) a.index (omega arith) mail.1 (λ m from to. none m (omega arith) (omega arith))

  way_numbered : IsAllowed w → (k : ℕ) (from to : Option Drawn) → IsDrawnWay (whole_trail window w) k from to →
      IsWay window w k (number_of from) (number_of to)
  way_numbered all k (Some d) to h = (
    (step_of window w d h.0).drawn,
    (putting window w k).same d h.0 ∙ h.1,
    end_numbered k d.number to (bounds window w d h.0).1 h.2,
  )
  way_numbered all k None (Some e) h = (
    (step_of window w e h.0.0).drawn,
    before_window all k e h.0.0 h.0.2 unput,
    (taking window w k).same e h.0.0 ∙ h.0.2,
    λ m low high. (
      none_at (taking window w k) m low (λ d there is. h.0.3 d there (bounds window w d there).0 (omega arith)),
      unput m low high,
    ),
  )
    where
      unput : (m : ℕ) → window.from ≤ m → m < e.number → puts_at w m k ≡ false
      unput m low high = none_at (putting window w k) m low (λ d there is. h.1 d there (omega arith))
  way_numbered all k None None h = absurd h

  end_drawn : (k after : ℕ) (to : Option ℕ) → window.from ≤ after → IsEnd w k after to →
      (last : Option Drawn) × IsDrawnEnd (whole_trail window w) k after last × (number_of last ≡ to)
  end_drawn k after None low h = (None, λ d there behind. not_so window w (taking window w k) d there (h d.number behind), refl)
  end_drawn k after (Some n) low h =
      let t = reached (taking window w k) n (omega arith) h.1 in
      let number = t.number in (
        Some t.drawn,
        (
          t.there,
          omega arith,
          t.so,
          λ d there after_it before_it. not_so window w (taking window w k) d there (h.2 d.number after_it (omega arith)),
        ),
        ap Some number,
      )

  -- an arrow by numbers is one between drawn steps
  way_drawn : (k : ℕ) (from to : Option ℕ) → IsWay window w k from to →
      (first : Option Drawn) × (last : Option Drawn) × IsDrawnWay (whole_trail window w) k first last × (number_of first ≡ from)
      × (number_of last ≡ to)
  way_drawn k (Some n) to h =
      let t = there window w (putting window w k) n h.0 h.1 in
      let e = end_drawn k n to (drawn_low window n h.0) h.2 in (
        Some t.drawn,
        e.0,
        (t.there, t.so, subst (λ m. IsDrawnEnd (whole_trail window w) k m e.0) (sym t.number) e.1),
        ap Some t.number,
        e.2,
      )
  way_drawn k None (Some n) h =
      let t = there window w (taking window w k) n h.0 h.2 in
      let number = t.number in
      let none : (d : Drawn) → IsIn d (whole_trail window w) → d.number < t.drawn.number →
      (takes_at w d.number k ≡ false) × (puts_at w d.number k ≡ false) =
      λ d there less. h.3 d.number (bounds window w d there).1 (omega arith) in (
        None,
        Some t.drawn,
        (
          (
            t.there,
            (bounds window w t.drawn t.there).0,
            t.so,
            λ d there some less. not_so window w (taking window w k) d there (none d there less).0,
          ),
          λ d there less. not_so window w (putting window w k) d there (none d there less).1,
        ),
        refl,
        ap Some number,
      )
  way_drawn k None None h = absurd h

  -- ---- arrows

  arrow_numbered : IsAllowed w → (a : DrawnArrow) → IsDrawnArrow window w a → IsArrow window w (numbered a)
  arrow_numbered all a h = record { envelope = h.envelope; way = way_numbered all a.serial a.from a.to h.way }

  arrow_drawn : (a : Arrow) → IsArrow window w a → (drawn : DrawnArrow) × IsDrawnArrow window w drawn × (numbered drawn ≡ a)
  arrow_drawn a h =
      let o = way_drawn a.serial a.from a.to h.way in (
        record { serial = a.serial; sender = a.sender; envelope = a.envelope; from = o.0; to = o.1 },
        record { envelope = h.envelope; way = o.2 },
        λ i. record { serial = a.serial; sender = a.sender; envelope = a.envelope; from = o.3 i; to = o.4 i },
      )

  module _ (all : IsAllowed w) where
    pub numbered_arrows : HasArrows window w
    numbered_arrows =
        let drawn = has_arrows window w all end in
        record {
          arrows = map numbered drawn.arrows;
          each = λ a h.
              let r = in_map a drawn.arrows h in
              subst (IsArrow window w) (sym r.2) (arrow_numbered all r.0 (drawn.each r.0 r.1));
          all = λ a h.
              let r = arrow_drawn a h in
              subst (λ x. IsIn x (map numbered drawn.arrows)) r.2 (IsIn-map numbered r.0 drawn.arrows (drawn.all r.0 r.1));
          once = once_map window w drawn.arrows drawn.each drawn.once;
          lines = λ a h. has_line w window a.serial (a.sender, a.envelope) (drawn_of window w a.from) (drawn_of window w a.to);
          end = _;
          text = framed_with window w _ _ _ (drawn.text ∙ texts_same window w drawn.arrows drawn.each);
        }

    -- where one drawn arrow has this step at one of its sides, one by numbers has its number there
    one_numbered : (side : DrawnArrow → Option Drawn) (at : Arrow → Option ℕ) → ((a : DrawnArrow) → number_of (side a) ≡ at (numbered a)) →
        ((a : DrawnArrow) → IsDrawnArrow window w a → IsInIf (whole_trail window w) (side a)) → (k n : ℕ) (d : Drawn) →
        IsIn d (whole_trail window w) → d.number ≡ n → IsOne (λ a. IsDrawnArrow window w a × (a.serial ≡ k) × (side a ≡ Some d)) →
        IsOne (λ a. IsArrow window w a × (a.serial ≡ k) × (at a ≡ Some n))
    one_numbered side at same inside k n d there number one = record {
      it = numbered one.it;
      is = (arrow_numbered all one.it one.is.0, one.is.1, sym (same one.it) ∙ ap number_of one.is.2 ∙ ap Some number);
      only = λ other so.
          let r = arrow_drawn other so.0 in
          let own = number_one window w (side r.0) (Some d) (inside r.0 r.1) there (same r.0 ∙ ap at r.2 ∙ so.2 ∙ ap Some (sym number)) in
          sym r.2 ∙ ap numbered (one.only r.0 (r.1, ap (λ (a : Arrow). a.serial) r.2 ∙ so.1, own));
    }

    pub begins_once : BeginsOnce window w
    begins_once n k drawn h asked =
        let t = there window w (putting window w k) n drawn h in
        one_numbered (λ a. a.from) (λ a. a.from) (λ a. refl) (λ a is. (arrow_in window w a is).0) k n t.drawn t.there t.number
        (begins_one window w all end t.drawn k t.there t.so asked)

    pub ends_once : EndsOnce window w
    ends_once n k drawn h asked =
        let t = there window w (taking window w k) n drawn h in
        one_numbered (λ a. a.to) (λ a. a.to) (λ a. refl) (λ a is. (arrow_in window w a is).1) k n t.drawn t.there t.number
        (ends_one window w all end t.drawn k t.there t.so asked)

pub ruleset of_arrows = (has_steps, part_within, numbered_arrows, knows_numbered, begins_once, ends_once)
