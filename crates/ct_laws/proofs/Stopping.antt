-- Where walks end that are made until a goal.
use Rattle.std.proofs.Common.{◌≡◌, ◌⊎◌, inl, inr, ◌<◌, ◌≤◌, ◌+◌, ◌-◌, ℕ, zero, suc, Bool, true, false, List, ◌++◌, refl, ap, sym, ◌∙◌}
use Rattle.std.proofs.Common.{subst, append-nil, append_assoc, arith}
use Rattle.std.specs.Prelude.{◌%◌, ◌==◌, if◌then◌else◌, Option, Some, None}
use Rattle.ct_names.specs.Prefix.{IsPrefix}
use Rattle.ct_model.specs.Rehearsal.{Rehearsal}
use Rattle.ct_model.specs.declared.step.Step.{Step}
use Rattle.ct_detect.specs.Seeded.{after_word, next_word}
use Rattle.ct_grammar.specs.declared.goal.Goal.{Goal}
use Rattle.ct_play.specs.Goals.{is_shown}
use Rattle.ct_walk.specs.Shown.{is_shown_by}
use Rattle.ct_walk.specs.Adversary.{is_rare}
use Rattle.ct_walk.specs.Walking.{Walk, after_chance, after_script, after_turn, changed_now, drawn, driven, entered, has_left, is_due}
use Rattle.ct_walk.specs.Walking.{is_struck, made_by, may_change, most_turns, start, turned, walked, walked_for, workers}
use Rattle.ct_walk.specs.declared.options.WalkOptions.{WalkOptions}
use Rattle.ct_laws.specs.Untils.{IsFirstTurn, IsUntil, ShowsNowhere, after_turns, record_at}
use Rattle.ct_laws.proofs.Cases.{fails_from}
use Rattle.ct_laws.proofs.Drawing.{turn_begins}

-- ---- what a walk is made until is no part of its turns

abbrev until : Option Goal → Walk → Walk
until g w = record w { until = g }

either_until : (b : Bool) (g : Option Goal) (x y v w : Walk) → v ≡ until g x → w ≡ until g y →
    (if b then v else w) ≡ until g (if b then x else y)
either_until true g x y v w h k = h
either_until false g x y v w h k = k

driven_until : (g : Option Goal) (o : WalkOptions) (w : Walk) (p : ℕ) → driven o (until g w) p ≡ until g (driven o w p)
unfolding driven
driven_until g o w p = refl

entered_until : (g : Option Goal) (w : Walk) (i : ℕ) → entered (until g w) i ≡ until g (entered w i)
unfolding entered
entered_until g w i = refl

script_until : (g : Option Goal) (w : Walk) (o : Option ℕ) → after_script (until g w) o ≡ until g (after_script w o)
script_until g w None = refl
script_until g w (Some i) = entered_until g w i

made_until : (g : Option Goal) (o : WalkOptions) (w : Walk) (k : ℕ) → made_by o (until g w) k ≡ until g (made_by o w k)
unfolding made_by
made_until g o w k = either_until _ g _ _ _ _ (driven_until g o w (k + 1)) (script_until g w _)

drawn_until : (g : Option Goal) (o : WalkOptions) (w : Walk) → drawn o (until g w) ≡ until g (drawn o w)
unfolding drawn workers
drawn_until g o w = made_until g o (record w { draws = after_word w.draws }) (next_word w.draws % workers o w)

changed_until : (g : Option Goal) (w : Walk) → changed_now (until g w) ≡ until g (changed_now w)
unfolding changed_now
changed_until g w =
    either_until (may_change w) g _ _ _ _
    (either_until (is_rare (next_word w.draws)) g _ _ _ _ (either_until (w.cut == 0) g _ _ _ _ refl refl) refl) refl

chance_until : (g : Option Goal) (w : Walk) → after_chance (until g w) ≡ until g (after_chance w)
unfolding after_chance
chance_until g w = either_until (has_left w 4) g _ _ _ _ refl refl

after_until : (g : Option Goal) (o : WalkOptions) (number : ℕ) (struck : Bool) (w : Walk) →
    after_turn o number struck (until g w) ≡ until g (after_turn o number struck w)
unfolding is_due
after_until g o number struck w =
    either_until struck g _ _ _ _ (entered_until g w 4) (either_until _ g _ _ _ _ (entered_until g w 0) (drawn_until g o w))

turned_until : (g : Option Goal) (o : WalkOptions) (number : ℕ) (w : Walk) → turned o number (until g w) ≡ until g (turned o number w)
unfolding turned
turned_until g o number w =
    let v = changed_now w in
    ap (λ x. after_turn o number (is_struck x) (after_chance x)) (changed_until g w)
    ∙ (ap (after_turn o number (is_struck v)) (chance_until g v) ∙ after_until g o number (is_struck v) (after_chance v))

start_until : (o : WalkOptions) (g : Option Goal) → start o g ≡ until g (start o None)
unfolding start
start_until o g = refl

-- ---- where it ends

next_turn : (o : WalkOptions) (k : ℕ) → after_turns o (k + 1) ≡ turned o (k + 1) (after_turns o k)
unfolding after_turns
next_turn o k =
    let same : suc k ≡ k + 1 = omega arith in
    subst (λ n. after_turns o n ≡ turned o (k + 1) (after_turns o k)) same refl

abbrev shown_at : WalkOptions → Option Goal → ℕ → Bool
shown_at o g turn = is_shown_by g (record_at o turn)

-- after one of so many turns more, where so many were made
record EndsAt (o : WalkOptions) (g : Option Goal) (made more : ℕ) (end : Walk) : Type 0 where
  pub turn : ℕ
  pub from : made < turn
  pub to : turn ≤ made + more
  pub shows : shown_at o g turn ≡ true
  pub none : (before : ℕ) → made < before → before < turn → shown_at o g before ≡ false
  pub is : end ≡ until g (after_turns o turn)

-- after all of them
record EndsLast (o : WalkOptions) (g : Option Goal) (made more : ℕ) (end : Walk) : Type 0 where
  pub none : (turn : ℕ) → made < turn → turn ≤ made + more → shown_at o g turn ≡ false
  pub is : end ≡ until g (after_turns o (made + more))

abbrev Ends : WalkOptions → Option Goal → ℕ → ℕ → Walk → Type 0
Ends o g made more end = EndsAt o g made more end ⊎ EndsLast o g made more end

ends_here : (o : WalkOptions) (g : Option Goal) (made : ℕ) → EndsLast o g made zero (until g (after_turns o made))
ends_here o g made =
    let same : made ≡ made + zero = omega arith in
    record {
      none = λ turn low high. absurd (omega (arith, low, high));
      is = ap (λ n. until g (after_turns o n)) same;
    }

ends_now : (o : WalkOptions) (g : Option Goal) (made more : ℕ) (v : Walk) → v ≡ until g (after_turns o (made + 1)) →
    shown_at o g (made + 1) ≡ true → EndsAt o g made (suc more) v
ends_now o g made more v is shown = record {
  turn = made + 1;
  from = omega arith;
  to = omega arith;
  shows = shown;
  none = λ before low high. absurd (omega (arith, low, high));
  is = is;
}

-- after none of these, the first one neither
none_after : (o : WalkOptions) (g : Option Goal) (made : ℕ) (P : ℕ → Type 0) → shown_at o g (made + 1) ≡ false →
    ((turn : ℕ) → made + 1 < turn → P turn → shown_at o g turn ≡ false) → (turn : ℕ) → made < turn → P turn → shown_at o g turn ≡ false
none_after o g made P here later turn low high = fails_from (shown_at o g) P (made + 1) here later turn (omega (arith, low)) high

ends_later : (o : WalkOptions) (g : Option Goal) (made more : ℕ) (end : Walk) → shown_at o g (made + 1) ≡ false →
    Ends o g (made + 1) more end → Ends o g made (suc more) end
ends_later o g made more end here (inl e) =
    let from : made + 1 < e.turn = e.from in
    let to : e.turn ≤ made + 1 + more = e.to in
    inl (record {
      turn = e.turn;
      from = omega (arith, from);
      to = omega (arith, to);
      shows = e.shows;
      none = none_after o g made (λ n. n < e.turn) here e.none;
      is = e.is;
    })
ends_later o g made more end here (inr e) =
    let same : made + 1 + more ≡ made + suc more = omega arith in
    inr (record {
      none = none_after o g made (λ n. n ≤ made + suc more) here (λ turn low high. e.none turn low (omega (arith, high)));
      is = e.is ∙ ap (λ n. until g (after_turns o n)) same;
    })

ends_by : (o : WalkOptions) (g : Option Goal) (made more : ℕ) (v : Walk) (b : Bool) → v ≡ until g (after_turns o (made + 1)) →
    is_shown_by v.until v.rehearsal ≡ b → Ends o g (made + 1) more (walked_for o (made + 1) more v) →
    Ends o g made (suc more) (if b then v else walked_for o (made + 1) more v)
ends_by o g made more v true is shown later =
    inl (ends_now o g made more v is (subst (λ (x : Walk). is_shown_by x.until x.rehearsal ≡ true) is shown))
ends_by o g made more v false is shown later =
    ends_later o g made more (walked_for o (made + 1) more v)
    (subst (λ (x : Walk). is_shown_by x.until x.rehearsal ≡ false) is shown) later

ends : (o : WalkOptions) (g : Option Goal) (more made : ℕ) (w : Walk) → w ≡ until g (after_turns o made) →
    Ends o g made more (walked_for o made more w)
unfolding walked_for
ends o g zero made w is = subst (λ x. Ends o g made zero x) (sym is) (inr (ends_here o g made))
ends o g (suc more) made w is =
    let v = turned o (made + 1) w in
    let next : v ≡ until g (after_turns o (made + 1)) =
    ap (turned o (made + 1)) is ∙ turned_until g o (made + 1) (after_turns o made) ∙ ap (until g) (sym (next_turn o made)) in
    ends_by o g made more v (is_shown_by v.until v.rehearsal) next refl (ends o g more (made + 1) v next)

first_walk : (o : WalkOptions) (g : Option Goal) → start o g ≡ until g (after_turns o 0)
unfolding after_turns
first_walk o g = start_until o g

walk_ends : (o : WalkOptions) (g : Option Goal) → Ends o g 0 (most_turns o) (walked_for o 0 (most_turns o) (start o g))
walk_ends o g = ends o g (most_turns o) 0 (start o g) (first_walk o g)

-- ---- the walk without a goal

none_shown : (w : Rehearsal) → is_shown_by None w ≡ false
unfolding is_shown
none_shown w = refl

last_turn : (o : WalkOptions) (g : Option Goal) (end : Walk) → EndsLast o g 0 (most_turns o) end →
    end.rehearsal ≡ record_at o (most_turns o)
last_turn o g end e =
    let same : 0 + most_turns o ≡ most_turns o = omega arith in
    ap (λ (w : Walk). w.rehearsal) e.is ∙ ap (record_at o) same

whole_by : (o : WalkOptions) (end : Walk) → Ends o None 0 (most_turns o) end → end.rehearsal ≡ record_at o (most_turns o)
whole_by o end (inl e) = absurd (cc (sym e.shows ∙ none_shown (record_at o e.turn)))
whole_by o end (inr e) = last_turn o None end e

pub whole : (o : WalkOptions) → walked o None ≡ record_at o (most_turns o)
unfolding walked
whole o = whole_by o (walked_for o 0 (most_turns o) (start o None)) (walk_ends o None)

-- ---- a walk until a goal

first_turn : (o : WalkOptions) (goal : Goal) (end : Walk) (e : EndsAt o (Some goal) 0 (most_turns o) end) → IsFirstTurn o goal e.turn
unfolding is_shown
first_turn o goal end e =
    let from : 0 < e.turn = e.from in
    let to : e.turn ≤ 0 + most_turns o = e.to in
    record {
      from = omega (arith, from);
      to = omega (arith, to);
      shows = e.shows;
      none = λ before low high. e.none before (omega (arith, low)) high;
    }

nowhere : (o : WalkOptions) (goal : Goal) (end : Walk) → EndsLast o (Some goal) 0 (most_turns o) end → ShowsNowhere o goal
unfolding is_shown
nowhere o goal end e turn low high = e.none turn (omega (arith, low)) (omega (arith, high))

until_by : (o : WalkOptions) (goal : Goal) (end : Walk) → Ends o (Some goal) 0 (most_turns o) end → IsUntil o goal end.rehearsal
until_by o goal end (inl e) = inl (e.turn, first_turn o goal end e, ap (λ (w : Walk). w.rehearsal) e.is)
until_by o goal end (inr e) = inr (nowhere o goal end e, last_turn o (Some goal) end e ∙ sym (whole o))

pub is_until : (o : WalkOptions) (goal : Goal) → IsUntil o goal (walked o (Some goal))
unfolding walked
is_until o goal = until_by o goal (walked_for o 0 (most_turns o) (start o (Some goal))) (walk_ends o (Some goal))

-- ---- its steps begin those of all the turns

begins_on : (a b c : List Step) → IsPrefix a b → IsPrefix b c → IsPrefix a c
begins_on a b c h k = (h.0 ++ k.0, sym (append_assoc a h.0 k.0) ∙ ap (λ l. l ++ k.0) h.1 ∙ k.1)

begins_same : (a : List Step) → IsPrefix a a
begins_same a = (_, append-nil a)

begins_turn : (o : WalkOptions) (k : ℕ) → IsPrefix (record_at o k).steps (record_at o (k + 1)).steps
begins_turn o k =
    subst (λ (w : Walk). IsPrefix (record_at o k).steps w.rehearsal.steps) (sym (next_turn o k))
    (turn_begins o (k + 1) (after_turns o k))

begins_more : (o : WalkOptions) (more k : ℕ) → IsPrefix (record_at o k).steps (record_at o (k + more)).steps
begins_more o zero k =
    let same : k ≡ k + zero = omega arith in
    subst (λ n. IsPrefix (record_at o k).steps (record_at o n).steps) same (begins_same (record_at o k).steps)
begins_more o (suc more) k =
    let same : k + 1 + more ≡ k + suc more = omega arith in
    subst (λ n. IsPrefix (record_at o k).steps (record_at o n).steps) same
    (begins_on (record_at o k).steps (record_at o (k + 1)).steps (record_at o (k + 1 + more)).steps (begins_turn o k)
    (begins_more o more (k + 1)))

begins_by : (o : WalkOptions) (goal : Goal) (w : Rehearsal) → IsUntil o goal w → IsPrefix w.steps (walked o None).steps
begins_by o goal w (inl e) =
    let to : e.0 ≤ most_turns o = e.1.to in
    let same : e.0 + (most_turns o - e.0) ≡ most_turns o = omega (arith, to) in
    let all : IsPrefix (record_at o e.0).steps (record_at o (most_turns o)).steps =
    subst (λ n. IsPrefix (record_at o e.0).steps (record_at o n).steps) same (begins_more o (most_turns o - e.0) e.0) in
    subst (λ (v : Rehearsal). IsPrefix w.steps v.steps) (sym (whole o))
    (subst (λ (v : Rehearsal). IsPrefix v.steps (record_at o (most_turns o)).steps) (sym e.2) all)
begins_by o goal w (inr e) = subst (λ (v : Rehearsal). IsPrefix w.steps v.steps) e.1 (begins_same w.steps)

pub begins : (o : WalkOptions) (goal : Goal) → IsPrefix (walked o (Some goal)).steps (walked o None).steps
begins o goal = begins_by o goal (walked o (Some goal)) (is_until o goal)
