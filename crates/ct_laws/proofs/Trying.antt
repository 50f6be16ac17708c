-- Walks as lists of turns.
use Rattle.std.proofs.Common.{◌≡◌, ◌≢◌, ◌⊎◌, inl, inr, ◌<◌, ◌≤◌, ◌+◌, ◌-◌, ℕ, zero, suc, Bool, true, false, true≢false, List, [], ◌∷◌, ◌++◌}
use Rattle.std.proofs.Common.{refl, ap, ap₂, sym, ◌∙◌, subst, append_assoc, arith, drop, get_or, length, set}
use Rattle.std.proofs.Common.{get_or-set_other, get_or-set_same}
use Rattle.std.proofs.lemmas.Bool.Decides.{nat_tests}
use Rattle.std.specs.Prelude.{◌==◌, ◌%◌, ◌&&◌, not, if◌then◌else◌, nat_lt, Option, Some, None, is_none, slice_get, unwrap_or}
use Rattle.ct_names.specs.Group.{IsMember}
use Rattle.ct_names.proofs.Lists.{found-find}
use Rattle.ct_model.specs.Actor.{actor}
use Rattle.ct_model.specs.Cause.{cause}
use Rattle.ct_model.specs.Passed.{extended_by, passed}
use Rattle.ct_model.specs.Rehearsal.{Rehearsal, extended}
use Rattle.ct_model.specs.declared.step.Step.{Step}
use Rattle.ct_model.specs.declared.step.Step.TheVariants as step
use Rattle.ct_world.specs.Driving.{candidates, next_local}
use Rattle.ct_world.specs.World.{member_of}
use Rattle.ct_detect.specs.Seeded.{SeededState, after_word, next_word}
use Rattle.ct_detect.specs.declared.ask.Ask.{Ask}
use Rattle.ct_choices.specs.Choices.{after_try, ask_of, asked_for, chosen, has_crashed, question}
use Rattle.ct_rehearse.specs.declared.disturbance.Disturbance.{Disturbance}
use Rattle.ct_grammar.specs.declared.goal.Goal.{Goal}
use Rattle.ct_program.specs.Seeding.{detector_of}
use Rattle.ct_walk.specs.Shown.{is_shown_by}
use Rattle.ct_walk.specs.Adversary.{after_place, is_rare, tries}
use Rattle.ct_walk.specs.Walking.{Walk, after_chance, after_entry, after_script, answer, changed, changed_now, drawn}
use Rattle.ct_walk.specs.Walking.{drawn_scripts, driven, entered, has_left, is_due, is_struck, lasts, left_of, made_by}
use Rattle.ct_walk.specs.Walking.{most_turns, receives_at, start, suspects, turned, walked, walked_for, workers}
use Rattle.ct_walk.specs.declared.options.WalkOptions.{WalkOptions}
use Rattle.ct_laws.specs.Tries.{AreTurns, HasTurns, IsAnswer, IsSuspicion, IsTurn, WalkTurn, after_turn, all_tries, answers_to}
use Rattle.ct_laws.specs.Tries.{entries_in, first_answers, tried_in}
use Rattle.ct_laws.specs.Tries.WalkTurn.{OfMember, OfScript}
use Rattle.ct_laws.proofs.Answering.{Follows, answered, answers_first, asks_so, detector_at, follows_by, follows_not, joined_answers}
use Rattle.ct_laws.proofs.Cases.{if_either}
use Rattle.ct_laws.proofs.Drawing.{only_asked, says_so, walk_allowed, walk_quiet}
use Rattle.ct_laws.proofs.Rates.{never_lasts, suspects_said, suspects_yes}
use Rattle.ct_laws.proofs.Passing.{first_passes, none_pass}
use Rattle.ct_laws.proofs.Rates.{AllRated, always_yes, first_many, never_yes, rated_first, rated_there, still_many, still_rated}
use Rattle.ct_laws.proofs.Records.{got}
use Rattle.ct_laws.proofs.Receiving.{receives_first, receives_waiting}
use Rattle.ct_laws.proofs.Seeds.{nowhere}
use Rattle.ct_laws.proofs.Turns.{IsTry, next_by}

-- ---- the turns of a walk that goes on

-- some turns, so many at most
record IsMade (o : WalkOptions) (w v : Walk) (most : ℕ) : Type 0 where
  pub turns : List WalkTurn
  pub are : AreTurns o w.rehearsal turns
  pub few : length turns ≤ most
  pub left : (i : ℕ) → entries_in i turns ++ left_of v i ≡ left_of w i
  pub answers : (p : ℕ) (d : SeededState) → 1 ≤ p → slice_get w.detectors (p - 1) ≡ Some d →
      answers_to p turns ≡ first_answers d (length (answers_to p turns))
  pub is : v.rehearsal ≡ extended_by w.rehearsal (passed w.rehearsal (all_tries w.rehearsal turns))

-- one turn
record IsOne (o : WalkOptions) (w v : Walk) : Type 0 where
  pub turn : WalkTurn
  pub fits : IsTurn o w.rehearsal turn
  pub left : (i : ℕ) → entries_in i (turn ∷ []) ++ left_of v i ≡ left_of w i
  pub said : (p : ℕ) (d : SeededState) → 1 ≤ p → slice_get w.detectors (p - 1) ≡ Some d →
      Follows (answers_to p (turn ∷ [])) v.detectors p d
  pub is : v.rehearsal ≡ after_turn w.rehearsal turn

-- none
record IsNone (w v : Walk) : Type 0 where
  pub left : (i : ℕ) → left_of v i ≡ left_of w i
  pub same : v.detectors ≡ w.detectors
  pub is : v.rehearsal ≡ w.rehearsal

abbrev IsNext : WalkOptions → Walk → Walk → Type 0
IsNext o w v = IsOne o w v ⊎ IsNone w v

none_made : (o : WalkOptions) (w : Walk) (most : ℕ) → IsMade o w w most
none_made o w most = record {
  turns = [];
  are = tt;
  few = omega arith;
  left = λ i. refl;
  answers = λ p d low is. refl;
  is = none_pass w.rehearsal;
}

entries_if : (b : Bool) (e : Disturbance) (more : List Disturbance) → (if b then e ∷ more else more) ≡ (if b then e ∷ [] else []) ++ more
entries_if b e more = grind arith

entries_first : (i : ℕ) (turn : WalkTurn) (turns : List WalkTurn) →
    entries_in i (turn ∷ turns) ≡ entries_in i (turn ∷ []) ++ entries_in i turns
entries_first i (OfMember p answer suspects serial) turns = refl
entries_first i (OfScript j e) turns = entries_if (i == j) e (entries_in i turns)

one_more : (o : WalkOptions) (w u v : Walk) (most : ℕ) → IsOne o w u → IsMade o u v most → IsMade o w v (suc most)
one_more o w u v most one m = record {
  turns = one.turn ∷ m.turns;
  are = (one.fits, subst (λ r. AreTurns o r m.turns) one.is m.are);
  few = omega (arith, m.few);
  left = λ i.
      cc (
        entries_first i one.turn m.turns,
        append_assoc (entries_in i (one.turn ∷ [])) (entries_in i m.turns) (left_of v i),
        m.left i,
        one.left i,
      );
  answers = λ p d low is.
      answers_first p one.turn m.turns
      ∙ joined_answers p d (answers_to p (one.turn ∷ [])) (answers_to p m.turns) u.detectors (one.said p d low is)
      (λ e there. m.answers p e low there) ∙ ap (λ l. first_answers d (length l)) (sym (answers_first p one.turn m.turns));
  is = subst (λ r. v.rehearsal ≡ extended_by r (passed r (all_tries r m.turns))) one.is m.is
      ∙ sym (first_passes w.rehearsal (tried_in w.rehearsal one.turn) (all_tries (after_turn w.rehearsal one.turn) m.turns));
}

none_more : (o : WalkOptions) (w u v : Walk) (most : ℕ) → IsNone w u → IsMade o u v most → IsMade o w v (suc most)
none_more o w u v most none m = record {
  turns = m.turns;
  are = subst (λ r. AreTurns o r m.turns) none.is m.are;
  few = omega (arith, m.few);
  left = λ i. m.left i ∙ none.left i;
  answers = λ p d low is. m.answers p d low (ap (λ ds. slice_get ds (p - 1)) none.same ∙ is);
  is = subst (λ r. v.rehearsal ≡ extended_by r (passed r (all_tries r m.turns))) none.is m.is;
}

next_more : (o : WalkOptions) (w u v : Walk) (most : ℕ) → IsNext o w u → IsMade o u v most → IsMade o w v (suc most)
next_more o w u v most (inl one) m = one_more o w u v most one m
next_more o w u v most (inr none) m = none_more o w u v most none m

-- ---- the detectors

-- where no cut is asked for, there is none
abbrev IsUncut : Walk → Type 0
IsUncut w = (w.cuts ≡ 0) × (w.cut ≡ 0)

abbrev IsWhole : WalkOptions → Walk → Type 0
IsWhole o w = o.cuts ≡ 0 → IsUncut w

-- those of a walk that can go on
record IsReady (o : WalkOptions) (w : Walk) : Type 0 where
  pub size : w.rehearsal.setting.members ≡ o.run.members
  pub many : length w.detectors ≡ o.run.members
  pub rated : AllRated o.run.rate w.detectors
  pub whole : IsWhole o w

-- ---- a turn of a member

said_is : (asks : Option Ask) (d : Option SeededState) → unwrap_or (answered asks (answer asks d)) false ≡ answer asks d
said_is asks d = grind arith

suspects_so : (o : WalkOptions) (w : Walk) (p : ℕ) →
    IsSuspicion o (answered (question w.rehearsal p) (answer (question w.rehearsal p) (slice_get w.detectors (p - 1)))) (suspects o w p)
suspects_so o w p =
    let asks = question w.rehearsal p in
    let said = answer asks (slice_get w.detectors (p - 1)) in
    let is = said_is asks (slice_get w.detectors (p - 1)) in (
      λ yes. suspects_yes o (after_place o w.draws) w.suspected asks said (sym is ∙ yes),
      λ zero. suspects_said o (after_place o w.draws) (lasts o w p) said (never_lasts o w.suspected asks said zero) ∙ sym is,
    )

is_answer : (rate : ℕ) (ds : List SeededState) (i : ℕ) (asks : Option Ask) (d : Option SeededState) → slice_get ds i ≡ d → i < length ds →
    AllRated rate ds → IsAnswer rate (answered asks (answer asks d))
is_answer rate ds i None d is low h = tt
is_answer rate ds i (Some ask) None is low h = absurd (cc (sym is ∙ (got ds i low).1))
is_answer rate ds i (Some ask) (Some d) is low h =
    let same : d.rate ≡ rate = rated_there rate ds i d h is in
    ((λ zero. never_yes d (same ∙ zero)), (λ most. always_yes d (same ∙ most)))

driven_one : (o : WalkOptions) (w : Walk) (p : ℕ) → IsMember o.run.members p → IsReady o w → IsOne o w (driven o w p)
unfolding driven
driven_one o w p there ready =
    let asks = question w.rehearsal p in
    let d = slice_get w.detectors (p - 1) in
    record {
      turn = OfMember p (answered asks (answer asks d)) (suspects o w p) (receives_at o w p);
      fits = record {
        there = there;
        asks = asks_so asks (answer asks d);
        answers = is_answer o.run.rate w.detectors (p - 1) asks d refl (omega (arith, ready.many, there.0, there.1)) ready.rated;
        suspicion = suspects_so o w p;
        receipt = (receives_waiting o w p, λ scatter cuts. receives_first o w p scatter (ready.whole cuts).1);
      };
      left = λ i. refl;
      said = λ q e from is. follows_by w.detectors q p e asks (q == p) refl from there.0 is;
      is = refl;
    }

-- ---- a turn of a script

set_nothing : (scripts : List (List Disturbance)) (i j : ℕ) → get_or scripts i [] ≡ [] →
    get_or (set scripts i []) j [] ≡ get_or scripts j []
set_nothing [] i j h = refl
set_nothing (s ∷ scripts) i j h = grind (arith, set_nothing scripts)

script_there : (scripts : List (List Disturbance)) (i : ℕ) (e : Disturbance) (more : List Disturbance) → get_or scripts i [] ≡ e ∷ more →
    i < length scripts
script_there [] i e more h = absurd (cc h)
script_there (s ∷ scripts) i e more h = grind (arith, script_there scripts)

set_rest : (scripts : List (List Disturbance)) (i j : ℕ) (e : Disturbance) (more : List Disturbance) (b : Bool) → (j == i) ≡ b →
    get_or scripts i [] ≡ e ∷ more → (if b then e ∷ [] else []) ++ get_or (set scripts i more) j [] ≡ get_or scripts j []
set_rest scripts i j e more true same h =
    let is : i ≡ j = grind (arith, nat_tests) in
    subst (λ n. e ∷ get_or (set scripts i more) n [] ≡ get_or scripts n []) is
    (ap (λ l. e ∷ l) (get_or-set_same scripts i more [] (script_there scripts i e more h)) ∙ sym h)
set_rest scripts i j e more false other h =
    let not : j ≢ i = λ is. absurd (true≢false (sym (grind (arith, nat_tests)) ∙ other)) in
    get_or-set_other scripts i j more [] not

entered_by : (o : WalkOptions) (w : Walk) (i : ℕ) (entries : List Disturbance) → left_of w i ≡ entries → IsNext o w (entered w i)
unfolding entered
entered_by o w i [] is =
    let same : drop 1 (left_of w i) ≡ [] = ap (drop 1) is in
    inr (record {
      left = λ j.
          ap (λ l. get_or (set w.scripts i l) j []) same ∙ set_nothing w.scripts i j is;
      same = refl;
      is = ap (λ l. after_entry w.rehearsal (slice_get l 0)) is;
    })
entered_by o w i (e ∷ more) is = inl (record {
  turn = OfScript i e;
  fits = tt;
  left = λ j.
      ap (λ l. (if j == i then e ∷ [] else []) ++ get_or (set w.scripts i (drop 1 l)) j []) is
      ∙ set_rest w.scripts i j e more (j == i) refl is;
  said = λ p d low there. follows_not w.detectors p d there;
  is = ap (λ l. after_entry w.rehearsal (slice_get l 0)) is;
})

-- ---- any turn

try_setting : (w : Rehearsal) (tries : Option Step) → (after_try w tries).setting ≡ w.setting
try_setting w None = refl
try_setting w (Some step) = if_either (λ (v : Rehearsal). v.setting ≡ w.setting) (is_none (cause w step)) (extended w step) w refl refl

next_setting : (o : WalkOptions) (w v : Walk) → IsNext o w v → v.rehearsal.setting ≡ w.rehearsal.setting
next_setting o w v (inl one) = ap (λ (r : Rehearsal). r.setting) one.is ∙ try_setting w.rehearsal (tried_in w.rehearsal one.turn)
next_setting o w v (inr none) = ap (λ (r : Rehearsal). r.setting) none.is

-- a turn that leaves a walk which can go on
record HasTurned (o : WalkOptions) (w v : Walk) : Type 0 where
  pub next : IsNext o w v
  pub ready : IsReady o v

ready_by : (o : WalkOptions) (w v : Walk) → IsReady o w → IsNext o w v → length v.detectors ≡ length w.detectors →
    AllRated o.run.rate v.detectors → IsWhole o v → HasTurned o w v
ready_by o w v ready next many rated whole = record {
  next = next;
  ready = record {
    size = ap (λ s. s.members) (next_setting o w v next) ∙ ready.size;
    many = many ∙ ready.many;
    rated = rated;
    whole = whole;
  };
}

driven_on : (o : WalkOptions) (w : Walk) (p : ℕ) → IsMember o.run.members p → IsReady o w → HasTurned o w (driven o w p)
unfolding driven
driven_on o w p there ready =
    let asks = question w.rehearsal p in
    let d = slice_get w.detectors (p - 1) in
    ready_by o w (driven o w p) ready (inl (driven_one o w p there ready)) (still_many w.detectors p asks d)
    (still_rated o.run.rate w.detectors p asks ready.rated) ready.whole

entered_on : (o : WalkOptions) (w : Walk) (i : ℕ) → IsReady o w → HasTurned o w (entered w i)
unfolding entered
entered_on o w i ready =
    ready_by o w (entered w i) ready (entered_by o w i (left_of w i) refl) refl ready.rated ready.whole

script_on : (o : WalkOptions) (w : Walk) (i : Option ℕ) → IsReady o w → HasTurned o w (after_script w i)
script_on o w None ready = record { next = inr (record { left = λ i. refl; same = refl; is = refl }); ready = ready }
script_on o w (Some i) ready = entered_on o w i ready

made_if : (o : WalkOptions) (w : Walk) (k : ℕ) (b : Bool) → nat_lt k w.rehearsal.setting.members ≡ b → IsReady o w →
    HasTurned o w (if b then driven o w (k + 1) else after_script w (slice_get (drawn_scripts o w) (k - w.rehearsal.setting.members)))
made_if o w k true below ready =
    let low : k < w.rehearsal.setting.members = grind (arith, nat_tests) in
    driven_on o w (k + 1) (omega arith, omega (arith, low, ready.size)) ready
made_if o w k false above ready = script_on o w (slice_get (drawn_scripts o w) (k - w.rehearsal.setting.members)) ready

made_on : (o : WalkOptions) (w : Walk) (k : ℕ) → IsReady o w → HasTurned o w (made_by o w k)
unfolding made_by
made_on o w k ready = made_if o w k (nat_lt k w.rehearsal.setting.members) refl ready

-- one with the same record, detectors and scripts
record IsAside (w u : Walk) : Type 0 where
  pub rehearsal : u.rehearsal ≡ w.rehearsal
  pub detectors : u.detectors ≡ w.detectors
  pub scripts : u.scripts ≡ w.scripts

same_next : (o : WalkOptions) (w u v : Walk) → IsAside w u → IsNext o u v → IsNext o w v
same_next o w u v a (inl one) = inl (record {
  turn = one.turn;
  fits = subst (λ (r : Rehearsal). IsTurn o r one.turn) a.rehearsal one.fits;
  left = λ i. one.left i ∙ ap (λ l. get_or l i []) a.scripts;
  said = λ p d low there. one.said p d low (ap (λ ds. slice_get ds (p - 1)) a.detectors ∙ there);
  is = subst (λ (r : Rehearsal). v.rehearsal ≡ after_turn r one.turn) a.rehearsal one.is;
})
same_next o w u v a (inr none) = inr (record {
  left = λ i. none.left i ∙ ap (λ l. get_or l i []) a.scripts;
  same = none.same ∙ a.detectors;
  is = none.is ∙ a.rehearsal;
})

same_ready : (o : WalkOptions) (w u : Walk) → IsAside w u → IsWhole o u → IsReady o w → IsReady o u
same_ready o w u a whole ready = record {
  size = ap (λ (r : Rehearsal). r.setting.members) a.rehearsal ∙ ready.size;
  many = ap (λ (ds : List SeededState). length ds) a.detectors ∙ ready.many;
  rated = subst (λ (ds : List SeededState). AllRated o.run.rate ds) (sym a.detectors) ready.rated;
  whole = whole;
}

drawn_on : (o : WalkOptions) (w : Walk) → IsReady o w → HasTurned o w (drawn o w)
unfolding drawn
drawn_on o w ready =
    let v = record w { draws = after_word w.draws } in
    let aside : IsAside w v = record { rehearsal = refl; detectors = refl; scripts = refl } in
    let made = made_on o v (next_word w.draws % workers o w) (same_ready o w v aside ready.whole ready) in
    record { next = same_next o w v (made_by o v (next_word w.draws % workers o w)) aside made.next; ready = made.ready }

-- ---- what comes before a turn

if_aside : (c : Bool) (w u v : Walk) → IsAside w u → IsAside w v → IsAside w (if c then u else v)
if_aside c w u v h k = if_either (IsAside w) c u v h k

changed_aside : (w : Walk) → IsAside w (changed_now w)
unfolding changed_now
changed_aside w = search if_aside

chance_aside : (w : Walk) → IsAside w (after_chance w)
unfolding after_chance
chance_aside w = search if_aside

aside_on : (u v w : Walk) → IsAside u v → IsAside v w → IsAside u w
aside_on u v w h k = record {
  rehearsal = k.rehearsal ∙ h.rehearsal;
  detectors = k.detectors ∙ h.detectors;
  scripts = k.scripts ∙ h.scripts;
}

before_aside : (w : Walk) → IsAside w (after_chance (changed_now w))
before_aside w = aside_on w (changed_now w) (after_chance (changed_now w)) (changed_aside w) (chance_aside (changed_now w))

-- a group that is not to be cut stays whole
not_changed : (w : Walk) → IsUncut w → changed_now w ≡ w
unfolding changed_now
not_changed w h =
    let v = record w { draws = after_word w.draws } in
    ap (λ b. if b then (if is_rare (next_word w.draws) then changed v else v) else w)
    (ap₂ (λ cut cuts. not (cut == 0 && cuts == 0)) h.1 h.0)

chance_uncut : (w : Walk) → IsUncut w → IsUncut (after_chance w)
unfolding after_chance
chance_uncut w h = if_either IsUncut (has_left w 4) (record w { draws = after_word w.draws }) w h h

before_whole : (o : WalkOptions) (w : Walk) → IsWhole o w → IsWhole o (after_chance (changed_now w))
before_whole o w h none =
    subst (λ v. IsUncut (after_chance v)) (sym (not_changed w (h none))) (chance_uncut w (h none))

turned_on : (o : WalkOptions) (number : ℕ) (w : Walk) → IsReady o w → HasTurned o w (turned o number w)
unfolding turned
turned_on o number w ready =
    let u = after_chance (changed_now w) in
    let struck = is_struck (changed_now w) in
    let rest = if is_due o number u then entered u 0 else drawn o u in
    let there = same_ready o w u (before_aside w) (before_whole o w ready.whole) ready in
    let t = if_either (HasTurned o u) struck (entered u 4) rest (entered_on o u 4 there)
    (if_either (HasTurned o u) (is_due o number u) (entered u 0) (drawn o u) (entered_on o u 0 there) (drawn_on o u there)) in
    record { next = same_next o w u (if struck then entered u 4 else rest) (before_aside w) t.next; ready = t.ready }

-- ---- the walk

walk_made : (o : WalkOptions) (made more : ℕ) (w : Walk) → IsReady o w → IsMade o w (walked_for o made more w) more
unfolding walked_for
walk_made o made zero w ready = none_made o w zero
walk_made o made (suc more) w ready =
    let v = turned o (made + 1) w in
    let on = turned_on o (made + 1) w ready in
    let rest = walked_for o (made + 1) more v in
    if_either (λ x. IsMade o w x (suc more)) (is_shown_by v.until v.rehearsal) v rest
    (next_more o w v v more on.next (none_made o v more))
    (next_more o w v rest more on.next (walk_made o (made + 1) more v on.ready))

start_ready : (o : WalkOptions) (until : Option Goal) → IsReady o (start o until)
unfolding start
start_ready o until = record {
  size = refl;
  many = first_many o.run o.run.members;
  rated = rated_first o.run o.run.members;
  whole = λ zero. (zero, refl);
}

started : (o : WalkOptions) (until : Option Goal) (v : Walk) → IsMade o (start o until) v (most_turns o) → HasTurns o v.rehearsal
unfolding start
started o until v m = record {
  turns = m.turns;
  are = m.are;
  few = m.few;
  scripts = λ i. (left_of v i, m.left i);
  answers = λ p there. m.answers p (detector_of o.run p) there.0 (detector_at o.run o.run.members p there.0 there.1);
  steps = ap (λ (w : Rehearsal). w.steps) m.is;
}

pub has_turns : (o : WalkOptions) (until : Option Goal) → HasTurns o (walked o until)
unfolding walked
has_turns o until =
    let end = walked_for o 0 (most_turns o) (start o until) in
    started o until end (walk_made o 0 (most_turns o) (start o until) (start_ready o until))

-- ---- a member that asks

asked_next : (o : Option Step) (ask a : Ask) → asked_for o ask ≡ Some a → (q : ℕ) × (o ≡ Some (step.Suspect q))
asked_next (Some (step.Suspect q)) ask a h = (q, refl)
asked_next _ ask a h = absurd (cc h)

up : (w : Rehearsal) (s : Step) → is_none (cause w s) ≡ true → has_crashed w (actor s) ≡ false
unfolding cause
up w s h = grind arith

tries_it : (w : Rehearsal) (p : ℕ) (serial : Option ℕ) → next_local w p ≡ Some (step.Suspect p) →
    is_none (cause w (step.Suspect p)) ≡ true → tries w p serial true ≡ Some (step.Suspect p)
unfolding tries
tries_it w p serial is free =
    ap (λ b. if b then None else chosen p serial true (next_local w p)) (up w (step.Suspect p) free) ∙ ap (chosen p serial true) is

next_is : (w : Rehearsal) (p : ℕ) (serial : Option ℕ) (q : ℕ) → next_local w p ≡ Some (step.Suspect q) →
    after_try w (tries w p serial true) ≡ extended w (step.Suspect p)
next_is w p serial q is =
    let own : q ≡ p = subst (λ o. IsTry p o) is (next_by w p) in
    let same : next_local w p ≡ Some (step.Suspect p) = is ∙ ap (λ n. Some (step.Suspect n)) own in
    let free : is_none (cause w (step.Suspect p)) ≡ true =
    (found-find (λ s. is_none (cause w s)) (step.Suspect p) (candidates p (member_of w p)) same).1 in
    ap (after_try w) (tries_it w p serial same free) ∙ ap (λ b. if b then extended w (step.Suspect p) else w) free

pub each_asks : (w : Rehearsal) (p : ℕ) (serial : Option ℕ) (ask : Ask) → question w p ≡ Some ask →
    after_try w (tries w p serial true) ≡ extended w (step.Suspect p)
unfolding question
each_asks w p serial ask h =
    let next = asked_next (next_local w p) (ask_of w p) ask h in
    next_is w p serial next.0 next.1

-- what the law of walks says, but for the least seed
pub ruleset of_walks = (walk_allowed, has_turns, only_asked, says_so, each_asks, always_yes, never_yes, walk_quiet, nowhere)
