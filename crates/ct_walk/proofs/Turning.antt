-- The turns of a walk one by one.
use Rattle.std.proofs.Common.{◌≡◌, ◌∙◌, ◌+◌, ℕ, Bool, true, false, Option, Some, None, Result, Ok, Err, OnOk, ap, ap₂}
use Rattle.std.proofs.Common.{refl, sym}
use Rattle.std.specs.Prelude.{◌&&◌, ◌%◌, ◌==◌, ◌-◌, if◌then◌else◌, nat_lt, slice_get}
use Rattle.ct_choices.specs.Choices.{after_try}
use Rattle.ct_detect.specs.Seeded.{after_word, next_word}
use Rattle.ct_grammar.specs.declared.goal.Goal.{Goal}
use Rattle.ct_model.specs.Rehearsal.{Rehearsal}
use Rattle.ct_model.specs.declared.step.Step.{Step}
use Rattle.ct_rehearse.specs.declared.disturbance.Disturbance.{Disturbance}
use Rattle.ct_walk.specs.Adversary.{is_rare}
use Rattle.ct_walk.specs.Turns.{Drawing, any_left, drawing_of, drawn_tries, driver_tries}
use Rattle.ct_walk.specs.Turns.{entry_tried, is_multiple, script_tries, step_of_entry, tried_in}
use Rattle.ct_walk.specs.Turns.{turn_tries, walk_in, worker_tries}
use Rattle.ct_walk.specs.Walking.{Walk, after_chance, after_entry, after_script, after_turn, changed, changed_now, drawn, drawn_scripts}
use Rattle.ct_walk.specs.Walking.{driven, entered, has_left, is_due, is_struck, left_of, made_by, may_change, turned}
use Rattle.ct_walk.specs.Walking.{workers}
use Rattle.ct_walk.specs.declared.options.WalkOptions.{WalkOptions}

-- ---- what a turn does to the record

either_record : (b : Bool) (x y : Walk) (r : Rehearsal) → x.rehearsal ≡ r → y.rehearsal ≡ r → (if b then x else y).rehearsal ≡ r
either_record true x y r first second = first
either_record false x y r first second = second

changed_record : (w : Walk) → (changed_now w).rehearsal ≡ w.rehearsal
unfolding changed_now
changed_record w =
    let v = record w { draws = after_word w.draws } in
    let begun = record v { cut = next_word v.draws % 65536; cuts = v.cuts - 1; draws = after_word v.draws } in
    let ended = record v { cut = 0 } in
    either_record (may_change w) (if is_rare (next_word w.draws) then changed v else v) w w.rehearsal
    (either_record (is_rare (next_word w.draws)) (changed v) v w.rehearsal (either_record (v.cut == 0) begun ended w.rehearsal refl refl)
    refl) refl

chance_record : (w : Walk) → (after_chance w).rehearsal ≡ w.rehearsal
unfolding after_chance
chance_record w = either_record (has_left w 4) (record w { draws = after_word w.draws }) w w.rehearsal refl refl

either_try : (b : Bool) (x y : Walk) (s t : Option Step) (r : Rehearsal) → x.rehearsal ≡ after_try r s → y.rehearsal ≡ after_try r t →
    (if b then x else y).rehearsal ≡ after_try r (if b then s else t)
either_try true x y s t r first second = first
either_try false x y s t r first second = second

entry_try : (r : Rehearsal) (entry : Option Disturbance) → after_entry r entry ≡ after_try r (step_of_entry r entry)
entry_try r None = refl
entry_try r (Some entry) = refl

entered_try : (w : Walk) (i : ℕ) → (entered w i).rehearsal ≡ after_try w.rehearsal (entry_tried w i)
unfolding entered
entered_try w i = entry_try w.rehearsal (slice_get (left_of w i) 0)

driven_try : (o : WalkOptions) (w : Walk) (p : ℕ) → (driven o w p).rehearsal ≡ after_try w.rehearsal (driver_tries o w p)
unfolding driven
driven_try o w p = refl

script_try : (w : Walk) (i : Option ℕ) → (after_script w i).rehearsal ≡ after_try w.rehearsal (script_tries w i)
script_try w None = refl
script_try w (Some i) = entered_try w i

made_try : (o : WalkOptions) (w : Walk) (k : ℕ) → (made_by o w k).rehearsal ≡ after_try w.rehearsal (worker_tries o w k)
unfolding made_by worker_tries
made_try o w k =
    let i = slice_get (drawn_scripts o w) (k - w.rehearsal.setting.members) in
    either_try (nat_lt k w.rehearsal.setting.members) (driven o w (k + 1)) (after_script w i) (driver_tries o w (k + 1)) (script_tries w i)
    w.rehearsal (driven_try o w (k + 1)) (script_try w i)

drawn_try : (o : WalkOptions) (w : Walk) → (drawn o w).rehearsal ≡ after_try w.rehearsal (drawn_tries o w)
unfolding drawn
drawn_try o w = made_try o (record w { draws = after_word w.draws }) (next_word w.draws % workers o w)

pub turned_try : (o : WalkOptions) (number : ℕ) (w : Walk) → (turned o number w).rehearsal ≡ after_try w.rehearsal (tried_in o number w)
unfolding turned tried_in
turned_try o number w =
    let v = changed_now w in
    let u = after_chance v in
    let rest = if is_due o number u then entered u 0 else drawn o u in
    let rest-tries = if is_due o number u then entry_tried u 0 else drawn_tries o u in
    let same : u.rehearsal ≡ w.rehearsal = chance_record v ∙ changed_record w in
    either_try (is_struck v) (entered u 4) rest (entry_tried u 4) rest-tries u.rehearsal (entered_try u 4)
    (either_try (is_due o number u) (entered u 0) (drawn o u) (entry_tried u 0) (drawn_tries o u) u.rehearsal (entered_try u 0)
    (drawn_try o u))
    ∙ ap (λ r. after_try r (turn_tries o number (is_struck v) u)) same

-- ---- a turn is the same whatever the walk is made until

abbrev pub with_goal : Option Goal → Walk → Walk
with_goal until w = record w { until = until }

either_goal : (b : Bool) (x y v w : Walk) (until : Option Goal) → x ≡ with_goal until v → y ≡ with_goal until w →
    (if b then x else y) ≡ with_goal until (if b then v else w)
either_goal true x y v w until first second = first
either_goal false x y v w until first second = second

driven_goal : (o : WalkOptions) (until : Option Goal) (w : Walk) (p : ℕ) → driven o (with_goal until w) p ≡ with_goal until (driven o w p)
unfolding driven
driven_goal o until w p = refl

entered_goal : (until : Option Goal) (w : Walk) (i : ℕ) → entered (with_goal until w) i ≡ with_goal until (entered w i)
unfolding entered
entered_goal until w i = refl

script_goal : (until : Option Goal) (w : Walk) (i : Option ℕ) → after_script (with_goal until w) i ≡ with_goal until (after_script w i)
script_goal until w None = refl
script_goal until w (Some i) = entered_goal until w i

made_goal : (o : WalkOptions) (until : Option Goal) (w : Walk) (k : ℕ) → made_by o (with_goal until w) k ≡ with_goal until (made_by o w k)
unfolding made_by
made_goal o until w k =
    let i = slice_get (drawn_scripts o w) (k - w.rehearsal.setting.members) in
    either_goal (nat_lt k w.rehearsal.setting.members) (driven o (with_goal until w) (k + 1)) (after_script (with_goal until w) i)
    (driven o w (k + 1)) (after_script w i) until (driven_goal o until w (k + 1)) (script_goal until w i)

drawn_goal : (o : WalkOptions) (until : Option Goal) (w : Walk) → drawn o (with_goal until w) ≡ with_goal until (drawn o w)
unfolding drawn workers
drawn_goal o until w = made_goal o until (record w { draws = after_word w.draws }) (next_word w.draws % workers o w)

changed_goal : (until : Option Goal) (w : Walk) → changed_now (with_goal until w) ≡ with_goal until (changed_now w)
unfolding changed_now
changed_goal until w =
    let v = record w { draws = after_word w.draws } in
    let begun = record v { cut = next_word v.draws % 65536; cuts = v.cuts - 1; draws = after_word v.draws } in
    let ended = record v { cut = 0 } in
    let rare = is_rare (next_word w.draws) in
    either_goal (may_change w) (if rare then changed (with_goal until v) else with_goal until v) (with_goal until w)
    (if rare then changed v else v) w until
    (either_goal rare (changed (with_goal until v)) (with_goal until v) (changed v) v until
    (either_goal (v.cut == 0) (with_goal until begun) (with_goal until ended) begun ended until refl refl) refl) refl

chance_goal : (until : Option Goal) (w : Walk) → after_chance (with_goal until w) ≡ with_goal until (after_chance w)
unfolding after_chance
chance_goal until w =
    let v = record w { draws = after_word w.draws } in
    either_goal (has_left w 4) (with_goal until v) (with_goal until w) v w until refl refl

due_goal : (o : WalkOptions) (number : ℕ) (until : Option Goal) (w : Walk) → is_due o number (with_goal until w) ≡ is_due o number w
unfolding is_due
due_goal o number until w = refl

rest_goal : (o : WalkOptions) (number : ℕ) (until : Option Goal) (struck : Bool) (w : Walk) →
    after_turn o number struck (with_goal until w) ≡ with_goal until (after_turn o number struck w)
unfolding is_due
rest_goal o number until struck w =
    let rest = if is_due o number w then entered w 0 else drawn o w in
    let due = is_due o number w in
    either_goal struck (entered (with_goal until w) 4) (if due then entered (with_goal until w) 0 else drawn o (with_goal until w))
    (entered w 4) rest until (entered_goal until w 4)
    (either_goal due (entered (with_goal until w) 0) (drawn o (with_goal until w)) (entered w 0) (drawn o w) until (entered_goal until w 0)
    (drawn_goal o until w))

turned_goal : (o : WalkOptions) (number : ℕ) (until : Option Goal) (w : Walk) →
    turned o number (with_goal until w) ≡ with_goal until (turned o number w)
unfolding turned
turned_goal o number until w =
    let v = changed_now w in
    ap (λ x. after_turn o number (is_struck x) (after_chance x)) (changed_goal until w)
    ∙ (ap (after_turn o number (is_struck v)) (chance_goal until v) ∙ rest_goal o number until (is_struck v) (after_chance v))

-- the walk after what its turn tries is done
turn_done : (o : WalkOptions) (number : ℕ) (w v : Walk) (d : Drawing) (step : Option Step) →
    step ≡ tried_in o number (walk_in w.rehearsal (drawing_of w)) → d ≡ drawing_of (turned o number (walk_in w.rehearsal (drawing_of w))) →
    v ≡ with_goal w.until (walk_in (after_try w.rehearsal step) d) → v ≡ turned o number w
turn_done o number w v d step tries after is =
    let x = walk_in w.rehearsal (drawing_of w) in
    let joins : after_try w.rehearsal step ≡ (turned o number x).rehearsal =
    ap (after_try w.rehearsal) tries ∙ sym (turned_try o number x) in
    is ∙ (ap₂ (λ r e. with_goal w.until (walk_in r e)) joins after ∙ sym (turned_goal o number w.until x))

pub turn_ok : {T E : Type 0} (result : Result T E) (o : WalkOptions) (number : ℕ) (w now v : Walk) (d : Drawing) (step : Option Step) →
    w ≡ now → step ≡ tried_in o number (walk_in w.rehearsal (drawing_of w)) →
    d ≡ drawing_of (turned o number (walk_in w.rehearsal (drawing_of w))) →
    OnOk result (v ≡ with_goal w.until (walk_in (after_try w.rehearsal step) d)) → OnOk result (v ≡ turned o number now)
turn_ok (Ok x) o number w now v d step same tries after is =
    turn_done o number w v d step tries after is ∙ ap (turned o number) same
turn_ok (Err e) o number w now v d step same tries after is = tt

-- ---- how a turn is drawn

module _ (o : WalkOptions) (number : ℕ) (r : Rehearsal) (d e f : Drawing) (struck : Bool)
    (cuts : walk_in r e ≡ changed_now (walk_in r d)) (strikes : struck ≡ is_struck (walk_in r e))
    (chances : walk_in r f ≡ after_chance (walk_in r e)) where
  tries_so : (b : Bool) → struck ≡ b → tried_in o number (walk_in r d) ≡ turn_tries o number b (walk_in r f)
  unfolding tried_in
  tries_so b is =
      ap₂ (turn_tries o number) (sym (ap is_struck cuts) ∙ (sym strikes ∙ is)) (sym (chances ∙ ap after_chance cuts))

  turns_so : (b : Bool) → struck ≡ b → turned o number (walk_in r d) ≡ after_turn o number b (walk_in r f)
  unfolding turned
  turns_so b is =
      ap₂ (after_turn o number) (sym (ap is_struck cuts) ∙ (sym strikes ∙ is)) (sym (chances ∙ ap after_chance cuts))

  -- a crash
  pub struck_tries : (step : Option Step) → struck ≡ true → step ≡ entry_tried (walk_in r f) 4 → step ≡ tried_in o number (walk_in r d)
  struck_tries step is tries = tries ∙ sym (tries_so true is)

  pub struck_turns : (g : Drawing) → struck ≡ true → g ≡ drawing_of (entered (walk_in r f) 4) →
      g ≡ drawing_of (turned o number (walk_in r d))
  struck_turns g is turns = turns ∙ ap drawing_of (sym (turns_so true is))

  module _ (due : Bool) (none : struck ≡ false) (asks : due ≡ (any_left f 0 && is_multiple o number)) where
    due_so : (b : Bool) → due ≡ b → is_due o number (walk_in r f) ≡ b
    unfolding is_due
    due_so b is = sym asks ∙ is

    -- the first script's entry
    pub due_tries : (step : Option Step) → due ≡ true → step ≡ entry_tried (walk_in r f) 0 → step ≡ tried_in o number (walk_in r d)
    due_tries step is tries =
        tries ∙ sym (tries_so false none
        ∙ ap (λ b. if b then entry_tried (walk_in r f) 0 else drawn_tries o (walk_in r f)) (due_so true is))

    pub due_turns : (g : Drawing) → due ≡ true → g ≡ drawing_of (entered (walk_in r f) 0) →
        g ≡ drawing_of (turned o number (walk_in r d))
    due_turns g is turns =
        turns ∙ ap drawing_of (sym (turns_so false none
        ∙ ap (λ b. if b then entered (walk_in r f) 0 else drawn o (walk_in r f)) (due_so true is)))

    -- a worker that is drawn
    pub drawn_so : (step : Option Step) → due ≡ false → step ≡ drawn_tries o (walk_in r f) → step ≡ tried_in o number (walk_in r d)
    drawn_so step is tries =
        tries ∙ sym (tries_so false none
        ∙ ap (λ b. if b then entry_tried (walk_in r f) 0 else drawn_tries o (walk_in r f)) (due_so false is))

    pub drawn_turns : (g : Drawing) → due ≡ false → g ≡ drawing_of (drawn o (walk_in r f)) →
        g ≡ drawing_of (turned o number (walk_in r d))
    drawn_turns g is turns =
        turns ∙ ap drawing_of (sym (turns_so false none
        ∙ ap (λ b. if b then entered (walk_in r f) 0 else drawn o (walk_in r f)) (due_so false is)))
