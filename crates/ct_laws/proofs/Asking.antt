-- Turns that are asked for one by one make the walk.
use Rattle.std.proofs.Common.{◌≡◌, ◌∙◌, ◌+◌, ◌≤◌, ℕ, zero, suc, true, false, Option, Some, None, ap, arith, refl, sym}
use Rattle.std.specs.Prelude.{nat_lt}
use Rattle.std.proofs.lemmas.Bool.Decides.{nat_tests}
use Rattle.ct_choices.specs.Choices.{after_try}
use Rattle.ct_grammar.specs.declared.goal.Goal.{Goal}
use Rattle.ct_model.specs.Rehearsal.{Rehearsal, empty}
use Rattle.ct_model.specs.declared.step.Step.{Step}
use Rattle.ct_play.specs.Goals.{is_shown}
use Rattle.ct_program.specs.FreeOptions.{setting_of}
use Rattle.ct_walk.specs.Shown.{is_shown_by}
use Rattle.ct_walk.specs.Turns.{Turning, after_turn_of, drawing_of, first_turning, goes_on, told, tried_in, turn_of, walk_in}
use Rattle.ct_walk.specs.Walking.{Walk, most_turns, start, turned, walked, walked_for}
use Rattle.ct_walk.specs.declared.options.WalkOptions.{WalkOptions}
use Rattle.ct_walk.proofs.Looping.{walk_goes}
use Rattle.ct_walk.proofs.Turning.{turned_try, with_goal}
use Rattle.ct_walk.proofs.Untils.{turned_until}
use Rattle.ct_laws.specs.Asking.{after_told, asked_for}

told_done : (r : Rehearsal) (step : Option Step) → after_told (told step) r ≡ after_try r step
told_done r None = refl
told_done r (Some step) = refl

-- there is no turn left
none_left : (n : ℕ) (t : Turning) (r : Rehearsal) → goes_on t ≡ false → asked_for n t r ≡ r
unfolding asked_for turn_of after_turn_of
none_left zero t r over = refl
none_left (suc n) t r over = rw over (none_left n t r over)

asks_on : (n : ℕ) (t : Turning) (r : Rehearsal) → goes_on t ≡ true →
    asked_for (suc n) t r ≡ asked_for n
    (record t { made = t.made + 1; drawing = drawing_of (turned t.options (t.made + 1) (walk_in r t.drawing)) })
    (turned t.options (t.made + 1) (walk_in r t.drawing)).rehearsal
unfolding asked_for turn_of after_turn_of
asks_on n t r on =
    rw on
    (ap (asked_for n (record t { made = t.made + 1; drawing = drawing_of (turned t.options (t.made + 1) (walk_in r t.drawing)) }))
    (told_done r (tried_in t.options (t.made + 1) (walk_in r t.drawing)) ∙ sym (turned_try t.options (t.made + 1) (walk_in r t.drawing))))

on_is : (made most left : ℕ) → most ≡ made + suc left → nat_lt made most ≡ true
on_is made most left is = grind (arith, nat_tests)

over_is : (made most : ℕ) → most ≡ made + 0 → nat_lt made most ≡ false
over_is made most is = grind (arith, nat_tests)

none_shown : (until : Option Goal) (r : Rehearsal) → until ≡ None → is_shown_by until r ≡ false
unfolding is_shown
none_shown until r none = ap (λ u. is_shown_by u r) none

-- a walk that is made until no goal is the record of its drawing's turns
asks_are : (left n : ℕ) (o : WalkOptions) (made most : ℕ) (v : Walk) → v.until ≡ None → most ≡ made + left → left ≤ n →
    asked_for n (record { options = o; made = made; most = most; drawing = drawing_of v }) v.rehearsal
    ≡ (walked_for o made left v).rehearsal
unfolding walked_for
asks_are zero n o made most v until is low =
    none_left n (record { options = o; made = made; most = most; drawing = drawing_of v }) v.rehearsal (over_is made most is)
asks_are (suc left) zero o made most v until is low = absurd (omega (arith, low))
asks_are (suc left) (suc n) o made most v until is low =
    let t : Turning = record { options = o; made = made; most = most; drawing = drawing_of v } in
    let same : walk_in v.rehearsal (drawing_of v) ≡ v = ap (λ u. with_goal u v) (sym until) in
    let x = turned o (made + 1) v in
    let none : x.until ≡ None = turned_until o (made + 1) v ∙ until in
    asks_on n t v.rehearsal (on_is made most left is)
    ∙ (ap (λ w. asked_for n (record t { made = made + 1; drawing = drawing_of (turned o (made + 1) w) })
    (turned o (made + 1) w).rehearsal) same
    ∙ (asks_are left n o (made + 1) most x none (omega (arith, is)) (omega (arith, low))
    ∙ ap (λ (w : Walk). w.rehearsal)
    (sym (walk_goes o made (suc left) left v x (omega arith) refl (none_shown x.until x.rehearsal none)))))

from_none : (n : ℕ) → n ≡ 0 + n
from_none n = omega arith

pub asks_walk : (o : WalkOptions) (n : ℕ) → most_turns o ≤ n →
    asked_for n (first_turning o) (empty (setting_of o.run) o.run.cells) ≡ walked o None
unfolding walked start
asks_walk o n low = asks_are (most_turns o) n o 0 (most_turns o) (start o None) refl (from_none (most_turns o)) low
