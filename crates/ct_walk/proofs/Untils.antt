-- What a walk is made until stays the same.
use Rattle.std.proofs.Common.{◌≡◌, ◌∙◌, ℕ, zero, suc, ◌+◌, Bool, true, false, Option, Some, None, ap, refl}
use Rattle.std.specs.Prelude.{◌%◌, ◌==◌, ◌-◌, if◌then◌else◌}
use Rattle.ct_detect.specs.Seeded.{after_word, next_word}
use Rattle.ct_grammar.specs.declared.goal.Goal.{Goal}
use Rattle.ct_walk.specs.Adversary.{is_rare}
use Rattle.ct_walk.specs.Walking.{Walk, after_chance, after_script, changed, changed_now, drawn, driven, entered, has_left, is_due}
use Rattle.ct_walk.specs.Walking.{is_struck, made_by, may_change, start, turned, walked_for}
use Rattle.ct_walk.specs.declared.options.WalkOptions.{WalkOptions}

either_until : (b : Bool) (x y : Walk) (until : Option Goal) → x.until ≡ until → y.until ≡ until → (if b then x else y).until ≡ until
either_until true x y until first second = first
either_until false x y until first second = second

driven_until : (o : WalkOptions) (w : Walk) (p : ℕ) → (driven o w p).until ≡ w.until
unfolding driven
driven_until o w p = refl

entered_until : (w : Walk) (i : ℕ) → (entered w i).until ≡ w.until
unfolding entered
entered_until w i = refl

script_until : (w : Walk) (i : Option ℕ) → (after_script w i).until ≡ w.until
script_until w None = refl
script_until w (Some i) = entered_until w i

made_until : (o : WalkOptions) (w : Walk) (k : ℕ) → (made_by o w k).until ≡ w.until
unfolding made_by
made_until o w k = either_until _ _ _ w.until (driven_until o w (k + 1)) (script_until w _)

drawn_until : (o : WalkOptions) (w : Walk) → (drawn o w).until ≡ w.until
unfolding drawn
drawn_until o w = made_until o _ _

changed_until : (w : Walk) → (changed_now w).until ≡ w.until
unfolding changed_now
changed_until w =
    let v = record w { draws = after_word w.draws } in
    let begun = record v { cut = next_word v.draws % 65536; cuts = v.cuts - 1; draws = after_word v.draws } in
    let ended = record v { cut = 0 } in
    either_until (may_change w) (if is_rare (next_word w.draws) then changed v else v) w w.until
    (either_until (is_rare (next_word w.draws)) (changed v) v w.until (either_until (v.cut == 0) begun ended w.until refl refl) refl) refl

chance_until : (w : Walk) → (after_chance w).until ≡ w.until
unfolding after_chance
chance_until w = either_until (has_left w 4) (record w { draws = after_word w.draws }) w w.until refl refl

pub turned_until : (o : WalkOptions) (number : ℕ) (w : Walk) → (turned o number w).until ≡ w.until
unfolding turned
turned_until o number w =
    let u = after_chance (changed_now w) in
    let before : u.until ≡ w.until = chance_until (changed_now w) ∙ changed_until w in
    let rest = if is_due o number u then entered u 0 else drawn o u in
    either_until (is_struck (changed_now w)) (entered u 4) rest w.until (entered_until u 4 ∙ before)
    (either_until (is_due o number u) (entered u 0) (drawn o u) w.until (entered_until u 0 ∙ before) (drawn_until o u ∙ before))

walked_until : (o : WalkOptions) (made left : ℕ) (w : Walk) → (walked_for o made left w).until ≡ w.until
unfolding walked_for
walked_until o made zero w = refl
walked_until o made (suc left) w =
    let first = turned_until o (made + 1) w in
    either_until _ _ _ w.until first (walked_until o (made + 1) left (turned o (made + 1) w) ∙ first)

started_until : (o : WalkOptions) (until : Option Goal) → (start o until).until ≡ until
unfolding start
started_until o until = refl

-- of a walk from the start
pub until_is : (o : WalkOptions) (until : Option Goal) (most : ℕ) (w v : Walk) → w ≡ start o until → v ≡ walked_for o 0 most w →
    v.until ≡ until
until_is o until most w v starts goes =
    ap (λ (x : Walk). x.until) goes
    ∙ (walked_until o 0 most w ∙ (ap (λ (x : Walk). x.until) starts ∙ started_until o until))
