-- Turns and seeds one after the other.
use Rattle.std.proofs.Common.{◌≡◌, ◌∙◌, ℕ, ◌+◌, ◌*◌, true, false, Option, Some, None, ap, ap₂, refl, add-one}
use Rattle.ct_grammar.specs.declared.goal.Goal.{Goal}
use Rattle.ct_walk.specs.declared.options.WalkOptions.{WalkOptions}
use Rattle.ct_walk.specs.Finding.{finds, first_seed}
use Rattle.ct_walk.specs.Shown.{is_shown_by}
use Rattle.ct_walk.specs.Walking.{Walk, entries_left, most_turns, start, turned, walked, walked_for}

-- a turn that shows what is asked for is the last one
pub walk_stops : (o : WalkOptions) (made left next : ℕ) (w v : Walk) → left ≡ next + 1
    → v ≡ turned o (made + 1) w → is_shown_by v.until v.rehearsal ≡ true → walked_for o made left w ≡ v
unfolding walked_for
walk_stops o made left next w v some turns shown = rw (some, add-one) (rw (← turns, shown) refl)

-- after another one the walk goes on
pub walk_goes : (o : WalkOptions) (made left next : ℕ) (w v : Walk) → left ≡ next + 1
    → v ≡ turned o (made + 1) w → is_shown_by v.until v.rehearsal ≡ false
    → walked_for o made left w ≡ walked_for o (made + 1) next v
unfolding walked_for
walk_goes o made left next w v some turns shown = rw (some, add-one) (rw (← turns, shown) refl)

pub walk_ends : (o : WalkOptions) (made left : ℕ) (w : Walk) → left ≡ 0 → walked_for o made left w ≡ w
unfolding walked_for
walk_ends o made left w none = rw none refl

-- the first seed that is left shows it
pub seed_shows : (o : WalkOptions) (goal : Goal) (seed left next : ℕ) → left ≡ next + 1 → finds o goal seed ≡ true
    → first_seed o goal seed left ≡ Some seed
unfolding first_seed
seed_shows o goal seed left next some shown = rw (some, add-one) (rw shown refl)

-- it doesn't, and the others are left
pub seed_passes : (o : WalkOptions) (goal : Goal) (seed left next : ℕ) → left ≡ next + 1 → finds o goal seed ≡ false
    → first_seed o goal seed left ≡ first_seed o goal (seed + 1) next
unfolding first_seed
seed_passes o goal seed left next some shown = rw (some, add-one) (rw shown refl)

pub seeds_end : (o : WalkOptions) (goal : Goal) (seed left : ℕ) → left ≡ 0 → first_seed o goal seed left ≡ None
unfolding first_seed
seeds_end o goal seed left none = rw none refl

-- the turns that were made from the start are the walk
pub walked_is : (o : WalkOptions) (until : Option Goal) (w v : Walk) (most : ℕ) → w ≡ start o until
    → most ≡ w.rehearsal.setting.members * o.run.turns + entries_left w.scripts
    → v ≡ walked_for o 0 most w → v.rehearsal ≡ walked o until
unfolding walked start
walked_is o until w v most starts most_is goes =
    let all : most ≡ most_turns o =
    most_is ∙ ap (λ (x : Walk). x.rehearsal.setting.members * o.run.turns + entries_left x.scripts) starts in
    ap (λ (x : Walk). x.rehearsal) goes
    ∙ ap₂ (λ (n : ℕ) (x : Walk). (walked_for o 0 n x).rehearsal) all starts
