-- The largest round of the turns of a walk.
use Rattle.std.proofs.Common.{◌≡◌, ◌∙◌, ℕ, ◌+◌, ◌*◌, max, true, false, Option, ap, ap₂, arith, refl, sym, add-one}
use Rattle.ct_grammar.specs.declared.goal.Goal.{Goal}
use Rattle.ct_model.specs.Rehearsal.{Rehearsal}
use Rattle.ct_walk.specs.declared.options.WalkOptions.{WalkOptions}
use Rattle.ct_walk.specs.Nearness.{came, came_to, largest_round, rounds_for, rounds_of}
use Rattle.ct_walk.specs.Shown.{is_shown_by}
use Rattle.ct_walk.specs.Sights.{sight_in}
use Rattle.ct_walk.specs.Walking.{Walk, entries_left, most_turns, start, turned, walked_for}
use Rattle.ct_walk.proofs.Looping.{walked_is}

max_grouped : (a b c : ℕ) → max a (max b c) ≡ max (max a b) c
max_grouped a b c = omega arith

max_none : (a : ℕ) → max a 0 ≡ a
max_none a = omega arith

module _ (o : WalkOptions) (made left next rounds new : ℕ) (w v : Walk) (some : left ≡ next + 1)
    (turns : v ≡ turned o (made + 1) w) (counts : new ≡ max rounds (largest_round v.rehearsal)) where
  passes : is_shown_by v.until v.rehearsal ≡ false →
      rounds_for o made left w ≡ max (largest_round v.rehearsal) (rounds_for o (made + 1) next v)
  unfolding rounds_for
  passes shown = rw (some, add-one) (rw (← turns, shown) refl)

  -- after another turn the walk goes on
  pub rounds_go : is_shown_by v.until v.rehearsal ≡ false →
      max new (rounds_for o (made + 1) next v) ≡ max rounds (rounds_for o made left w)
  rounds_go shown =
      ap (λ n. max n (rounds_for o (made + 1) next v)) counts
      ∙ (sym (max_grouped rounds (largest_round v.rehearsal) (rounds_for o (made + 1) next v))
      ∙ ap (max rounds) (sym (passes shown)))

  -- it is the last one
  pub rounds_stop : is_shown_by v.until v.rehearsal ≡ true → new ≡ max rounds (rounds_for o made left w)
  unfolding rounds_for
  rounds_stop shown = rw (some, add-one) (rw (← turns, shown) (counts ∙ ap (max rounds) (sym (max_none (largest_round v.rehearsal)))))

pub rounds_end : (o : WalkOptions) (made left rounds : ℕ) (w : Walk) → left ≡ 0
    → max rounds (rounds_for o made left w) ≡ rounds
unfolding rounds_for
rounds_end o made left rounds w none = rw none (max_none rounds)

-- the largest round of the walk from the start
pub rounds_are : (o : WalkOptions) (until : Option Goal) (w : Walk) (most rounds : ℕ) → w ≡ start o until
    → most ≡ w.rehearsal.setting.members * o.run.turns + entries_left w.scripts
    → rounds ≡ rounds_for o 0 most w → rounds ≡ rounds_of o until
unfolding start
rounds_are o until w most rounds starts most_is counts =
    let all : most ≡ most_turns o =
    most_is ∙ ap (λ (x : Walk). x.rehearsal.setting.members * o.run.turns + entries_left x.scripts) starts in
    counts ∙ ap₂ (λ (n : ℕ) (x : Walk). rounds_for o 0 n x) all starts

-- what the walk from the start came to
pub came_is : (o : WalkOptions) (until : Option Goal) (w v : Walk) (most rounds came-to : ℕ) (record-is : Rehearsal)
    → w ≡ start o until
    → most ≡ w.rehearsal.setting.members * o.run.turns + entries_left w.scripts
    → v ≡ walked_for o 0 most w → rounds ≡ rounds_for o 0 most w
    → record-is ≡ v.rehearsal → came-to ≡ came (sight_in until) rounds record-is → came-to ≡ came_to o until
unfolding came_to
came_is o until w v most rounds came-to r starts most_is goes counts same is =
    is ∙ ap₂ (λ (n : ℕ) (x : Rehearsal). came (sight_in until) n x) (rounds_are o until w most rounds starts most_is counts)
    (same ∙ walked_is o until w v most starts most_is goes)
