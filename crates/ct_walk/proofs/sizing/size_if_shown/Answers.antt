use Rattle.std.proofs.Common.{◌≡◌, ◌∙◌, ℕ, Bool, Option, Some, None, ap, length}
use Rattle.std.specs.Prelude.{if◌then◌else◌}
use Rattle.ct_grammar.specs.declared.goal.Goal.{Goal}
use Rattle.ct_model.specs.Rehearsal.{Rehearsal}
use Rattle.ct_walk.specs.declared.options.WalkOptions.{WalkOptions}
use Rattle.ct_walk.specs.declared.walk_size.WalkSize.{WalkSize}
use Rattle.ct_walk.specs.Nearness.{rounds_of}
use Rattle.ct_walk.specs.Options.{with_seed}
use Rattle.ct_walk.specs.Shown.{is_shown_by}
use Rattle.ct_walk.specs.Sizes.{size_if_shown, size_of}
use Rattle.ct_walk.specs.Walking.{walked}
use Rattle.ct_walk.proofs.sizing.size_if_shown.Goals as goal

abbrev size_with : Bool → ℕ → ℕ → Option WalkSize
size_with shows steps round = if shows then Some (record { steps = steps; round = round }) else None

size_is : (o w : WalkOptions) (goal : Goal) (seed : ℕ) (shows : Bool) (steps round : ℕ) → w ≡ with_seed o seed →
    shows ≡ is_shown_by (Some goal) (walked w (Some goal)) → steps ≡ length (walked w (Some goal)).steps → round ≡ rounds_of w (Some goal) →
    size_with shows steps round ≡ size_if_shown o goal seed
unfolding size_of
size_is o w goal seed shows steps round is shown counts largest =
    ap (λ b. size_with b steps round) shown
    ∙ (ap (λ n. size_with (is_shown_by (Some goal) (walked w (Some goal))) n round) counts
    ∙ (ap (λ n. size_with (is_shown_by (Some goal) (walked w (Some goal))) (length (walked w (Some goal)).steps) n) largest
    ∙ ap (λ (x : WalkOptions).
    size_with (is_shown_by (Some goal) (walked x (Some goal))) (length (walked x (Some goal)).steps) (rounds_of x (Some goal)))
    is))

pub returns-clause-ok : goal.returns-clause-ok
returns-clause-ok c =
    c.size_shown.ensures
    ∙ size_is c.args.options.now _ c.args.goal.now c.args.seed _ _ _ c.with_seed-options.ensures c.in_ok-walk.ensures.shows
    (ap (λ (w : Rehearsal). length w.steps) c.in_ok-walk.ensures.exact) c.in_ok-walk.ensures.rounds
