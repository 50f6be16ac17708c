use Rattle.std.proofs.Common.{◌≡◌, ◌∙◌, ◌+◌, ◌-◌, arith, ap, max, sym}
use Rattle.ct_walk.specs.Nearness.{largest_round}
use Rattle.ct_walk.proofs.Looping.{walk_ends, walk_goes, walk_stops}
use Rattle.ct_walk.proofs.Rounds.{rounds_end, rounds_go, rounds_stop}
use Rattle.ct_walk.proofs.walker.Walker.walk.Goals as goal

pub loop-made-preserved : goal.loop-made-preserved
loop-made-preserved c =
    let shown = sym c.shows.ensures ∙ c.if-shows.false in
    let made = c.loop-made.made in
    let next = c.args.most - (made + 1) in
    let left : c.args.most - made ≡ next + 1 = omega (arith, c.loop-made-test.true) in
    let turns = c.in_ok-turn.ensures.ok in
    let walks = sym (walk_goes c.args.options.now made (c.args.most - made) next c.loop-made.self _ left turns shown)
    ∙ c.loop-made.invariant.0 in
    let rounds = c.max-rounds.ensures ∙ ap (max c.loop-made.rounds) (c.largest_round.ensures ∙ ap largest_round c.world.ensures) in (
      walks,
      rounds_go c.args.options.now made (c.args.most - made) next c.loop-made.rounds _ c.loop-made.self _ left turns rounds shown
          ∙ c.loop-made.invariant.1,
    )

pub returns-then-shows-clause-ok : goal.returns-then-shows-clause-ok
returns-then-shows-clause-ok c =
    let shown = sym c.shows.ensures ∙ c.if-shows.true in
    let made = c.loop-made.made in
    let next = c.args.most - (made + 1) in
    sym (walk_stops c.args.options.now made (c.args.most - made) next c.loop-made.self _
    (omega (arith, c.loop-made-test.true)) c.in_ok-turn.ensures.ok shown)
    ∙ c.loop-made.invariant.0

pub returns-then-shows-clause-rounds : goal.returns-then-shows-clause-rounds
returns-then-shows-clause-rounds c =
    let shown = sym c.shows.ensures ∙ c.if-shows.true in
    let made = c.loop-made.made in
    let next = c.args.most - (made + 1) in
    let rounds = c.max-rounds.ensures ∙ ap (max c.loop-made.rounds) (c.largest_round.ensures ∙ ap largest_round c.world.ensures) in
    rounds_stop c.args.options.now made (c.args.most - made) next c.loop-made.rounds _ c.loop-made.self _
    (omega (arith, c.loop-made-test.true)) c.in_ok-turn.ensures.ok rounds shown
    ∙ c.loop-made.invariant.1

pub returns-clause-ok : goal.returns-clause-ok
returns-clause-ok c =
    sym (walk_ends c.args.options.now c.loop-made.made _ c.loop-made.self (omega (arith, c.loop-made-test.false)))
    ∙ c.loop-made.invariant.0

pub returns-clause-rounds : goal.returns-clause-rounds
returns-clause-rounds c =
    sym (rounds_end c.args.options.now c.loop-made.made _ c.loop-made.rounds c.loop-made.self
    (omega (arith, c.loop-made-test.false)))
    ∙ c.loop-made.invariant.1
