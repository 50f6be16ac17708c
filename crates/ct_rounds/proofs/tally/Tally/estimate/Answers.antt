use Rattle.std.proofs.Common.{sym, ◌∙◌, arith}
use Rattle.ct_rounds.proofs.Rising.{within-set}
use Rattle.ct_rounds.proofs.Estimates.{found}
use Rattle.ct_rounds.proofs.tally.Tally.estimate.Goals as goal

pub bounds-self-inside-from : goal.bounds-self-inside-from
bounds-self-inside-from c =
    let there = sym c.contains.ensures.value ∙ c.if-contains.true in
    omega (arith, (within-set c.self.inside.heard c.args.from c.self.invariant.heard_is there).1)

pub returns-then-contains : goal.returns-then-contains
returns-then-contains c =
    rw (← c.self.view_is, c.new.ensures) (grind (arith, found c.self.inside.estimates c.self.inside.heard c.args.from, c.contains.ensures.value))

pub returns-else-contains : goal.returns-else-contains
returns-else-contains c =
    rw (← c.self.view_is) (grind (arith, found c.self.inside.estimates c.self.inside.heard c.args.from, c.contains.ensures.value))
