use Rattle.std.proofs.Common.{◌≡◌, sym, ◌∙◌, ap, true, false, arith}
use Rattle.ct_names.specs.MemberSet.{has_member}
use Rattle.ct_rounds.proofs.Rising.{within-set}
use Rattle.ct_rounds.proofs.Estimates.{largest-in, largest-out, nobody-heard}
use Rattle.ct_rounds.proofs.tally.Tally.largest.Goals as goal

pub bounds-self-inside-from : goal.bounds-self-inside-from
bounds-self-inside-from c =
    let there = sym c.contains.ensures.value ∙ c.if-contains.true in
    omega (arith, (within-set c.self.inside.heard c.args.from c.self.invariant.heard_is there).1)

pub returns-then-contains : goal.returns-then-contains
returns-then-contains c =
    let i = c.self.inside in
    let there : has_member i.heard c.args.from ≡ true = sym c.contains.ensures.value ∙ c.if-contains.true in
    rw (← c.self.view_is) (largest-in i.estimates c.args.from i.heard i.acked i.replied i.proposal c.in-Some.best
    (rw c.in-Some.is at c.self.invariant) there)

pub returns-else-contains : goal.returns-else-contains
returns-else-contains c =
    let i = c.self.inside in
    let absent : has_member i.heard c.args.from ≡ false = sym c.contains.ensures.value ∙ c.if-contains.false in
    rw (← c.self.view_is) (c.if-contains.false ∙ largest-out i.estimates c.args.from i.heard i.acked i.replied i.proposal absent)

pub returns-in-None : goal.returns-in-None
returns-in-None c =
    let i = c.self.inside in
    let nobody = nobody-heard i.estimates i.heard i.acked i.replied (rw c.in-None.is at c.self.invariant) in
    rw (← c.self.view_is) (largest-out i.estimates c.args.from i.heard i.acked i.replied i.proposal
    (ap (λ z. has_member z c.args.from) nobody))
