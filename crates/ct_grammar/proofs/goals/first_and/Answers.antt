use Rattle.std.proofs.Common.{add-one, arith, sym}
use Rattle.ct_grammar.proofs.WordsCut.{first_part, one_part}
use Rattle.ct_grammar.proofs.goals.first_and.Invariants.{nowhere}
use Rattle.ct_grammar.proofs.goals.first_and.Goals as goal

pub returns-then-eq-clause-first : goal.returns-then-eq-clause-first
returns-then-eq-clause-first c =
    rw add-one (first_part c.args.words.now c.loop-i.i nowhere c.loop-i-test.true c.loop-i.invariant (sym c.if-eq.ensures))

pub returns-clause-none : goal.returns-clause-none
returns-clause-none c = one_part c.args.words.now nowhere (λ k l. c.loop-i.invariant k (omega arith))
