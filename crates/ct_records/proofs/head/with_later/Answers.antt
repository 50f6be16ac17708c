use Rattle.std.proofs.Common.{Some, arith}
use Rattle.ct_records.proofs.Members.{past_more, past_end}
use Rattle.ct_records.proofs.Ended.{taken}
use Rattle.ct_records.proofs.Fronts.{mark_begins}
use Rattle.ct_records.proofs.head.with_later.Goals as goal

pub loop-preserved : goal.loop-preserved
loop-preserved c = λ start steps past.
    past_more start c.loop.rest.now c.in-Some.next.now _ _ _ (c.loop.invariant start steps past)
    (mark_begins c.loop.rest.now c.in-Some.next.now 44 c.in-Some.ensures)
    (taken c.in-Some.next.now c.in_ok-key.key.now c.in_ok-key.value.now c.in_ok-n.after.now c.in_ok-n.n _ _
    c.in_ok-key.ensures c.in_ok-n.ensures.text (omega (arith, c.in_ok-n.ensures.within)) (c.in_ok-numbers.ensures (Some steps)))

pub returns-then-closes : goal.returns-then-closes
returns-then-closes c = λ start steps past.
    past_end start _ _ (c.loop.invariant start steps past) (c.closes.ensures.lexemes c.if-closes.true)
    (c.closes.ensures.ends c.if-closes.true)
