use Rattle.ct_shrink.proofs.Named.{line_more}
use Rattle.ct_shrink.proofs.candidates.moved.Goals as goal
use Rattle.ct_shrink.proofs.candidates.moved.Goals.{in-Some+in_ok-push, in_default}

pub loop-line-preserved : goal.loop-line-preserved
loop-line-preserved c =
    elim c.match-line.branch [
      | in-Some+in_ok-push x ↦
          rw x.moved-is (line_more c.loop-line.moved.items _ x.in-Some.line x.in_ok-push.ensures.items c.loop-line.invariant
          x.in-Some.ensures)
      | in_default x ↦ rw x.moved-is c.loop-line.invariant
    ]
