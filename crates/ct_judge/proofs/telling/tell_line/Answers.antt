use Rattle.ct_judging.specs.Judging.{taken}
use Rattle.ct_judging.specs.Telling.{explained}
use Rattle.ct_judge.proofs.telling.tell_line.Goals as goal

pub returns-then-is_short-clause-stop : goal.returns-then-is_short-clause-stop
returns-then-is_short-clause-stop c =
    c.short.ensures.stop (explained c.args.judge.now c.args.line.now (taken c.args.judge.now c.args.line.now))

pub returns-then-is_short-clause-same : goal.returns-then-is_short-clause-same
returns-then-is_short-clause-same c = c.short.ensures.same c.args.judge.now c.take.new.self
