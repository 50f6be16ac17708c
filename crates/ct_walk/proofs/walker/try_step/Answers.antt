use Rattle.std.proofs.Common.{◌∙◌, sym}
use Rattle.ct_walk.proofs.Trying.{after_kept, after_taken}
use Rattle.ct_walk.proofs.walker.try_step.Goals as goal

pub returns-in-Ok-clause-ok : goal.returns-in-Ok-clause-ok
returns-in-Ok-clause-ok c = after_taken c.args.watch.now.played c.step.new.self.played c.args.step c.in-Ok.ensures.ok

pub returns-in-Err-2-clause-ok : goal.returns-in-Err-2-clause-ok
returns-in-Err-2-clause-ok c =
    after_kept c.args.watch.now c.step.new.self c.args.step c.in-Err.fault (sym c.is_short.ensures ∙ c.if-is_short.false)
    c.in-Err.ensures.err c.in-Err.ensures.same
