use Rattle.std.proofs.Common.{◌∙◌, Err, ap, sym}
use Rattle.ct_find.proofs.Alone.{fault_same, misses_none, writes_found, writes_part}
use Rattle.ct_find.proofs.writing.write_found.Goals as goal

pub returns-in-Err-clause-none : goal.returns-in-Err-clause-none
returns-in-Err-clause-none g c = misses_none c.args.call.options c.args.call.goal c.args.call.seeds c.in-Some.seed
    (sym c.in-Some.is ∙ c.in_ok-seed.ensures.found) _ c.with_seed.ensures _ c.in-Err.ensures.misses

pub returns-in-Err-clause-part : goal.returns-in-Err-clause-part
returns-in-Err-clause-part g c = λ e. writes_part c.args.call.options c.args.call.goal c.args.call.seeds c.in-Some.seed
    (sym c.in-Some.is ∙ c.in_ok-seed.ensures.found) _ c.with_seed.ensures _ _
    (c.write_walk.ensures.part (c.in-Err.is ∙ ap Err (fault_same _ _ e)))

pub returns-clause-ok : goal.returns-clause-ok
returns-clause-ok g c = writes_found c.args.call.options c.args.call.goal c.args.call.seeds c.in-Some.seed
    (sym c.in-Some.is ∙ c.in_ok-seed.ensures.found) _ c.with_seed.ensures _ _ c.in-Ok.ensures.ok
