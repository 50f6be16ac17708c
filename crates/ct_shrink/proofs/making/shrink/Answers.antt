use Rattle.std.proofs.Common.{◌≡◌, Bool, true, false, List, not, subst, sym, rules}
use Rattle.std.specs.Prelude.{IsTrue}
use Rattle.ct_play.specs.Goals.{shows}
use Rattle.ct_shrink.specs.Trials.{IsLeast, trial}
use Rattle.ct_shrink.specs.declared.line.Line.{Line}
use Rattle.ct_shrink.proofs.Smaller.{least}
use Rattle.ct_shrink.proofs.making.shrink.Goals as goal

so : (b : Bool) → not b ≡ false → IsTrue b
so true e = search rules
so false e = absurd (cc e)

pub returns-in-Ok-clause-least : goal.returns-in-Ok-clause-least
returns-in-Ok-clause-least g c = λ goes_on.
    let test = shows c.args.goal.now in
    subst (λ (lines : List Line). IsLeast test c.args.setup lines) (sym c.into_lines.ensures.value)
    (least test c.args.setup c.make_trials.new.trials.lines
    (c.is_least.ensures.least (trial test c.args.setup) c.in-Ok.ensures.tried.agrees (so c.is_least.result goes_on)))
