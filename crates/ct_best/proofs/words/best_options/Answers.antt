use Rattle.std.specs.Prelude.{codes}
use Rattle.std.proofs.Common.{◌∙◌, ap}
use Rattle.clap.specs.Words.{found_of, rows_of}
use Rattle.clap.proofs.WalkLemmas.{first_value-rows}
use Rattle.ct_best.specs.Line.{best_or_none}
use Rattle.ct_best.proofs.words.best_options.Goals as goal

pub returns-clause-exact : goal.returns-clause-exact
returns-clause-exact c =
    c.best_or_none.ensures.exact
    ∙ ap (best_or_none (rows_of (found_of c.args.found.now)))
    (c.get_str.ensures ∙ first_value-rows (found_of c.args.found.now) (codes "best"))
