use Rattle.std.specs.Prelude.{codes}
use Rattle.std.proofs.Common.{◌∙◌, ap}
use Rattle.clap.specs.Words.{found_of}
use Rattle.clap.proofs.WalkLemmas.{first_value-rows}
use Rattle.ct_find.specs.Line.{jobs_or_none}
use Rattle.ct_find.proofs.words.jobs_in.Goals as goal

pub returns-clause-exact : goal.returns-clause-exact
returns-clause-exact c =
    c.jobs_or_none.ensures.exact ∙ ap jobs_or_none (c.get_str.ensures ∙ first_value-rows (found_of c.args.found.now) (codes "jobs"))
