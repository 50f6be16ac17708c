use Rattle.std.proofs.Common.{◌∙◌}
use Rattle.clap.specs.Words.{found_of}
use Rattle.ct_walk.proofs.Found.{found_seeds}
use Rattle.ct_walk.proofs.words.seeds_in.Goals as goal

pub returns-clause-exact : goal.returns-clause-exact
returns-clause-exact c = c.seeds_or_line.ensures.exact ∙ found_seeds (found_of c.args.found.now) _ c.get_str.ensures
