use Rattle.std.proofs.Common.{ap, codes, ◌∙◌}
use Rattle.clap.specs.Words.{found_of}
use Rattle.clap.proofs.WalkLemmas.{first_value-rows}
use Rattle.ct_diagram.specs.Line.{is_consensus_for}
use Rattle.ct_diagram.proofs.words.is_consensus_in.Goals as goal

pub returns : goal.returns
returns c =
    c.is_consensus_for.ensures
    ∙ ap is_consensus_for (c.get_str.ensures ∙ first_value-rows (found_of c.args.found.now) (codes "only"))
