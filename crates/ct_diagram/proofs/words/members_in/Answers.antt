use Rattle.std.proofs.Common.{ap, codes, ◌∙◌}
use Rattle.clap.specs.Words.{found_of}
use Rattle.clap.proofs.WalkLemmas.{first_value-rows}
use Rattle.ct_diagram.specs.Line.{members_for}
use Rattle.ct_diagram.proofs.words.members_in.Goals as goal

pub returns : goal.returns
returns c = c.members_for.ensures ∙ ap members_for (c.get_str.ensures ∙ first_value-rows (found_of c.args.found.now) (codes "member"))
