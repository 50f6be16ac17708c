use Rattle.std.specs.Prelude.{codes}
use Rattle.std.proofs.Common.{◌∙◌, ap}
use Rattle.clap.specs.Words.{found_of}
use Rattle.clap.proofs.WalkLemmas.{first_value-rows}
use Rattle.ct_streams.specs.Following.{idle_or_none}
use Rattle.ct_streams.proofs.following.idle_in.Goals as goal

pub returns : goal.returns
returns c =
    c.idle_or_none.ensures ∙ ap idle_or_none (c.get_str.ensures ∙ first_value-rows (found_of c.args.found.now) (codes "idle"))
