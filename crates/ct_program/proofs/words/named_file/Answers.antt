use Rattle.std.proofs.Common.{ap, codes, unwrap_or, ◌∙◌}
use Rattle.clap.specs.Words.{found_of}
use Rattle.clap.proofs.WalkLemmas.{first_value-rows}
use Rattle.ct_program.proofs.words.named_file.Goals as goal

pub returns-in-None : goal.returns-in-None
returns-in-None c =
    ap (λ o. unwrap_or o (codes "-")) (c.in-None.ensures ∙ first_value-rows (found_of c.args.found.now) (codes "file"))

pub returns-in-Some : goal.returns-in-Some
returns-in-Some c =
    ap (λ o. unwrap_or o (codes "-")) (c.in-Some.ensures ∙ first_value-rows (found_of c.args.found.now) (codes "file"))
