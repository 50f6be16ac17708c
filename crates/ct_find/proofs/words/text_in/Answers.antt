use Rattle.std.specs.Prelude.{codes}
use Rattle.std.proofs.Common.{◌≡◌, ◌∙◌, Ok, IfOk, IfErr, ap, subst}
use Rattle.clap.specs.Words.{found_of}
use Rattle.clap.proofs.WalkLemmas.{raw_values-rows}
use Rattle.ct_walk.specs.Line.{IsCallFault}
use Rattle.ct_find.specs.Line.{text_or_line}
use Rattle.ct_find.proofs.words.text_in.Goals as goal

pub returns-clause-ok : goal.returns-clause-ok
returns-clause-ok c =
    subst (λ r. IfOk c.text_or_line.result (λ text. r ≡ Ok text))
    (ap text_or_line (c.get_strs.ensures ∙ raw_values-rows (found_of c.args.found.now) (codes "goal"))) c.text_or_line.ensures.ok

pub returns-clause-err : goal.returns-clause-err
returns-clause-err c =
    subst (λ r. IfErr c.text_or_line.result (IsCallFault r))
    (ap text_or_line (c.get_strs.ensures ∙ raw_values-rows (found_of c.args.found.now) (codes "goal"))) c.text_or_line.ensures.err
