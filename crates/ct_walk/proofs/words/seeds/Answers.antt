use Rattle.std.proofs.Common.{rules, ◌∙◌}
use Rattle.ct_walk.proofs.Cuts.{no_first, no_last, no_seeds, some_seeds}
use Rattle.ct_walk.proofs.words.seeds.Goals as goal

pub returns-in_err-first-clause-exact : goal.returns-in_err-first-clause-exact
returns-in_err-first-clause-exact c = search rules ∙ no_seeds c.args.text.now c.in_err-first.ensures.cases

pub returns-in_err-first-2-clause-exact : goal.returns-in_err-first-2-clause-exact
returns-in_err-first-2-clause-exact c =
    search rules ∙ no_first c.args.text.now c.in_ok-first.first.now c.in_ok-first.last.now c.in_ok-first.ensures.cases
    c.in_err-first-2.ensures.value

pub returns-in_err-last-clause-exact : goal.returns-in_err-last-clause-exact
returns-in_err-last-clause-exact c =
    search rules ∙ no_last c.args.text.now c.in_ok-first.first.now c.in_ok-first.last.now c.in_ok-first-2.first c.in_ok-first.ensures.cases
    c.in_ok-first-2.ensures.value c.in_err-last.ensures.value

pub returns-clause-exact : goal.returns-clause-exact
returns-clause-exact c =
    some_seeds c.args.text.now c.in_ok-first.first.now c.in_ok-first.last.now c.in_ok-first-2.first c.in_ok-last.last
    c.in_ok-first.ensures.cases c.in_ok-first-2.ensures.value c.in_ok-last.ensures.value
