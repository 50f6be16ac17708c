use Rattle.std.proofs.Common.{rules, ◌∙◌, ap₂, arith, None, Some}
use Rattle.std.proofs.lemmas.Str.Pattern.{split_once_first}
use Rattle.ct_walk.specs.Sights.{sight_by, sight_of}
use Rattle.ct_walk.proofs.Found.{no_space}
use Rattle.ct_walk.proofs.goals.sight_of.Goals as goal

pub returns-in_err-kind : goal.returns-in_err-kind
returns-in_err-kind c =
    let none = split_once_first 32 c.args.text.now None c.in_err-kind.ensures.cases (omega arith) in
    search rules ∙ no_space c.args.text.now none

pub returns : goal.returns
unfolding sight_of
returns c =
    let parts =
    split_once_first 32 c.args.text.now (Some (c.in_ok-kind.kind, c.in_ok-kind.number)) c.in_ok-kind.ensures.cases (omega arith) in
    c.sight_by.ensures ∙ ap₂ sight_by parts.1 parts.2
