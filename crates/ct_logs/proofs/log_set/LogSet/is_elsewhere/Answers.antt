use Rattle.std.proofs.Common.{◌≡◌, ◌∙◌, Some, sym, arith}
use Rattle.std.proofs.lemmas.Bool.Decides.{nat_tests}
use Rattle.ct_logs.specs.Sets.{slot}
use Rattle.ct_logs.proofs.Slots.{filed_by, not_filed}
use Rattle.ct_logs.proofs.log_set.LogSet.is_elsewhere.Goals as goal

pub returns-in-Some-clause-yes : goal.returns-in-Some-clause-yes
returns-in-Some-clause-yes c t all =
    let kept = slot c.args.self.now.files c.args.member in
    let same : c.in-Some.other ≡ c.args.file =
    all c.in-Some.other (filed_by kept c.in-Some.other (sym (c.file.ensures c.requires) ∙ c.in-Some.is)) in
    grind (arith, nat_tests)

pub returns-in-Some-clause-no : goal.returns-in-Some-clause-no
returns-in-Some-clause-no c f other at =
    let kept = slot c.args.self.now.files c.args.member in
    let e : Some (Some c.in-Some.other) ≡ Some (Some other) =
    sym (filed_by kept c.in-Some.other (sym (c.file.ensures c.requires) ∙ c.in-Some.is)) ∙ at in
    let same : c.in-Some.other ≡ other = cc in
    grind (arith, nat_tests)

pub returns-in-None-clause-no : goal.returns-in-None-clause-no
returns-in-None-clause-no c f other at =
    absurd (not_filed (slot c.args.self.now.files c.args.member) other (sym (c.file.ensures c.requires) ∙ c.in-None.is) at)
