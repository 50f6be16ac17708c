use Rattle.std.proofs.Common.{◌∙◌, ap}
use Rattle.std.proofs.lemmas.Result.{IfErr-weaker}
use Rattle.std.specs.List.{list_all}
use Rattle.ct_order.specs.declared.reading.LogEnd.{LogEnd}
use Rattle.ct_order.specs.Reading.{standings_of}
use Rattle.ct_order.proofs.Ending.{atomic, lacks, on_ok, whole_is}
use Rattle.ct_order.proofs.Logs.{no_lack}
use Rattle.ct_order.proofs.judged.check.Goals as goal

pub returns-in-None-clause-ok : goal.returns-in-None-clause-ok
returns-in-None-clause-ok c =
    on_ok c.check_asked.result _
    (λ texts i. atomic texts (standings_of c.args.judged.now.ends.items) c.args.judged.now.table i c.in-None.ensures)

pub returns-in-None-clause-fault : goal.returns-in-None-clause-fault
returns-in-None-clause-fault c =
    IfErr-weaker c.check_asked.result _ _
    (λ fault is texts i. is texts (atomic texts (standings_of c.args.judged.now.ends.items) c.args.judged.now.table i c.in-None.ensures))
    c.check_asked.ensures.fault

pub returns-in-Some-clause-fault : goal.returns-in-Some-clause-fault
returns-in-Some-clause-fault c = λ texts i.
    let ends = c.args.judged.now.ends.items in
    let whole = c.are_whole.ensures
    ∙ (ap (list_all (λ (end : LogEnd). end.standing.is_whole)) c.deref.ensures.value ∙ whole_is ends) in
    let l = lacks texts (standings_of ends) c.args.judged.now.table i c.in-Some.delivery c.in-Some.ensures
    c.are_whole.result whole in
    c.found.ensures.fault texts (c.lack-which.ensures texts l (λ a. no_lack texts a c.are_whole.result l))
