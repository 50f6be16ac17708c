use Rattle.ct_records.proofs.Common.{◌-◌, ◌++◌, ◌∙◌, [], length, drop, ap, arith, subst, sym, length-drop, take_all, AllFit, AreKept}
use Rattle.ct_records.proofs.Common.{IsTextOf, Taken, AreAll, rehearsal_of}
use Rattle.ct_records.proofs.Lexemes.{if_some}
use Rattle.ct_records.proofs.Ended.{says_all}
use Rattle.ct_records.proofs.Texts.{text_none}
use Rattle.ct_records.proofs.scanning.scanned.Goals as goal

pub script-requires : goal.script-requires
script-requires c =
    let t = c.in_ok-used.ensures.taken [] [] (record { are = c.new-steps.ensures.items; fit = tt }) text_none in
    subst AllFit (sym t.has.are) t.has.fit

pub returns-in-Some-all_numbers : goal.returns-in-Some-all_numbers
returns-in-Some-all_numbers c =
    let h = c.in-Some.ensures in
    let list = c.in-Some.list.now in
    let used = c.in_ok-used.used in
    let last = drop used list in
    let kept = c.take_all.new.keeper.items in
    let t : Taken (AreKept kept) [] list last =
    c.in_ok-used.ensures.taken [] [] (record { are = c.new-steps.ensures.items; fit = tt }) text_none in
    let text : IsTextOf kept t.joins.all = subst (λ ss. IsTextOf ss t.joins.all) (sym t.has.are) t.joins.is in
    let all = c.in-Some-all_numbers.all in
    let end : AreAll c.in-Some.numbers last all =
    subst (λ xs. AreAll c.in-Some.numbers xs all) (take_all (length list - used) last (omega (arith, length-drop used list)))
    c.in-Some-all_numbers.ensures in
    if_some _ _ c.script.result
    (λ s says. says_all kept (rehearsal_of s) c.args.bytes.now h.text t.joins.all last c.in-Some.numbers all
    (subst AllFit (sym t.has.are) t.has.fit) (h.split ∙ ap (λ x. h.text ++ x) t.joins.split) h.head text end says
    (c.is_utf8.ensures.0 c.if-not-is_utf8.false) c.requires) c.script.ensures
