use Rattle.std.proofs.Common.{◌<◌, ◌∙◌, ℕ, length, ◌≡◌, subst, sym, arith, ap}
use Rattle.std.specs.Global.{Vec}
use Rattle.std.proofs.lemmas.List.{length-map}
use Rattle.ct_logs.specs.Files.{texts_of}
use Rattle.ct_logs.specs.Sets.{HasTaken}
use Rattle.ct_logs.proofs.Taking.{can_take, taken_more}
use Rattle.ct_logs.proofs.Telling.{no_logs_for, said_of_text}
use Rattle.ct_logs.proofs.log_set.LogSet.take_all.Goals as goal

pub loop-i-preserved : goal.loop-i-preserved
loop-i-preserved c =
    let i = c.loop-i.i in
    let lt : i < length c.args.texts.now = omega arith in
    let text = said_of_text c.args.texts.now i c.index-texts-i.result c.deref.result.now lt
    (c.deref.ensures.value ∙ ap (λ (v : Vec ℕ). v.items) c.index-texts-i.is) in
    let took = c.in-Ok.ensures.ok in
    taken_more (texts_of c.args.texts.now) i c.loop-i.self c.take.new.self took.0 (text ∙ took.1) c.loop-i.invariant took.2

pub returns-in-Err-clause-fault : goal.returns-in-Err-clause-fault
returns-in-Err-clause-fault c =
    let i = c.loop-i.i in
    let lt : i < length c.args.texts.now = omega arith in
    let text = said_of_text c.args.texts.now i c.index-texts-i.result c.deref.result.now lt
    (c.deref.ensures.value ∙ ap (λ (v : Vec ℕ). v.items) c.index-texts-i.is) in
    no_logs_for _ _ c.in-Err.fault (λ never setup group.
    let can = can_take (texts_of c.args.texts.now) i c.loop-i.self setup c.loop-i.invariant group
    (omega (arith, lt, length-map c.args.texts.now (λ (v : Vec ℕ). v.items))) in
    never can.0 (sym text ∙ can.1) can.2) c.in-Err.ensures.fault

pub returns-clause-ok : goal.returns-clause-ok
returns-clause-ok c =
    let whole : c.loop-i.i ≡ length c.args.texts.now = omega arith in
    subst (λ n. HasTaken (texts_of c.args.texts.now) n c.loop-i.self) whole c.loop-i.invariant
