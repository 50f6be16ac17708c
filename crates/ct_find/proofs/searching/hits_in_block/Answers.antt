use Rattle.std.proofs.Common.{◌≡◌, ◌∙◌, ◌+◌, ◌-◌, ◌*◌, ◌++◌, Global, List, Result, Ok, Vec, IfOk, ap, arith, subst, sym}
use Rattle.ct_walk.specs.declared.fault.WalkFault.{WalkFault}
use Rattle.ct_find.specs.declared.hit.Hit.{Hit}
use Rattle.ct_find.specs.Hits.{hits_from}
use Rattle.ct_find.specs.Searching.{asked, is_enough, part_of}
use Rattle.ct_find.proofs.Asked.{all_found, enough, part_adds}
use Rattle.ct_find.proofs.Blocks.{part_next, parts_past}
use Rattle.ct_find.proofs.searching.hits_in_block.Goals as goal

-- what a part gives, read from the results of all
items_are : (wanted : List Hit) (given read : Result (Vec Hit Global) WalkFault) (more : Vec Hit Global) →
    IfOk given (λ hits. hits.items ≡ wanted) → given ≡ read → read ≡ Ok more → more.items ≡ wanted
items_are wanted given read more is same ok =
    let Is : Result (Vec Hit Global) WalkFault → Type 0 = λ r. IfOk r (λ hits. hits.items ≡ wanted) in
    subst Is (same ∙ ok) is

pub returns-then-is_enough-clause-hits : goal.returns-then-is_enough-clause-hits
returns-then-is_enough-clause-hits g c =
    let which = c.args.search.which in
    let o = c.args.search.options.now in
    let target = c.args.search.goal.now in
    let start = c.args.first + c.loop-i.i * c.args.each in
    let given = (c.in_ok-all.ensures.each c.loop-i.i c.index.result.now c.loop-i-test.true).1.met in
    let found = items_are (part_of which o target start c.args.each c.args.end) _ _ _ given.0 (sym c.index.ensures) c.in-Ok.is in
    let adds = (c.in_ok-extend_from_slice-in-Ok).ensures.items ∙ ap (λ more. c.loop-i.hits.items ++ more) c.deref.ensures.value in
    let more = part_adds which o target start c.args.end c.args.each c.loop-i.hits.items _ c.extend_from_slice.new.self.items _ adds
    c.loop-i.invariant found in
    let now = ap (is_enough which) (sym c.deref-in-loop-i.ensures.value) ∙ (sym c.is_enough.ensures ∙ c.if-is_enough.true) in
    c.cut.ensures ∙ enough which _ _ _ now more

pub loop-i-preserved : goal.loop-i-preserved
loop-i-preserved g c =
    let which = c.args.search.which in
    let o = c.args.search.options.now in
    let target = c.args.search.goal.now in
    let start = c.args.first + c.loop-i.i * c.args.each in
    let given = (c.in_ok-all.ensures.each c.loop-i.i c.index.result.now c.loop-i-test.true).1.met in
    let found = items_are (part_of which o target start c.args.each c.args.end) _ _ _ given.0 (sym c.index.ensures) c.in-Ok.is in
    let adds = (c.in_ok-extend_from_slice-in-Ok).ensures.items ∙ ap (λ more. c.loop-i.hits.items ++ more) c.deref.ensures.value in
    let next = part_next c.args.first c.loop-i.i c.args.each in
    ap (λ s. asked which (c.extend_from_slice.new.self.items ++ hits_from o target s (c.args.end - s))) next
    ∙ part_adds which o target start c.args.end c.args.each c.loop-i.hits.items _ c.extend_from_slice.new.self.items _ adds
    c.loop-i.invariant found

pub returns-clause-hits : goal.returns-clause-hits
returns-clause-hits g c =
    let past = parts_past c.args.first c.loop-i.i c.args.parts c.args.each c.args.end c.requires.all (omega (arith, c.loop-i-test.false)) in
    c.cut-2.ensures
    ∙ all_found c.args.search.which c.args.search.options.now c.args.search.goal.now c.loop-i.hits.items _
    (c.args.first + c.loop-i.i * c.args.each) _ past c.loop-i.invariant
