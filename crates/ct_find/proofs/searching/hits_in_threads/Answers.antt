use Rattle.std.proofs.Common.{◌∙◌, ◌+◌, ◌-◌, ◌++◌, ap, arith, sym}
use Rattle.ct_find.specs.Hits.{hits_from}
use Rattle.ct_find.specs.Searching.{asked, is_enough}
use Rattle.ct_find.proofs.Asked.{all_found, enough, part_adds}
use Rattle.ct_find.proofs.searching.hits_in_threads.Goals as goal

pub returns-then-is_enough-clause-hits : goal.returns-then-is_enough-clause-hits
returns-then-is_enough-clause-hits g c =
    let which = c.args.search.which in
    let o = c.args.search.options.now in
    let target = c.args.search.goal.now in
    let next = c.loop-next.next in
    let found = c.in_ok-more.ensures.hits
    ∙ ap (λ stop. asked which (hits_from o target next (stop - next))) c.min-stop.ensures in
    let adds = c.in_ok-extend_from_slice.ensures.items ∙ ap (λ more. c.loop-next.hits.items ++ more) c.deref.ensures.value in
    let more = part_adds which o target next (c.from-end.result + 1) c.seeds_in_block-block.result c.loop-next.hits.items
    c.in_ok-more.more.items
    c.extend_from_slice.new.self.items _ adds c.loop-next.invariant found in
    let now = ap (is_enough which) (sym c.deref-in-loop-next.ensures.value) ∙ (sym c.is_enough.ensures ∙ c.if-is_enough.true) in
    c.cut.ensures ∙ enough which _ _ _ now more

pub loop-next-preserved : goal.loop-next-preserved
loop-next-preserved g c =
    let which = c.args.search.which in
    let o = c.args.search.options.now in
    let target = c.args.search.goal.now in
    let next = c.loop-next.next in
    let found = c.in_ok-more.ensures.hits
    ∙ ap (λ stop. asked which (hits_from o target next (stop - next))) c.min-stop.ensures in
    let adds = c.in_ok-extend_from_slice.ensures.items ∙ ap (λ more. c.loop-next.hits.items ++ more) c.deref.ensures.value in
    part_adds which o target next (c.from-end.result + 1) c.seeds_in_block-block.result c.loop-next.hits.items c.in_ok-more.more.items
    c.extend_from_slice.new.self.items _ adds c.loop-next.invariant found

pub returns-clause-hits : goal.returns-clause-hits
returns-clause-hits g c =
    c.cut-2.ensures
    ∙ all_found c.args.search.which c.args.search.options.now c.args.search.goal.now c.loop-next.hits.items _ c.loop-next.next _
    (omega (arith, c.loop-next-test.false)) c.loop-next.invariant
