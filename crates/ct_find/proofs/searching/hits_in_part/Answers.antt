use Rattle.std.proofs.Common.{◌∙◌, ◌-◌, ap, arith, sym}
use Rattle.ct_find.specs.Hits.{hits_from}
use Rattle.ct_find.specs.Searching.{asked, hit_at, is_enough}
use Rattle.ct_find.proofs.Asked.{all_adds, all_found, enough, one_seed}
use Rattle.ct_find.proofs.searching.hits_in_part.Goals as goal

pub returns-then-is_enough-clause-hits : goal.returns-then-is_enough-clause-hits
returns-then-is_enough-clause-hits c =
    let which = c.args.search.which in
    let o = c.args.search.options.now in
    let target = c.args.search.goal.now in
    let seed = c.loop-next.next in
    let stop = c.min-stop.result in
    let found = ap (hit_at seed) c.in_ok-size.ensures.ok ∙ one_seed o target seed stop (omega (arith, c.loop-next-test.true)) in
    let more = all_adds which o target seed stop 1 c.loop-next.hits.items _ c.push_hit.new.hits.items _ c.in_ok-push_hit.ensures.ok
    c.loop-next.invariant found in
    let now = ap (is_enough which) (sym c.deref.ensures.value) ∙ (sym c.is_enough.ensures ∙ c.if-is_enough.true) in
    c.cut.ensures
    ∙ (enough which _ _ _ now more ∙ ap (λ stop. asked which (hits_from o target c.args.first (stop - c.args.first))) c.min-stop.ensures)

pub loop-next-preserved : goal.loop-next-preserved
loop-next-preserved c =
    let which = c.args.search.which in
    let o = c.args.search.options.now in
    let target = c.args.search.goal.now in
    let seed = c.loop-next.next in
    let stop = c.min-stop.result in
    let found = ap (hit_at seed) c.in_ok-size.ensures.ok ∙ one_seed o target seed stop (omega (arith, c.loop-next-test.true)) in
    all_adds which o target seed stop 1 c.loop-next.hits.items _ c.push_hit.new.hits.items _ c.in_ok-push_hit.ensures.ok
    c.loop-next.invariant found

pub returns-clause-hits : goal.returns-clause-hits
returns-clause-hits c =
    let which = c.args.search.which in
    let o = c.args.search.options.now in
    let target = c.args.search.goal.now in
    c.cut-2.ensures
    ∙ (all_found which o target c.loop-next.hits.items (hits_from o target c.args.first (c.min-stop.result - c.args.first))
    c.loop-next.next _
    (omega (arith, c.loop-next-test.false)) c.loop-next.invariant
    ∙ ap (λ stop. asked which (hits_from o target c.args.first (stop - c.args.first))) c.min-stop.ensures)
