use Rattle.std.proofs.Common.{◌≡◌, ◌-◌, ◌++◌}
use Rattle.ct_find.specs.Hits.{hits_from, hits_of}
use Rattle.ct_find.specs.Searching.{asked}
use Rattle.ct_find.proofs.searching.hits_in_threads.Given as goal

abbrev pub invariant-loop-next : goal.invariant-loop-next
invariant-loop-next g l =
    let o = l.search.options.now in
    let target = l.search.goal.now in
    asked l.search.which (l.hits.items ++ hits_from o target l.next (l.end - l.next)) ≡ asked l.search.which (hits_of o target l.fn.seeds)

abbrev pub decreases-loop-next : goal.decreases-loop-next
decreases-loop-next g l = l.end - l.next
