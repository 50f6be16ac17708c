use Rattle.std.proofs.Common.{◌≡◌, ◌-◌, ◌++◌}
use Rattle.ct_find.specs.Hits.{hits_from}
use Rattle.ct_find.specs.Searching.{asked}
use Rattle.ct_find.proofs.searching.hits_in_part.Given as goal

abbrev pub invariant-loop-next : goal.invariant-loop-next
invariant-loop-next l =
    let o = l.search.options.now in
    let target = l.search.goal.now in
    asked l.search.which (l.hits.items ++ hits_from o target l.next (l.stop - l.next))
    ≡ asked l.search.which (hits_from o target l.first (l.stop - l.first))
