use Rattle.std.proofs.Common.{◌≡◌, ◌+◌, ◌-◌, ◌*◌, ◌++◌}
use Rattle.ct_find.specs.Hits.{hits_from}
use Rattle.ct_find.specs.Searching.{asked}
use Rattle.ct_find.proofs.searching.hits_in_block.Given as goal

abbrev pub invariant-loop-i : goal.invariant-loop-i
invariant-loop-i g l =
    let o = l.fn.search.options.now in
    let target = l.fn.search.goal.now in
    asked l.fn.search.which (l.hits.items ++ hits_from o target (l.fn.first + l.i * l.fn.each) (l.fn.end - (l.fn.first + l.i * l.fn.each)))
    ≡ asked l.fn.search.which (hits_from o target l.fn.first (l.fn.end - l.fn.first))
