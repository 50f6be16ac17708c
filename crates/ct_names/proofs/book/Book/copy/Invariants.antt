use Rattle.std.proofs.Common.{◌≡◌, take}
use Rattle.ct_names.proofs.book.Book.copy.Given as goal

abbrev pub invariant-loop-set : goal.invariant-loop-set
invariant-loop-set l = l.sets.items ≡ take l.set-index l.set-items
