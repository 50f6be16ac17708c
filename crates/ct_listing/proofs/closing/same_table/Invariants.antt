use Rattle.std.proofs.Common.{◌<◌, ◌≤◌, ℕ, get_or}
use Rattle.ct_grammar.specs.Numbers.{max_u64}
use Rattle.ct_listing.proofs.closing.same_table.Given as goal

abbrev pub invariant-loop-register : goal.invariant-loop-register
invariant-loop-register l = (register : ℕ) → register < l.register → get_or l.table register 0 ≤ max_u64
