use Rattle.std.proofs.Common.{◌≡◌, ◌++◌}
use Rattle.ct_rounds.proofs.inbox.Inbox.copy.Given as goal

abbrev pub invariant-loop-round : goal.invariant-loop-round
invariant-loop-round l = l.tallies.entries ++ l.round-iterator ≡ l.self
