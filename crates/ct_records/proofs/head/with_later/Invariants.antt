use Rattle.ct_records.proofs.Common.{ℕ, List, Some, Step, IsPast, members_with}
use Rattle.ct_records.proofs.head.with_later.Given as goal

abbrev pub invariant-loop : goal.invariant-loop
invariant-loop l =
    (start : List ℕ) (steps : List Step) → IsPast start (members_with l.fn.earlier (Some steps)) l.bytes
    → IsPast start (members_with l.numbers (Some steps)) l.rest
