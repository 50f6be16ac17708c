-- Whom a coordinator may follow.
use Rattle.std.specs.Prelude.{ℕ, Option, option_map, find}
use Rattle.ct_model.specs.Received.{Heard, Ballots, is_largest}

-- the first estimate with the largest ts, by member
abbrev pub best_estimate : {V : Type 0} → Ballots V → Option (Heard V)
best_estimate t = find (λ e. is_largest t e.ts) t.estimates

-- the least member among the heard with the largest ts
abbrev pub best : {V : Type 0} → Ballots V → Option ℕ
best t = option_map (λ e. e.member) (best_estimate t)
