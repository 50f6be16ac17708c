-- What is shown of a member's part in its open instance.
use Rattle.std.specs.Prelude.{ℕ, List, Option, option_map, option_and_then}
use Rattle.ct_names.specs.Value.{Value}
use Rattle.ct_model.specs.Next.{own_ballots}
use Rattle.ct_model.specs.Received.{heard, estimate_from}
use Rattle.ct_model.specs.State.{Member}

-- the value that it holds for the decision, and its ts
abbrev pub estimate_by : Member → Option (Value × ℕ)
estimate_by m = option_map (λ c. (c.estimate, c.ts)) m.current

-- the estimate that it heard of a member for its round
abbrev pub heard_by : Member → ℕ → Option (Value × ℕ)
heard_by m from = option_and_then (λ c. option_map (λ e. (e.value, e.ts)) (estimate_from (own_ballots m c) from)) m.current

-- the members that it heard for its round, those that acked it, and those that replied
abbrev pub all_heard_by : Member → Option (List ℕ)
all_heard_by m = option_map (λ c. heard (own_ballots m c)) m.current

abbrev pub acked_by : Member → Option (List ℕ)
acked_by m = option_map (λ c. (own_ballots m c).acked) m.current

abbrev pub replied_by : Member → Option (List ℕ)
replied_by m = option_map (λ c. (own_ballots m c).replied) m.current
