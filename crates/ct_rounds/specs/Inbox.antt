-- What contracts see of an inbox: the rounds that have room, each with the ballots of what was got for it.
use Rattle.std.specs.Prelude.{ℕ, Bool, List, nat_eq, unwrap_or, is_some}
use Rattle.std.specs.Map.{lookup}
use Rattle.ct_model.specs.Received.{Ballots}
use Rattle.ct_model.specs.Counted.{no_ballots}

abbrev pub Rounds : Type 0
Rounds = List (ℕ × Ballots ℕ)

-- what was got for a round: an entry with nothing in it means the same as no entry
abbrev pub ballots_at : Rounds → ℕ → Ballots ℕ
ballots_at rounds r = unwrap_or (lookup (nat_eq r) rounds) no_ballots

-- a wire of the round can be noted without memory
abbrev pub has_room : Rounds → ℕ → Bool
has_room rounds r = is_some (lookup (nat_eq r) rounds)
