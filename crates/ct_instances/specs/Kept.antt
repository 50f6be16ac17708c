-- What contracts see of a member's instances.
use Rattle.std.specs.Prelude.{ℕ, Bool, true, List, [], Option, nat_eq, is_some, option_and_then}
use Rattle.std.specs.Map.{lookup}
use Rattle.std.specs.Option.{option_map_or}
use Rattle.ct_model.specs.declared.wire.Wire.{Wire}
use Rattle.ct_model.specs.Wire.{instance_of, vote_round}
use Rattle.ct_model.specs.Received.{Ballots}
use Rattle.ct_rounds.specs.Inbox.{Rounds, ballots_at, has_room as has_room_at}
use Rattle.ct_rounds.specs.Part.{Part}
use Rattle.ct_instances.specs.declared.entry.Entry.{Entry}

-- the member `me` of a group: the last instance that it began, its part in that one while it is open, and what it got,
-- by instance, where an entry with nothing in it means the same as no entry
pub record Kept : Type 0 where
  pub members : ℕ
  pub me : ℕ
  pub last : ℕ
  pub part : Option Part
  pub entries : List (ℕ × Entry)

abbrev pub entry_of : Kept → ℕ → Option Entry
entry_of kept k = lookup (nat_eq k) kept.entries

-- what was got for the rounds of an instance
abbrev pub rounds_at : Kept → ℕ → Rounds
rounds_at kept k = option_map_or (λ e. e.inbox) (entry_of kept k) []

-- and for one of them
abbrev pub ballots_of : Kept → ℕ → ℕ → Ballots ℕ
ballots_of kept k r = ballots_at (rounds_at kept k) r

-- the decision that was got for an instance
abbrev pub decision_at : Kept → ℕ → Option ℕ
decision_at kept k = option_and_then (λ e. e.decision) (entry_of kept k)

-- there is room for the instance to be opened
abbrev pub has_room_open : Kept → ℕ → Bool
has_room_open kept k = is_some (entry_of kept k)

-- and for a round's wires
abbrev pub has_room_of : Kept → ℕ → ℕ → Bool
has_room_of kept k r = has_room_at (rounds_at kept k) r

-- the wire can be noted without memory
abbrev pub has_room : Kept → Wire ℕ → Bool
has_room kept w = option_map_or (λ k. option_map_or (has_room_of kept k) (vote_round w) (has_room_open kept k)) (instance_of w) true
