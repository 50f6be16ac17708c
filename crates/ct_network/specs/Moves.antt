-- The order of waiting lines by the keys of their serials.
use Rattle.std.specs.Prelude.{◌≡◌, ◌≢◌, ℕ, ◌+◌, ◌*◌, ◌<◌, ◌≤◌, max, true, List, All, AllPairs, Some, length, option_map, slice_index_or}
use Rattle.ct_names.specs.Group.{is_member}
use Rattle.ct_model.specs.State.{at_serial}
use Rattle.ct_model.specs.declared.envelope.Envelope.{Envelope}
use Rattle.ct_network.specs.Network.{line_at}
use Rattle.ct_network.specs.declared.moves.Moves.{Moves}

-- the key of a serial: that of its last move, or of its sending where it didn't move
abbrev pub key_of : List ℕ → ℕ → ℕ → ℕ
key_of keys base k = max (slice_index_or keys k 0) (max k base * 4294967296)

-- of each two serials the one in front is another, and its key is no higher
abbrev pub IsRising : List ℕ → ℕ → List ℕ → Type 0
IsRising keys base line = AllPairs (λ k l. (k ≢ l) × (key_of keys base k ≤ key_of keys base l)) line

-- the serial was sent to p
abbrev pub IsTo : List (Envelope ℕ) → ℕ → ℕ → Type 0
IsTo sent p k = option_map (λ e. e.to) (at_serial sent k) ≡ Some p

-- the line of p has only what was sent to it, each once, by rising key
pub record IsOrdered (sent : List (Envelope ℕ)) (keys : List ℕ) (base p : ℕ) (line : List ℕ) : Type 0 where
  pub own : All (IsTo sent p) line
  pub rising : IsRising keys base line

-- so it is at each member, and keys of moves are below those of what is sent from now on
pub record IsInOrder (sent : List (Envelope ℕ)) (lines : List (List ℕ)) (keys : List ℕ) (base count : ℕ) : Type 0 where
  pub each : (p : ℕ) → is_member (length lines) p ≡ true → IsOrdered sent keys base p (line_at lines p)
  pub low : (k : ℕ) → slice_index_or keys k 0 ≤ length sent * 4294967296 + count
  pub none : (k : ℕ) → length sent < k → slice_index_or keys k 0 ≡ 0
  pub few : count < 4294967296

abbrev pub AreInOrder : List (Envelope ℕ) → List (List ℕ) → Moves → Type 0
AreInOrder sent lines moves = moves.is_sorted ≡ true → IsInOrder sent lines moves.keys.items moves.base moves.count

-- serial k moved when so many envelopes were sent
pub record HasMoved (old new : Moves) (k sent : ℕ) : Type 0 where
  pub was : old.is_sorted ≡ true
  pub base : new.base ≡ old.base
  pub more : old.count ≤ new.count
  pub few : old.count < 4294967296 → new.count < 4294967296
  pub low : slice_index_or new.keys.items k 0 ≤ max (slice_index_or old.keys.items k 0) (sent * 4294967296 + new.count)
  pub last : old.count < 4294967296 → sent * 4294967296 + old.count ≤ key_of new.keys.items new.base k
  pub others : (j : ℕ) → j ≢ k → slice_index_or new.keys.items j 0 ≡ slice_index_or old.keys.items j 0

-- keys of those that were sent rise as before
pub record KeepsOrder (old new : Moves) (sent : ℕ) : Type 0 where
  pub order : (j k : ℕ) → j ≤ sent → k ≤ sent → key_of old.keys.items old.base j ≤ key_of old.keys.items old.base k →
      key_of new.keys.items new.base j ≤ key_of new.keys.items new.base k
  pub low : (k : ℕ) → slice_index_or new.keys.items k 0 ≤ slice_index_or old.keys.items k 0
  pub same : new.count ≡ old.count
  pub still : new.is_sorted ≡ old.is_sorted
