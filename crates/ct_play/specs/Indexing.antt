-- Envelopes by receiver and by what they carry.
use Rattle.std.specs.Prelude.{◌≡◌, ℕ, suc, ◌<◌, ◌≤◌, Bool, true, false, ◌&&◌, List, Option, option_map, unwrap_or, length, get_or}
use Rattle.indexmap.specs.IndexMap.{get}
use Rattle.ct_model.specs.AtValue.{Envelope}
use Rattle.ct_model.specs.Mapped.{without_value}
use Rattle.ct_model.specs.Rehearsal.{Rehearsal, state_of}
use Rattle.ct_model.specs.State.{at_serial}
use Rattle.ct_play.specs.Picking.{is_carried, is_to}
use Rattle.ct_play.specs.contracts.address.AddressPartialEq.TheImpl.{ghosts as equal}
use Rattle.ct_play.specs.declared.address.Address.{Address}
use Rattle.ct_play.specs.declared.index.Index.{Index}

-- the envelope of a serial among these has the address
abbrev pub is_at : List Envelope → Address → ℕ → Bool
is_at sent a k =
    is_to a.to (option_map without_value (at_serial sent k)) && is_carried a.carried (option_map without_value (at_serial sent k))

-- of the numbers up to n none above r passes the test
pub record IsLastTo (test : ℕ → Bool) (n r : ℕ) : Type 0 where
  pub low : r ≤ n
  pub none : (k : ℕ) → r < k → k ≤ n → test k ≡ false

-- so many first ones of these envelopes are noted: by address the last serial, and by serial the last one before it
pub record IsIndex (sent : List Envelope) (found : Address → Option ℕ) (noted : List ℕ) : Type 0 where
  pub few : length noted ≤ length sent
  pub last : (a : Address) → IsLastTo (is_at sent a) (length noted) (unwrap_or (found a) 0)
  pub before : (a : Address) (i : ℕ) → i < length noted → is_at sent a (suc i) ≡ true → IsLastTo (is_at sent a) i (get_or noted i 0)

-- this is noted in the index
abbrev pub IsNoted : List Envelope → Index → Type 0
IsNoted sent index = IsIndex sent (get equal.eq index.last) index.before.items

-- nothing is
abbrev pub IsEmptyIndex : Index → Type 0
IsEmptyIndex index = (sent : List Envelope) → IsNoted sent index

-- of what was sent
abbrev pub IsIndexOf : Rehearsal → Index → Type 0
IsIndexOf w index = IsNoted (state_of w).sent index
