-- The full names of envelopes.
use Rattle.std.specs.Prelude.{◌≡◌, ℕ, true, Option, Some, None, option_map}
use Rattle.ct_model.specs.Mapped.{without_value}
use Rattle.ct_model.specs.Rehearsal.{Rehearsal, state_of}
use Rattle.ct_model.specs.Stamps.{is_sent}
use Rattle.ct_model.specs.State.{at_serial}
use Rattle.ct_model.specs.declared.envelope.Envelope.{Envelope}
use Rattle.ct_play.specs.Picking.{carried_of, sender_of}
use Rattle.ct_merge.specs.declared.full_name.FullName.{FullName}

-- what an envelope carries, and who sent it
abbrev pub named : Option (Envelope (Unit {0})) → Option ℕ → Option FullName
named (Some e) (Some p) = Some (record { carried = carried_of e.wire; from = p })
named _ _ = None

-- the full name of the envelope of a serial
unfoldable pub full_name : Rehearsal → ℕ → Option FullName
full_name w k = named (option_map without_value (at_serial (state_of w).sent k)) (sender_of w k)

-- the envelope of the serial was sent to p, and has this name
pub record IsSentAs (w : Rehearsal) (p : ℕ) (name : FullName) (k : ℕ) : Type 0 where
  pub sent : is_sent w p k ≡ true
  pub named : full_name w k ≡ Some name
