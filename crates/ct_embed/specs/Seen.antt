-- What contracts see of a world, a walk or a session that its caller holds.
use Rattle.std.specs.Prelude.{ℕ, List, drop, Option, option_and_then, option_map}
use Rattle.ct_names.specs.Message.{Message}
use Rattle.ct_model.specs.Mapped.{without_value}
use Rattle.ct_model.specs.Received.{decided, received_by}
use Rattle.ct_model.specs.Rehearsal.{Rehearsal, state_of, line_of}
use Rattle.ct_model.specs.declared.step.Step.{Step}
use Rattle.ct_model.specs.State.{Member, delivered, at_serial}
use Rattle.ct_model.specs.declared.envelope.Envelope.{Envelope}
use Rattle.ct_model.specs.Wire.{value_of}
use Rattle.ct_table.specs.Table.{table}
use Rattle.ct_world.specs.World.{member_of, of_member, if_member}

-- ---- what is there of a world; None where it is closed, and where there is none

-- the steps of its record from a place on
abbrev pub steps_in : Option Rehearsal → ℕ → Option (List Step)
steps_in w from = option_map (λ r. drop from r.steps) w

-- the state of a member
abbrev pub member_in : Option Rehearsal → ℕ → Option Member
member_in w p = option_and_then (λ r. of_member r p (member_of r p)) w

-- what waits at a member
abbrev pub waiting_in : Option Rehearsal → ℕ → Option (List ℕ)
waiting_in w p = option_and_then (λ r. of_member r p (line_of r p)) w

-- the envelope of a serial
abbrev pub envelope_in : Option Rehearsal → ℕ → Option (Envelope (Unit {0}))
envelope_in w serial = option_and_then (λ r. option_map without_value (at_serial (state_of r).sent serial)) w

-- the value that it carries
abbrev pub value_in : Option Rehearsal → ℕ → Option (List Message)
value_in w serial = option_and_then (λ r. option_and_then (λ e. value_of e.wire) (at_serial (state_of r).sent serial)) w

-- what a member received, delivered, and got as the decision of an instance, and its registers
abbrev pub received_in : Option Rehearsal → ℕ → Option (List Message)
received_in w p = option_and_then (λ r. of_member r p (received_by (state_of r) p)) w

abbrev pub delivered_in : Option Rehearsal → ℕ → Option (List Message)
delivered_in w p = option_and_then (λ r. of_member r p (delivered (member_of r p))) w

abbrev pub decided_in : Option Rehearsal → ℕ → ℕ → Option (List Message)
decided_in w p instance = option_and_then (λ r. if_member r p (decided (member_of r p).got instance)) w

abbrev pub table_in : Option Rehearsal → ℕ → Option (List ℕ)
table_in w p = option_and_then (λ r. of_member r p (table (delivered (member_of r p)))) w
