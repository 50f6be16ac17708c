-- What wires and envelopes in few bytes stand for. Some wires stand whole in a list, and are named by their places there.
use Rattle.std.specs.Prelude.{ℕ, Bool, true, ◌&&◌, nat_lt, List, map, slice_index_or}
use Rattle.std.specs.Int.{w32, w64, from_le_bytes}
use Rattle.std.specs.List.{list_all}
use Rattle.ct_names.specs.Command.{is_good}
use Rattle.ct_names.specs.Group.{members}
use Rattle.ct_names.specs.declared.command.Command.TheVariants as command
use Rattle.ct_model.specs.declared.wire.Wire.{Wire}
use Rattle.ct_model.specs.declared.wire.Wire.TheVariants as wire
use Rattle.ct_model.specs.declared.envelope.Envelope.{Envelope}
use Rattle.ct_network.specs.declared.short.Short.{Short}
use Rattle.ct_network.specs.declared.short.Short.TheVariants.{Set, Add, Copy, Est, Prop, Ack, Nack, Dec, Listed}
use Rattle.ct_network.specs.declared.packed.Packed.{Packed}

-- the wire that it stands for
abbrev pub wire_of : List (Wire ℕ) → Short → Wire ℕ
wire_of wires (Set origin number register value) =
    wire.Data (record { origin = origin; number = number; command = command.Set register (from_le_bytes w64 value) })
wire_of wires (Add origin number register amount) =
    wire.Data (record { origin = origin; number = number; command = command.Add register (from_le_bytes w64 amount) })
wire_of wires (Copy origin number from to) = wire.Data (record { origin = origin; number = number; command = command.Copy from to })
wire_of wires (Est from instance round ts value) = wire.Est instance round from (from_le_bytes w32 value) ts
wire_of wires (Prop instance round value) = wire.Prop instance round (from_le_bytes w32 value)
wire_of wires (Ack from instance round) = wire.Ack instance round from
wire_of wires (Nack from instance round) = wire.Nack instance round from
wire_of wires (Dec instance round value) = wire.Dec instance round (from_le_bytes w32 value)
wire_of wires (Listed at) = slice_index_or wires (from_le_bytes w32 at) (wire.Ack 0 0 0)

-- the envelope that it stands for
abbrev pub envelope_of : List (Wire ℕ) → Packed → Envelope ℕ
envelope_of wires packed = record { to = packed.to; wire = wire_of wires packed.wire }

-- the registers that it names are there, and the place is in a list of n wires
abbrev pub is_readable : ℕ → Short → Bool
is_readable n (Set origin number register value) = is_good (command.Set register (from_le_bytes w64 value))
is_readable n (Add origin number register amount) = is_good (command.Add register (from_le_bytes w64 amount))
is_readable n (Copy origin number from to) = is_good (command.Copy from to)
is_readable n (Listed at) = nat_lt (from_le_bytes w32 at) n
is_readable n _ = true

-- so it is with all of them
abbrev pub are_readable : ℕ → List Packed → Bool
are_readable n list = list_all (λ packed. is_readable n packed.wire) list

-- an envelope of the wire to each of n members
abbrev pub copies : ℕ → Short → List Packed
copies n wire = map (λ to. record { to = to; wire = wire }) (members n)

-- the wire has 16 bits for each of its numbers but the value
abbrev pub is_small : Wire ℕ → Bool
is_small (wire.Data m) = nat_lt m.number 65536
is_small (wire.Est k r p v t) = nat_lt k 65536 && nat_lt r 65536 && nat_lt t 65536
is_small (wire.Prop k r v) = nat_lt k 65536 && nat_lt r 65536
is_small (wire.Ack k r p) = nat_lt k 65536 && nat_lt r 65536
is_small (wire.Nack k r p) = nat_lt k 65536 && nat_lt r 65536
is_small (wire.Dec k r v) = nat_lt k 65536 && nat_lt r 65536
