use Rattle.std.proofs.Common.{◌≡◌, ◌++◌, take, drop}
use Rattle.ct_embed.proofs.room.fill_registers.Given as goal

-- the first ones are in the room
abbrev pub invariant-loop-i : goal.invariant-loop-i
invariant-loop-i l = l.room ≡ take l.i l.table ++ drop l.i l.fn.room
