use Rattle.std.proofs.Common.{◌≡◌, ◌++◌, map, take, drop}
use Rattle.ct_embed.specs.MessageCodes.{message_code}
use Rattle.ct_embed.proofs.room.fill_messages.Given as goal

-- the first ones are in the room
abbrev pub invariant-loop-i : goal.invariant-loop-i
invariant-loop-i l = l.room ≡ take l.i (map message_code l.list) ++ drop l.i l.fn.room
