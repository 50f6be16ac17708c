-- What is written into the room that a caller gives, and what is told of it.
use Rattle.std.specs.Prelude.{ℕ, List, ◌++◌, length, take, drop, Option, Some, None}
use Rattle.ct_embed.specs.declared.room.TheConstants.{NONE}

-- as much of the list as there is room for, and the rest of the room as it was
abbrev pub written : {A : Type 0} → List A → List A → List A
written list room = take (length room) list ++ drop (length list) room

-- where there is no list, nothing is written
abbrev pub filled : {A : Type 0} → Option (List A) → List A → List A
filled None room = room
filled (Some list) room = written list room

-- how many there are, or that there is no list
abbrev pub count_of : {A : Type 0} → Option (List A) → ℕ
count_of None = NONE
count_of (Some list) = length list
