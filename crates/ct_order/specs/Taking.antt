-- Bytes of a log are taken into a table.
use Rattle.std.specs.Prelude.{◌≡◌, ℕ, ◌≤◌, List, [], ◌∷◌, ◌++◌, Result, Ok, Err, length, take, string_bytes, ⊤}
use Rattle.ct_order.specs.declared.act.Act.{Act}
use Rattle.ct_order.specs.declared.clash.Clash.{Clash}
use Rattle.ct_order.specs.declared.line.Line.{Line}
use Rattle.ct_order.specs.declared.no_line.NoLine.{NoLine}
use Rattle.ct_order.specs.declared.standing.Standing.{Standing}
use Rattle.ct_order.specs.declared.stop.Conflict.{Conflict}
use Rattle.ct_order.specs.declared.stop.Stop.{Stop}
use Rattle.ct_order.specs.declared.stop.Stop.TheVariants as stop
use Rattle.ct_order.specs.declared.stop.Unread.{Unread}
use Rattle.ct_order.specs.declared.table.Table.{Table}
use Rattle.ct_order.specs.Knowing.{KnowsTable, is_said}
use Rattle.ct_order.specs.Lines.{after_act}
use Rattle.ct_order.specs.Orders.{IsClash, Said, said_at}
use Rattle.ct_order.specs.Scanning.{Fault, Scanned, Scanning, after_bytes, said_by}

-- what was read says this, and the table comes to know it, too
pub record TakesRead (read : Result Scanned Fault) (old : Table) (t : Scanning) (new : Table) : Type 0 where
  pub said : List Said
  pub is : read ≡ Ok (record { scan = t; said = said })
  pub learns : (seen : List Said) → KnowsTable old seen → KnowsTable new (seen ++ said)

abbrev pub said_of : Conflict → Said
said_of c = said_at c.place c.at c.act (string_bytes c.word)

abbrev pub fault_of : Unread → Fault
fault_of u = record { line = u.place.line; why = u.why }

-- what was read says this, and its last line contradicts one before it
pub record IsConflict (read : Result Scanned Fault) (old : Table) (c : Conflict) : Type 0 where
  pub said : List Said
  pub scan : Scanning
  pub is : read ≡ Ok (record { scan = scan; said = said ++ said_of c ∷ [] })
  pub clashes : (seen : List Said) → KnowsTable old seen → IsClash (seen ++ said) (said_of c) c.clash

-- the same of the first bytes
pub record IsConflictIn (log : ℕ) (s : Scanning) (old : Table) (bytes : List ℕ) (c : Conflict) : Type 0 where
  pub count : ℕ
  pub within : count ≤ length bytes
  pub conflict : IsConflict (after_bytes log s (take count bytes)) old c

abbrev pub Takes : ℕ → Scanning → Table → List ℕ → Scanning → Table → Type 0
Takes log s old bytes t new = TakesRead (after_bytes log s bytes) old t new

abbrev pub Stops : ℕ → Scanning → Table → List ℕ → Stop → Type 0
Stops log s old bytes (stop.Line u) = after_bytes log s bytes ≡ Err (fault_of u)
Stops log s old bytes (stop.Clash c) = IsConflictIn log s old bytes c
Stops log s old bytes _ = ⊤

-- how bytes of a log are taken
abbrev pub Moves : ℕ → Scanning → Table → List ℕ → Scanning → Table → Result (Unit {0}) Stop → Type 0
Moves log s old bytes t new (Ok u) = Takes log s old bytes t new
Moves log s old bytes t new (Err why) = Stops log s old bytes why

-- how a line is taken that was read so
abbrev pub MovesLine : Result Scanned Fault → Table → Standing → Table → Result (Unit {0}) Stop → Type 0
MovesLine read old t new (Ok u) = TakesRead read old (record { standing = t; pending = [] }) new
MovesLine read old t new (Err (stop.Line u)) = read ≡ Err (fault_of u)
MovesLine read old t new (Err (stop.Clash c)) = IsConflict read old c
MovesLine read old t new (Err _) = ⊤

abbrev pub said_in : ℕ → Standing → Act → List ℕ → Result Scanned Fault
said_in log s act word = said_by log s (record { act = act; word = word }) (after_act s act)

-- ---- what is told

abbrev pub IsConflictOf : Line → Clash → Stop → Type 0
IsConflictOf line clash (stop.Clash c) = (said_of c ≡ is_said line) × (c.clash ≡ clash)
IsConflictOf line clash stop.Memory = ⊤
IsConflictOf line clash _ = ⊥

abbrev pub IsUnreadOf : ℕ → NoLine → Stop → Type 0
IsUnreadOf line why (stop.Line u) = (u.place.line ≡ line) × (u.why ≡ why)
IsUnreadOf line why stop.Memory = ⊤
IsUnreadOf line why _ = ⊥
