-- What the bytes of a log say.
use Rattle.std.specs.Prelude.{ℕ, ◌+◌, ◌==◌, List, [], ◌∷◌, ◌++◌, Option, Some, None, Result, Ok, Err, if◌then◌else◌, length, nat_lt}
use Rattle.ct_order.specs.declared.limits.TheConstants.{MAX_LINE, MAX_LINES}
use Rattle.ct_order.specs.declared.no_line.NoLine.{NoLine}
use Rattle.ct_order.specs.declared.no_line.NoLine.TheVariants.{Long, Many}
use Rattle.ct_order.specs.declared.standing.Standing.{Standing}
use Rattle.ct_order.specs.Json.{event_in}
use Rattle.ct_order.specs.Lines.{Entry, after_act, next_number, start}
use Rattle.ct_order.specs.Orders.{Said}

-- a log behind some first bytes: where it stands, and the bytes of a line that no line feed ends yet
pub record Scanning : Type 0 where
  pub standing : Standing
  pub pending : List ℕ

-- and what was said by them
pub record Scanned : Type 0 where
  pub scan : Scanning
  pub said : List Said

-- a line that stands in no log
pub record Fault : Type 0 where
  pub line : ℕ
  pub why : NoLine

abbrev pub beginning : Scanning
beginning = record { standing = start; pending = [] }

-- ---- a line

abbrev pub said_by : ℕ → Standing → Entry → Result Standing NoLine → Result Scanned Fault
said_by log s e (Err why) = Err (record { line = s.count; why = why })
said_by log s e (Ok next) = Ok (record {
  scan = record { standing = next; pending = [] };
  said = record { log = log; line = s.count; at = s.at; act = e.act; word = e.word } ∷ [];
})

abbrev pub told : ℕ → Standing → Result (Option Entry) NoLine → Result Scanned Fault
told log s (Err why) = Err (record { line = s.count; why = why })
told log s (Ok None) = Ok (record { scan = record { standing = s; pending = [] }; said = [] })
told log s (Ok (Some e)) = said_by log s e (after_act s e.act)

-- behind a line of the log of this place among the logs
abbrev pub after_line : ℕ → Standing → List ℕ → Result Scanned Fault
after_line log s line =
    if nat_lt s.count MAX_LINES then told log (record s { count = s.count + 1 }) (event_in line)
    else Err (record { line = MAX_LINES + 1; why = Many })

-- ---- bytes

abbrev pub after_byte : ℕ → Scanning → ℕ → Result Scanned Fault
after_byte log s byte =
    if byte == 10 then after_line log s.standing s.pending else (
    if nat_lt (length s.pending) MAX_LINE
    then Ok (record { scan = record s { pending = s.pending ++ byte ∷ [] }; said = [] })
    else Err (record { line = next_number s.standing; why = Long }))

abbrev pub joined : List Said → Result Scanned Fault → Result Scanned Fault
joined said (Err u) = Err u
joined said (Ok r) = Ok (record r { said = said ++ r.said })

abbrev pub go_on : Result Scanned Fault → (Scanning → Result Scanned Fault) → Result Scanned Fault
go_on (Err u) f = Err u
go_on (Ok r) f = joined r.said (f r.scan)

-- behind these bytes; what stands behind the last line feed of a log says nothing
abbrev pub after_bytes : ℕ → Scanning → List ℕ → Result Scanned Fault
after_bytes log s [] = Ok (record { scan = s; said = [] })
after_bytes log s (b ∷ bs) = go_on (after_byte log s b) (λ t. after_bytes log t bs)
