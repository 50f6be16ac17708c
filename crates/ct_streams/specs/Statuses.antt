-- The statuses that programs end with. Each fault's is one of these.
use Rattle.std.specs.Prelude.{ℕ, Bool, Option, Some, None, Result, Ok, Err, ◌&&◌, nat_eq, if◌then◌else◌}
use Rattle.ct_streams.specs.declared.status.Status.{Status}
use Rattle.ct_streams.specs.declared.status.Status.TheVariants.{Done, Refused, NoRecord, Words, Stream, Memory}

abbrev pub code : Status → ℕ
code Done = 0
code Refused = 1
code NoRecord = 2
code Words = 3
code Stream = 4
code Memory = 5

-- how a program ends after this, where a fault has that status: no failed stream counts where nobody reads any more what it writes
abbrev pub unless_broken : {A E : Type 0} → (E → ℕ) → Result A E → Bool → Result (Option A) E
unless_broken status (Ok done) broken = Ok (Some done)
unless_broken status (Err fault) broken = if broken && nat_eq (status fault) (code Stream) then Ok None else Err fault
