-- The faults of sessions.
use Rattle.std.specs.Prelude.{◌≡◌, ◌⊎◌, ◌+◌, ◌-◌, ◌≤◌, ◌^◌, ℕ, List, Option, length, IfSome, ⊤}
use Rattle.ct_streams.specs.declared.status.Status.TheVariants as status
use Rattle.ct_streams.specs.Statuses.{code}
use Rattle.ct_judge.specs.declared.session_fault.SessionFault.{SessionFault}
use Rattle.ct_judge.specs.declared.session_fault.SessionFault.TheVariants.{Read, Write, Memory, Board}

abbrev pub session_status : SessionFault → ℕ
session_status Read = code status.Stream
session_status Write = code status.Stream
session_status Memory = code status.Memory
session_status Board = code status.Memory

-- want of memory, or of the board
abbrev pub IsShort : SessionFault → Type 0
IsShort Memory = ⊤
IsShort Board = ⊤
IsShort _ = ⊥

-- the writer failed once more, or memory or the board was short and it did not fail
abbrev pub StopsAnswering : SessionFault → ℕ → ℕ → Type 0
StopsAnswering fault old new = ((fault ≡ Write) × (new ≡ old + 1)) ⊎ (IsShort fault × (new ≡ old))

-- a read failed, or the input did not end within 2^64 - 1 reads
abbrev pub StopsReading : Option (List ℕ) → ℕ → ℕ → Type 0
StopsReading left old new = (new ≡ old + 1) ⊎ (IfSome left (λ input. 2 ^ 64 - 1 ≤ length input) × (new ≡ old))
