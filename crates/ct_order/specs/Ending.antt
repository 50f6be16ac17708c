-- What the texts of logs are, by what is told of them.
use Rattle.std.specs.Prelude.{◌≡◌, ℕ, ◌+◌, ◌<◌, ◌≤◌, ◌⊎◌, Bool, true, false, List, [], ◌∷◌, ◌++◌, length, codes, if◌then◌else◌}
use Rattle.std.specs.Prelude.{Option, Some, None, Result, Ok, Err, ⊤, slice_get, take}
use Rattle.std.specs.Str.{bytes_eq}
use Rattle.ct_streams.specs.declared.failed.Failed.{Failed}
use Rattle.ct_order.specs.declared.clash.Clash.{Clash}
use Rattle.ct_order.specs.declared.limits.TheConstants.{MAX_LOGS}
use Rattle.ct_order.specs.declared.order_fault.OrderFault.{OrderFault}
use Rattle.ct_order.specs.declared.order_fault.OrderFault.TheVariants as fault
use Rattle.ct_order.specs.declared.place.Delivery.{Delivery}
use Rattle.ct_order.specs.declared.reading.Judged.{Judged}
use Rattle.ct_order.specs.declared.standing.Standing.{Standing}
use Rattle.ct_order.specs.declared.wrong.Wrong.{Wrong}
use Rattle.ct_order.specs.declared.wrong.Wrong.TheVariants.{NoLog, Limit, Refused, Incomplete, Unsettled, Overtaken}
use Rattle.ct_order.specs.Orders.{HasOrder, IsAtomic, IsClash, IsUnsent, Said}
use Rattle.ct_order.specs.Reading.{HasSaid, IsReadFrom, are_whole, standings_of}
use Rattle.ct_order.specs.Scanning.{Fault, Scanning, after_bytes, beginning}

-- their lines are those of one atomic broadcast
abbrev pub AreAtomic : List (List ℕ) → Type 0
AreAtomic texts = (said : List Said) × (ends : List Standing) × HasSaid texts said ends × IsAtomic said

-- the first lines of the log at the place, behind all of those before it, say this, and the next one contradicts one of them
pub record Contradict (texts : List (List ℕ)) : Type 0 where
  pub at : ℕ
  pub text : List ℕ
  pub there : slice_get texts at ≡ Some text
  pub said : List Said
  pub ends : List Standing
  pub before : HasSaid (take at texts) said ends
  pub count : ℕ
  pub scan : Scanning
  pub new : List Said
  pub this : Said
  pub reads : after_bytes at beginning (take count text) ≡ Ok (record { scan = scan; said = new ++ this ∷ [] })
  pub clash : Clash
  pub clashes : IsClash (said ++ new) this clash

-- there is an order of all that is delivered, and something of it is not broadcast in any of them
pub record LackBroadcast (texts : List (List ℕ)) (whole : Bool) : Type 0 where
  pub said : List Said
  pub ends : List Standing
  pub has_said : HasSaid texts said ends
  pub order : HasOrder said
  pub delivery : Delivery
  pub unsent : IsUnsent said delivery
  pub are_whole : are_whole ends ≡ whole

-- the log at the place has a line that stands in none
pub record AreNoLogs (texts : List (List ℕ)) : Type 0 where
  pub at : ℕ
  pub text : List ℕ
  pub there : slice_get texts at ≡ Some text
  pub fault : Fault
  pub reads : after_bytes at beginning text ≡ Err fault

-- what is wrong with texts, by what is told: they are not those of one atomic broadcast, or more is asked of them
abbrev pub IsWrong : List (List ℕ) → Wrong → Type 0
IsWrong texts NoLog = AreNoLogs texts × (AreAtomic texts → ⊥)
IsWrong texts Limit = AreNoLogs texts × (AreAtomic texts → ⊥)
IsWrong texts Refused = (Contradict texts ⊎ LackBroadcast texts true) × (AreAtomic texts → ⊥)
IsWrong texts Incomplete = LackBroadcast texts false × (AreAtomic texts → ⊥)
IsWrong texts Unsettled = AreAtomic texts
IsWrong texts Overtaken = AreAtomic texts

-- what is so of texts of which a fault is told
abbrev pub IsFault : List (List ℕ) → OrderFault → Type 0
IsFault texts (fault.Wrong wrong text json) = IsWrong texts wrong
IsFault texts _ = ⊤

-- all that the texts say is known, and they are those of one atomic broadcast
abbrev pub IsAccepted : List (List ℕ) → Judged → Type 0
IsAccepted texts judged = IsReadFrom texts (standings_of judged.ends.items) judged.table × AreAtomic texts

-- what is so unless logs are followed, of which it isn't known in advance how far they are read
abbrev pub UnlessFollowed : {P : Type 0} → Option P → Type 0 → Type 0
UnlessFollowed None claim = claim
UnlessFollowed (Some pace) claim = ⊤

-- ---- names

abbrev pub input_in : List ℕ → ℕ
input_in name = if bytes_eq name (codes "-") then 1 else 0

-- how often standard input is one of these
abbrev pub input_count : List (List ℕ) → ℕ
input_count [] = 0
input_count (name ∷ names) = input_in name + input_count names

abbrev pub AreNames : List (List ℕ) → Type 0
AreNames names = length names ≤ MAX_LOGS × input_count names ≤ 1

-- these faults, and no others, are those of the names
abbrev pub IsOfNames : List (List ℕ) → OrderFault → Type 0
IsOfNames names fault.Logs = MAX_LOGS < length names
IsOfNames names fault.Twice = 1 < input_count names
IsOfNames names _ = AreNames names

-- a fault of another kind, and not of the writer
abbrev pub IsOfLogs : OrderFault → Type 0
IsOfLogs fault.Logs = ⊥
IsOfLogs fault.Twice = ⊥
IsOfLogs fault.Write = ⊥
IsOfLogs _ = ⊤

-- a fault of their lines
abbrev pub IsOfLines : OrderFault → Type 0
IsOfLines (fault.Wrong wrong text json) = ⊤
IsOfLines _ = ⊥

-- by these counts a write failed once where the result is a failure, else none did; where nothing is to be written, nothing was
abbrev pub IsWritten : Bool → Result (Unit {0}) Failed → ℕ → ℕ → Type 0 → Type 0
IsWritten json (Ok u) old new same = (new ≡ old) × (json ≡ false → same)
IsWritten json (Err e) old new same = (new ≡ old + 1) × (json ≡ true)
