-- Lines that are objects of JSON.
use Rattle.std.specs.Prelude.{ℕ, ◌+◌, ◌==◌, Bool, true, false, nat_le, List, [], ◌∷◌, codes, Option, Some, None, Result, Ok, Err}
use Rattle.std.specs.Prelude.{if◌then◌else◌}
use Rattle.std.specs.Prelude.{is_some, option_and_then}
use Rattle.serde_json.specs.Data.{Data}
use Rattle.serde_json.specs.Find.{get, as_bool, as_number, as_str, as_u64}
use Rattle.serde_json.specs.Read.{read}
use Rattle.ct_order.specs.declared.act.Act.{Act}
use Rattle.ct_order.specs.declared.act.Act.TheVariants.{Broadcast, Deliver, State, Crash, End}
use Rattle.ct_order.specs.declared.no_line.NoLine.{NoLine}
use Rattle.ct_order.specs.declared.no_line.NoLine.TheVariants as no
use Rattle.ct_order.specs.Lines.{Entry, counted, plain_event, text_in, trimmed, word_in, worded}

-- the line begins as an object does
abbrev pub is_object : List ℕ → Bool
is_object [] = false
is_object (c ∷ cs) = c == 123

-- the value of these bytes
abbrev pub value_in : List ℕ → Option Data
value_in bytes = option_and_then read (text_in bytes)

-- ---- values

abbrev pub with_text : Act → Data → Result (Option Entry) NoLine
with_text act d = worded act (option_and_then word_in (as_str d))

abbrev pub few : ℕ → Option ℕ
few n = if nat_le n 4294967295 then Some n else None

abbrev pub count_of : Data → Option ℕ
count_of d = option_and_then few (option_and_then as_u64 (as_number d))

abbrev pub with_number : Bool → Data → Result (Option Entry) NoLine
with_number restarts d = counted restarts (count_of d)

abbrev pub if_true : Act → Option Bool → Result (Option Entry) NoLine
if_true act (Some true) = Ok (Some (record { act = act; word = [] }))
if_true act _ = Err no.Json

abbrev pub with_true : Act → Data → Result (Option Entry) NoLine
with_true act d = if_true act (as_bool d)

-- ---- keys

-- what the value at a key says, or else what stands at other keys
abbrev pub at_key : Option Data → (Data → Result (Option Entry) NoLine) → Result (Option Entry) NoLine → Result (Option Entry) NoLine
at_key None found other = other
at_key (Some d) found other = found d

abbrev pub number_event : Data → Result (Option Entry) NoLine
number_event d =
    at_key (get (codes "from") d) (with_number false)
    (at_key (get (codes "restart") d) (with_number true)
    (at_key (get (codes "crash") d) (with_true Crash)
    (at_key (get (codes "end") d) (with_true End) (Err no.Json))))

abbrev pub key_event : Data → Result (Option Entry) NoLine
key_event d =
    at_key (get (codes "broadcast") d) (with_text Broadcast)
    (at_key (get (codes "deliver") d) (with_text Deliver)
    (at_key (get (codes "state") d) (with_text State) (number_event d)))

abbrev pub has : List ℕ → Data → ℕ
has key d = if is_some (get key d) then 1 else 0

abbrev pub key_count : Data → ℕ
key_count d =
    has (codes "broadcast") d + has (codes "deliver") d + has (codes "state") d + has (codes "from") d + has (codes "restart") d
    + has (codes "crash") d + has (codes "end") d

-- what an object says: by the one of these keys that it has
abbrev pub object_event : Data → Result (Option Entry) NoLine
object_event d = if key_count d == 1 then key_event d else Err no.Json

abbrev pub of_value : Option Data → Result (Option Entry) NoLine
of_value None = Err no.Json
of_value (Some d) = object_event d

-- ---- a line

abbrev pub event_of : List ℕ → Result (Option Entry) NoLine
event_of text = if is_object text then of_value (value_in text) else plain_event text

-- what a line says
unfoldable pub event_in : List ℕ → Result (Option Entry) NoLine
event_in line = event_of (trimmed line)
