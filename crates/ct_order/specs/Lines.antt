-- What lines of logs say.
use Rattle.std.specs.Prelude.{ℕ, ◌+◌, ◌-◌, ◌==◌, ◌&&◌, Bool, true, false, not, nat_lt, nat_le, List, [], ◌∷◌, codes, length, take, drop}
use Rattle.std.specs.Prelude.{Option, Some, None, Result, Ok, Err, if◌then◌else◌, option_and_then, position}
use Rattle.std.specs.Char.{is_ascii_whitespace}
use Rattle.std.specs.List.{list_all, prefix_len, suffix_len}
use Rattle.std.specs.Str.{bytes_eq, is_utf8}
use Rattle.ct_streams.specs.Arguments.{whole_in}
use Rattle.ct_order.specs.declared.act.Act.{Act}
use Rattle.ct_order.specs.declared.act.Act.TheVariants.{Broadcast, Deliver, State, From, Restart, Crash, End}
use Rattle.ct_order.specs.declared.event.Event.{Event}
use Rattle.ct_order.specs.declared.event.Event.TheVariants as event
use Rattle.ct_order.specs.declared.limits.TheConstants.{MAX_DELIVERIES, MAX_LINES, MAX_WORD}
use Rattle.ct_order.specs.declared.no_line.NoLine.{NoLine}
use Rattle.ct_order.specs.declared.no_line.NoLine.TheVariants.{Unknown, Word, Number, More, Whole, Crashed, Full}
use Rattle.ct_order.specs.declared.standing.Standing.{Standing}

-- ---- words

-- what a line says: what the process did, and the word of a message or of a state
pub record Entry : Type 0 where
  pub act : Act
  pub word : List ℕ

abbrev pub entry_of : Event → Result (Option Entry) NoLine
entry_of event.Blank = Ok None
entry_of (event.Says act word) = Ok (Some (record { act = act; word = word.now }))
entry_of (event.No why) = Err why

abbrev pub trimmed_start : List ℕ → List ℕ
trimmed_start line = drop (prefix_len is_ascii_whitespace line) line

abbrev pub trimmed_end : List ℕ → List ℕ
trimmed_end line = take (length line - suffix_len is_ascii_whitespace line) line

-- without blanks at its ends
abbrev pub trimmed : List ℕ → List ℕ
trimmed line = trimmed_end (trimmed_start line)

-- a byte of a word: no blank and no control byte
abbrev pub is_plain : ℕ → Bool
is_plain byte = nat_lt 32 byte && not (byte == 127)

abbrev pub is_word : List ℕ → Bool
is_word bytes = (not (length bytes == 0) && nat_le (length bytes) MAX_WORD) && list_all is_plain bytes

-- the text that these bytes are
unfoldable pub text_in : List ℕ → Option (List ℕ)
text_in bytes = if is_utf8 bytes then Some bytes else None

-- the word that these bytes are
abbrev pub word_in : List ℕ → Option (List ℕ)
word_in bytes = if is_word bytes then text_in bytes else None

-- the number of deliveries that they are
abbrev pub count_in : List ℕ → Option ℕ
count_in bytes = option_and_then (whole_in 0 4294967295) (word_in bytes)

-- ---- lines of words

abbrev pub worded : Act → Option (List ℕ) → Result (Option Entry) NoLine
worded act None = Err Word
worded act (Some word) = Ok (Some (record { act = act; word = word }))

abbrev pub with_word : Act → List ℕ → Result (Option Entry) NoLine
with_word act rest = worded act (word_in rest)

abbrev pub counted : Bool → Option ℕ → Result (Option Entry) NoLine
counted restarts None = Err Number
counted restarts (Some n) = Ok (Some (record { act = if restarts then Restart n else From n; word = [] }))

abbrev pub with_count : Bool → List ℕ → Result (Option Entry) NoLine
with_count restarts rest = counted restarts (count_in rest)

abbrev pub alone : Act → List ℕ → Result (Option Entry) NoLine
alone act [] = Ok (Some (record { act = act; word = [] }))
alone act (c ∷ cs) = Err More

-- a line that begins with this word, and goes on with the rest
abbrev pub event_named : List ℕ → List ℕ → Result (Option Entry) NoLine
event_named name rest =
    if bytes_eq name (codes "broadcast") then with_word Broadcast rest else (
    if bytes_eq name (codes "deliver") then with_word Deliver rest else (
    if bytes_eq name (codes "state") then with_word State rest else (
    if bytes_eq name (codes "from") then with_count false rest else (
    if bytes_eq name (codes "restart") then with_count true rest else (
    if bytes_eq name (codes "crash") then alone Crash rest else (
    if bytes_eq name (codes "end") then alone End rest else Err Unknown))))))

-- nothing, or a comment
abbrev pub is_blank : List ℕ → Bool
is_blank [] = true
is_blank (c ∷ cs) = c == 35

-- of words that end there
abbrev pub event_up_to : Option ℕ → List ℕ → Result (Option Entry) NoLine
event_up_to None text = event_named text []
event_up_to (Some end) text = event_named (take end text) (trimmed (drop end text))

-- what a line says, without blanks at its ends
abbrev pub plain_event : List ℕ → Result (Option Entry) NoLine
plain_event text = if is_blank text then Ok None else event_up_to (position is_ascii_whitespace text) text

-- ---- what may follow what

abbrev pub may_follow_crash : Act → Bool
may_follow_crash (Restart n) = true
may_follow_crash End = true
may_follow_crash _ = false

-- the number of the next line; of each behind the last that a log may have it is the same
abbrev pub next_number : Standing → ℕ
next_number s = if nat_lt s.count MAX_LINES then s.count + 1 else MAX_LINES + 1

-- with so many deliveries
abbrev pub reaching : Standing → ℕ → Standing
reaching s n = record s { at = n; most = if nat_lt s.most n then n else s.most }

abbrev pub moved : Standing → Act → Result Standing NoLine
moved s Broadcast = Ok s
moved s State = Ok s
moved s Deliver = if nat_lt s.at MAX_DELIVERIES then Ok (reaching s (s.at + 1)) else Err Full
moved s (From n) = Ok (reaching s n)
moved s (Restart n) = Ok (record (reaching s n) { is_down = false })
moved s Crash = Ok (record s { is_down = true })
moved s End = Ok (record s { is_whole = true })

-- before the first line
abbrev pub start : Standing
start = record { count = 0; at = 0; most = 0; is_down = false; is_whole = false }

-- where the log stands behind a line that says this
abbrev pub after_act : Standing → Act → Result Standing NoLine
after_act s act =
    if s.is_whole then Err Whole else (
    if s.is_down && not (may_follow_crash act) then Err Crashed else moved s act)
