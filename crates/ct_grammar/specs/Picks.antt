-- Which envelope words name.
use Rattle.std.specs.Prelude.{ℕ, ◌==◌, List, [], ◌∷◌, length, Option, Some, None, Result, Ok, Err, codes, if◌then◌else◌}
use Rattle.std.specs.Option.{ok_or}
use Rattle.std.specs.Str.{bytes_eq}
use Rattle.ct_grammar.specs.declared.carried.Carried.{Carried}
use Rattle.ct_grammar.specs.declared.carried.Carried.TheVariants.{Data, Est, Prop, Ack, Nack, Dec}
use Rattle.ct_grammar.specs.declared.pick.Pick.{Pick}
use Rattle.ct_grammar.specs.declared.pick.Pick.TheVariants.{Serial, First}
use Rattle.ct_grammar.specs.declared.unfit.Unfit.{Unfit}
use Rattle.ct_grammar.specs.declared.unfit.Unfit.TheVariants.{End, Word as Other}
use Rattle.ct_grammar.specs.declared.wanted.Wanted.{Wanted}
use Rattle.ct_grammar.specs.declared.wanted.Wanted.TheVariants.{Message, Place, Member, Serial as SerialWanted, Sender, Nothing}
use Rattle.ct_grammar.specs.Words.{Word, begins_with}
use Rattle.ct_grammar.specs.Unfits.{◌>>=◌, map_ok}
use Rattle.ct_grammar.specs.Numbers.{number_of, two_numbers, max_u8, max_u32}
use Rattle.ct_grammar.specs.Leading.{member_first}

-- the number behind `#`
unfoldable pub serial_of : Word → Option ℕ
serial_of [] = None
serial_of (c ∷ cs) = if c == 35 then number_of max_u32 cs else None

-- a message by its origin and its number, with a dot between them, and the words behind it
unfoldable pub message_first : List Word → Result (Carried × List Word) Unfit
message_first [] = Err (End Message)
message_first (word ∷ words) =
    map_ok (λ n. (Data n.0 n.1, words)) (ok_or (two_numbers 46 max_u8 max_u32 word) (Other (length words) Message))

-- an instance and a round, with a slash between them, and the words behind them
unfoldable pub place_first : List Word → Result ((ℕ × ℕ) × List Word) Unfit
place_first [] = Err (End Place)
place_first (word ∷ words) = map_ok (λ n. (n, words)) (ok_or (two_numbers 47 max_u32 max_u32 word) (Other (length words) Place))

-- what is carried of this instance and round, by its kind
abbrev pub carried_at : Word → ℕ × ℕ → Carried
carried_at kind place =
    if bytes_eq kind (codes "est") then Est place.0 place.1 else (
    if bytes_eq kind (codes "prop") then Prop place.0 place.1 else (
    if bytes_eq kind (codes "ack") then Ack place.0 place.1 else (
    if bytes_eq kind (codes "nack") then Nack place.0 place.1 else Dec place.0 place.1)))

-- what is carried, by its kind and its name, and the words behind it
unfoldable pub carried_first : Wanted → Word → List Word → Result (Carried × List Word) Unfit
carried_first wanted kind words =
    if bytes_eq kind (codes "data") then message_first words else (
    if bytes_eq kind (codes "est") then map_ok (λ r. (Est r.0.0 r.0.1, r.1)) (place_first words) else (
    if bytes_eq kind (codes "prop") then map_ok (λ r. (Prop r.0.0 r.0.1, r.1)) (place_first words) else (
    if bytes_eq kind (codes "ack") then map_ok (λ r. (Ack r.0.0 r.0.1, r.1)) (place_first words) else (
    if bytes_eq kind (codes "nack") then map_ok (λ r. (Nack r.0.0 r.0.1, r.1)) (place_first words) else (
    if bytes_eq kind (codes "dec") then map_ok (λ r. (Dec r.0.0 r.0.1, r.1)) (place_first words) else (
    Err (Other (length words) wanted)))))))

-- what is carried, sent by a member where `from` stands next, and the words behind it
unfoldable pub sent_pick : Carried → List Word → Result (Pick × List Word) Unfit
sent_pick carried [] = Ok (First carried None, [])
sent_pick carried (word ∷ words) =
    if bytes_eq word (codes "from") then map_ok (λ r. (First carried (Some r.0), r.1)) (member_first Member words) else (
    Ok (First carried None, word ∷ words))

-- the envelope that the first words name, by its serial or by what it carries, and the words behind it
unfoldable pub pick_first : Wanted → List Word → Result (Pick × List Word) Unfit
pick_first wanted [] = Err (End wanted)
pick_first wanted (word ∷ words) =
    if begins_with 35 word then map_ok (λ n. (Serial n, words)) (ok_or (serial_of word) (Other (length words) SerialWanted)) else (
    carried_first wanted word words >>= (λ r. sent_pick r.0 r.1))

-- what could stand behind what is carried, with this sender
abbrev pub behind_sender : Option ℕ → Wanted
behind_sender None = Sender
behind_sender (Some p) = Nothing

-- what could stand behind the envelope
abbrev pub behind_pick : Pick → Wanted
behind_pick (Serial n) = Nothing
behind_pick (First carried from) = behind_sender from
