-- Names that are near to a word.
use Rattle.std.specs.Prelude.{Bool, false, ◌&&◌, ◌||◌, ◌==◌, nat_le, nat_lt, List, [], ◌∷◌, length, get_or, drop, Option, Some, None}
use Rattle.std.specs.Prelude.{if◌then◌else◌}
use Rattle.std.specs.Str.{bytes_eq, str_eq_ignore_ascii_case}
use Rattle.ct_grammar.specs.declared.near.Slip.{Slip}
use Rattle.ct_grammar.specs.declared.near.Slip.TheVariants.{Case, Count, Letter}
use Rattle.ct_grammar.specs.declared.near.TheConstants.{LETTERS}
use Rattle.ct_grammar.specs.Words.{Word}

-- what stands behind the first letter
abbrev pub tail : Word → Word
tail [] = []
tail (c ∷ cs) = cs

-- what is left of the two behind their longest common beginning
abbrev pub behind_common : Word → Word → Word × Word
behind_common [] name = ([], name)
behind_common (c ∷ cs) [] = (c ∷ cs, [])
behind_common (c ∷ cs) (d ∷ ds) = if c == d then behind_common cs ds else (c ∷ cs, d ∷ ds)

-- the first two letters are swapped, and the others are the same
unfoldable pub is_swapped : Word → Word → Bool
is_swapped word name =
    if nat_lt (length word) 2 || nat_lt (length name) 2 then false else (
    (get_or word 0 0 == get_or name 1 0) && ((get_or word 1 0 == get_or name 0 0) && bytes_eq (drop 2 word) (drop 2 name)))

-- the word has the first letter more, or less, where it may, or the first two are swapped
unfoldable pub is_count_apart : Bool → Word → Word → Bool
is_count_apart may_lack word name =
    bytes_eq (tail word) name || ((may_lack && bytes_eq word (tail name)) || is_swapped word name)

-- the word and the name differ so, behind what they begin with alike; no letter of a short name is missing or another
unfoldable pub is_near : Slip → Word → Word → Bool
is_near Case word name = str_eq_ignore_ascii_case word name
is_near Count word name =
    let rests = behind_common word name in is_count_apart (nat_le LETTERS (length name)) rests.0 rests.1
is_near Letter word name =
    let rests = behind_common word name in nat_le LETTERS (length name) && bytes_eq (tail rests.0) (tail rests.1)

-- the first of the names that differs so from the word
abbrev pub near_by : Slip → Word → List Word → Option Word
near_by slip word [] = None
near_by slip word (name ∷ names) = if is_near slip word name then Some name else near_by slip word names

abbrev pub name_or : Option Word → Option Word → Option Word
name_or (Some name) other = Some name
name_or None other = other

-- the first of the names that is nearest to it
abbrev pub near_name : Word → List Word → Option Word
near_name word names = name_or (near_by Case word names) (name_or (near_by Count word names) (near_by Letter word names))
