-- The names of messages, and what stands behind instances and registers.
use Rattle.std.specs.Prelude.{ℕ, ◌+◌, ◌==◌, ◌&&◌, List, [], ◌∷◌, ◌++◌, Option, Some, None, option_map, codes, get_or, nat_eq}
use Rattle.std.specs.Prelude.{if◌then◌else◌}
use Rattle.std.specs.List.{ends_with, slice_split}
use Rattle.std.specs.Str.{bytes_eq}
use Rattle.ct_names.specs.declared.command.Command.TheVariants.{Set}
use Rattle.ct_table.specs.Table.{applied}
use Rattle.ct_grammar.specs.declared.claim.Name.{Name}
use Rattle.ct_grammar.specs.declared.reports.decision.Decision.{Decision}
use Rattle.ct_grammar.specs.declared.reports.listed.Listed.{Listed}
use Rattle.ct_grammar.specs.Numbers.{◌>>=◌, max_u8, max_u32, max_u64, number_in, parted, two_numbers}
use Rattle.ct_grammar.specs.Words.{Word}

-- the name of a message: its origin and its number, with a dot between them
unfoldable pub name_of : Word → Option Name
name_of word = option_map (λ n. record { origin = n.0; number = n.1 }) (two_numbers 46 max_u8 max_u32 word)

-- the names, and behind them those that the parts say
abbrev pub names_behind : List Name → List Word → Option (List Name)
names_behind names [] = Some names
names_behind names (part ∷ parts) = do
  name ← name_of part
  names_behind (names ++ name ∷ []) parts

-- the names that stand between the commas
unfoldable pub names_within : Word → Option (List Name)
names_within word = names_behind [] (slice_split (λ c. c == 44) word)

-- the same; a dash for none
unfoldable pub names_or_dash : Word → Option (List Name)
names_or_dash word = if bytes_eq word (codes "-") then Some [] else names_within word

-- an instance behind the last one and its messages, with a colon between them
unfoldable pub decision_of : ℕ → Word → Option Decision
decision_of last word = do
  parts ← parted 58 word
  instance ← number_in (last + 1) max_u32 parts.0
  names ← names_or_dash parts.1
  Some (record { instance = instance; names = names })

-- what stands between braces
abbrev pub within_braces : Word → Option Word
within_braces [] = None
within_braces (c ∷ cs) = if c == 123 then before_brace (parted 125 cs) else None
  where
    before_brace : Option (Word × Word) → Option Word
    before_brace None = None
    before_brace (Some (names, [])) = Some names
    before_brace (Some (names, c ∷ cs)) = None

-- the messages of a value, in braces
unfoldable pub value_of : Word → Option (List Name)
value_of word = do
  names ← within_braces word
  if bytes_eq names [] then Some [] else names_within names

-- the word, and the words behind it as long as that ends with a comma; and the words behind them
abbrev pub glued : Word → List Word → Word × List Word
glued word [] = (word, [])
glued word (next ∷ words) = if ends_with nat_eq word (codes ",") then glued (word ++ next) words else (word, next ∷ words)

-- `and N more}`, and the words behind that
unfoldable pub more_first : List Word → Option (ℕ × List Word)
more_first (and ∷ count ∷ more ∷ words) =
    if bytes_eq and (codes "and") && bytes_eq more (codes "more}") then option_map (λ n. (n, words)) (number_in 1 max_u32 count) else None
more_first _ = None

-- some messages of a value, and how many more there are, and the words behind that
unfoldable pub shortened : Word → List Word → Option (Listed × List Word)
shortened [] words = None
shortened (c ∷ cs) words = if c == 123 then some_names (more_first words) cs else None
  where
    some_names : Option (ℕ × List Word) → Word → Option (Listed × List Word)
    some_names None inside = None
    some_names (Some r) inside = option_map (λ names. (record { names = names; more = r.0 }, r.1)) (names_within inside)

-- all messages of a value, where these are there; otherwise some
abbrev pub all_or_some : Option (List Name) → Word → List Word → Option (Listed × List Word)
all_or_some (Some names) word words = Some (record { names = names; more = 0 }, words)
all_or_some None word words = shortened word words

unfoldable pub listed_in : Word → List Word → Option (Listed × List Word)
listed_in word words = all_or_some (value_of word) word words

-- the messages of a value, in braces, with blanks behind commas or without; and the words behind them
unfoldable pub listed_first : Word → List Word → Option (Listed × List Word)
listed_first word words = listed_in (glued word words).0 (glued word words).1

-- the values of the registers, where also one that holds 0 has the number behind it, which is not 0
unfoldable pub with_register : List ℕ → Word → Option (List ℕ)
with_register values word = do
  parts ← parted 61 word
  register ← number_in 0 15 parts.0
  value ← number_in 1 max_u64 parts.1
  if get_or values register 0 == 0 then Some (applied values (Set register value)) else None
