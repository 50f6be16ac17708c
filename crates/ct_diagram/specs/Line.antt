-- The words that `diagram` takes. `clap` gives what its commands make of words.
use Rattle.std.specs.Prelude.{ℕ, List, [], ◌∷◌, Bool, true, false, codes, fold, Option, Some, None, Result, Ok, Err, if◌then◌else◌}
use Rattle.std.specs.Str.{bytes_eq}
use Rattle.clap.specs.Words.{App, Row, Text, first_of, new_app, with_rule}
use Rattle.ct_grammar.specs.Numbers.{members_of}
use Rattle.ct_streams.specs.Arguments.{file_rule, option_rule, value_rule}
use Rattle.ct_streams.specs.Values.{◌>>=◌, option_in}
use Rattle.ct_streams.specs.WordFaults.{fault_line}
use Rattle.ct_diagram.specs.declared.window.Window.{Window}

-- ---- what clap reads

-- a file to read, the numbers of the first and the last step that are drawn, how many columns a row has, and what is drawn of them
abbrev pub diagram_app : App
diagram_app =
    fold with_rule (new_app (codes "diagram"))
    (file_rule ∷ option_rule (codes "from") (codes "1") ∷ option_rule (codes "to") (codes "4294967295")
    ∷ option_rule (codes "columns") (codes "30") ∷ value_rule (codes "member") ∷ value_rule (codes "only") ∷ [])

-- ---- what the options ask for, or the line of the first one that has another value than it may have

-- the members that are given for the option
abbrev pub set_for : Text → Option (List ℕ) → Result (Option (List ℕ)) Text
set_for text None = Err (fault_line (codes "member") (text ∷ []) (codes "a member or a list, 1 to 16, as 2 or 1,3"))
set_for text (Some set) = Ok (Some set)

abbrev pub members_for : Option Text → Result (Option (List ℕ)) Text
members_for None = Ok None
members_for (Some text) = set_for text (members_of text)

-- those of the option, where it is given
abbrev pub members_in : List Row → Result (Option (List ℕ)) Text
members_in rows = members_for (first_of (codes "member") rows)

-- messages alone are left out
abbrev pub is_consensus_for : Option Text → Result Bool Text
is_consensus_for None = Ok false
is_consensus_for (Some text) =
    if bytes_eq text (codes "consensus") then Ok true else Err (fault_line (codes "only") (text ∷ []) (codes "consensus"))

abbrev pub is_consensus_in : List Row → Result Bool Text
is_consensus_in rows = is_consensus_for (first_of (codes "only") rows)

-- the window that the options ask for
unfoldable pub window_of : List Row → Result Window Text
window_of rows = do
  from ← option_in rows (codes "from") 1 4294967295
  to ← option_in rows (codes "to") from 4294967295
  columns ← option_in rows (codes "columns") 1 400
  members ← members_in rows
  consensus ← is_consensus_in rows
  Ok (record { from = from; to = to; columns = columns; members = members; consensus = consensus })
