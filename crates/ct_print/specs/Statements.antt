-- What lines state of what acts do, as they say it.
use Rattle.std.specs.Prelude.{ℕ, ◌==◌, List, [], ◌∷◌, codes, decimal, map, if◌then◌else◌}
use Rattle.std.specs.List.{concat, join_with_byte}
use Rattle.ct_grammar.specs.declared.reports.listed.Listed.{Listed}
use Rattle.ct_grammar.specs.declared.statement.Statement.{Statement}
use Rattle.ct_grammar.specs.declared.statement.Statement.TheVariants.{Command, Value, Estimate}
use Rattle.ct_grammar.specs.Words.{text_of}
use Rattle.ct_print.specs.Acts.{command_text}
use Rattle.ct_print.specs.Reports.{name_text, value_text}

-- messages of a value, and how many more there are, where these are not all
unfoldable pub listed_text : Listed → List ℕ
listed_text l =
    if l.more == 0 then value_text l.names
    else concat (codes "{" ∷ join_with_byte 44 (map name_text l.names) ∷ codes " and " ∷ decimal l.more ∷ codes " more}" ∷ [])

-- a statement
unfoldable pub statement_text : Statement → List ℕ
statement_text (Command command) = command_text command
statement_text (Value listed) = listed_text listed
statement_text (Estimate listed ts) = text_of (listed_text listed ∷ codes "ts" ∷ decimal ts ∷ [])
