-- What an act does, stated behind it.
use Rattle.std.specs.Prelude.{ℕ, Bool, false, List, [], ◌∷◌, length, Option, Some, None, Result, Ok, Err, if◌then◌else◌}
use Rattle.std.specs.Option.{ok_or}
use Rattle.ct_grammar.specs.declared.act.Act.{Act}
use Rattle.ct_grammar.specs.declared.act.Act.TheVariants.{Submit, Receive, Begin, Enter, Choose, Adopt, Suspect, Conclude, Deliver}
use Rattle.ct_grammar.specs.declared.act.Act.TheVariants.{Follow, Crash, Postpone, Lose, Repeat, LoseFrom}
use Rattle.ct_grammar.specs.declared.carried.Carried.{Carried}
use Rattle.ct_grammar.specs.declared.carried.Carried.TheVariants.{Data, Est, Prop, Ack, Nack, Dec}
use Rattle.ct_grammar.specs.declared.pick.Pick.{Pick}
use Rattle.ct_grammar.specs.declared.pick.Pick.TheVariants.{Serial, First}
use Rattle.ct_grammar.specs.declared.play.Play.{Play}
use Rattle.ct_grammar.specs.declared.play.Play.TheVariants.{Act as Acts, Stated}
use Rattle.ct_grammar.specs.declared.reports.listed.Listed.{Listed}
use Rattle.ct_grammar.specs.declared.statement.Statement.{Statement}
use Rattle.ct_grammar.specs.declared.statement.Statement.TheVariants as says
use Rattle.ct_grammar.specs.declared.unfit.Unfit.{Unfit}
use Rattle.ct_grammar.specs.declared.unfit.Unfit.TheVariants.{End, Word as Other}
use Rattle.ct_grammar.specs.declared.wanted.Wanted.{Wanted}
use Rattle.ct_grammar.specs.declared.wanted.Wanted.TheVariants.{Doing, Nothing, Estimate, Statement as AStatement, SenderOrStatement}
use Rattle.ct_grammar.specs.declared.who.Who.{Who}
use Rattle.ct_grammar.specs.Words.{Word, begins_with}
use Rattle.ct_grammar.specs.Unfits.{◌>>=◌, map_ok}
use Rattle.ct_grammar.specs.Leading.{over}
use Rattle.ct_grammar.specs.Names.{listed_first}
use Rattle.ct_grammar.specs.Picks.{behind_sender}
use Rattle.ct_grammar.specs.Reports.{ts_of}
use Rattle.ct_grammar.specs.Acts.{command_first, act_first, behind_act}

-- a value stands there: the first word begins with `{`
unfoldable pub says_value : List Word → Bool
says_value [] = false
says_value (word ∷ words) = begins_with 123 word

-- nothing is stated: the first word is left over
unfoldable pub no_statement : Wanted → List Word → Result Statement Unfit
no_statement wanted [] = Err (End wanted)
no_statement wanted (word ∷ words) = Err (Other (length words) wanted)

-- the value, and the ts where one stands behind it
abbrev pub with_ts : Listed → List Word → Result Statement Unfit
with_ts listed [] = Ok (says.Value listed)
with_ts listed (word ∷ words) = map_ok (says.Estimate listed) (ts_of (word ∷ words))

-- a value, alone or with a ts
unfoldable pub value_stated : Word → List Word → Result Statement Unfit
value_stated word words = do
  r ← ok_or (listed_first word words) (Other (length words) Estimate)
  with_ts r.0 r.1

-- the same; otherwise the first word is left over
unfoldable pub lone_value : Wanted → List Word → Result Statement Unfit
lone_value wanted [] = Err (End wanted)
lone_value wanted (word ∷ words) = if begins_with 123 word then value_stated word words else Err (Other (length words) wanted)

-- a command, alone
unfoldable pub lone_command : Wanted → List Word → Result Statement Unfit
lone_command wanted words = do
  r ← command_first wanted words
  _ ← over Nothing r.1
  Ok (says.Command r.0)

-- what could stand behind a message with this sender
abbrev pub statement_behind : Option ℕ → Wanted
statement_behind None = SenderOrStatement
statement_behind (Some p) = AStatement

-- what is stated of what an envelope carries, with this sender: of a message its command, of others a value, of acks and nacks nothing
unfoldable pub carried_statement : Carried → Option ℕ → List Word → Result Statement Unfit
carried_statement (Data origin number) from words = lone_command (statement_behind from) words
carried_statement (Est i r) from words = lone_value (behind_sender from) words
carried_statement (Prop i r) from words = lone_value (behind_sender from) words
carried_statement (Ack i r) from words = no_statement (behind_sender from) words
carried_statement (Nack i r) from words = no_statement (behind_sender from) words
carried_statement (Dec i r) from words = lone_value (behind_sender from) words

-- what is stated of the envelope that is received; where its serial names it, a value or a command
unfoldable pub pick_statement : Pick → List Word → Result Statement Unfit
pick_statement (Serial n) words = if says_value words then lone_value AStatement words else lone_command AStatement words
pick_statement (First carried from) words = carried_statement carried from words

-- what is stated behind the act
unfoldable pub statement : Act → List Word → Result Statement Unfit
statement (Submit command) words = no_statement (behind_act (Submit command)) words
statement (Receive pick) words = pick_statement pick words
statement Begin words = lone_value Nothing words
statement Enter words = lone_value Nothing words
statement (Choose p) words = lone_value Nothing words
statement Adopt words = lone_value Nothing words
statement Suspect words = no_statement (behind_act Suspect) words
statement Conclude words = lone_value Nothing words
statement Deliver words = lone_value Nothing words
statement Follow words = lone_value Nothing words
statement Crash words = no_statement (behind_act Crash) words
statement (Postpone pick) words = no_statement (behind_act (Postpone pick)) words
statement (Lose pick) words = no_statement (behind_act (Lose pick)) words
statement (Repeat pick) words = no_statement (behind_act (Repeat pick)) words
statement (LoseFrom set) words = no_statement (behind_act (LoseFrom set)) words

-- the members take the act, alone or with what is stated behind it
unfoldable pub taken : Who → Act → List Word → Result Play Unfit
taken who act [] = Ok (Acts who act)
taken who act (word ∷ words) = map_ok (Stated who act) (statement act (word ∷ words))

-- members and an act
unfoldable pub acted : Who → List Word → Result Play Unfit
acted who words = act_first Doing words >>= (λ r. taken who r.0 r.1)
