-- What the lines of logs say.
use Rattle.std.specs.Prelude.{ℕ, Bool, false, ◌||◌, List, [], ◌∷◌, Option, Some, None, Result, Ok, Err, codes, decimal, drop, length}
use Rattle.std.specs.Prelude.{nat_eq, if◌then◌else◌}
use Rattle.std.specs.List.{concat, starts_with}
use Rattle.std.specs.Char.{is_ascii_digit}
use Rattle.ct_grammar.specs.Lines.{line_of}
use Rattle.ct_grammar.specs.Texts.{text_in}
use Rattle.ct_grammar.specs.declared.act.Act.{Act}
use Rattle.ct_grammar.specs.declared.act.Act.TheVariants as acts
use Rattle.ct_grammar.specs.declared.line.Line.{Line}
use Rattle.ct_grammar.specs.declared.line.Line.TheVariants as lines
use Rattle.ct_grammar.specs.declared.misfit.Misfit.{Misfit}
use Rattle.ct_grammar.specs.declared.pick.Pick.{Pick}
use Rattle.ct_grammar.specs.declared.pick.Pick.TheVariants as picks
use Rattle.ct_grammar.specs.declared.play.Play.{Play}
use Rattle.ct_grammar.specs.declared.play.Play.TheVariants as plays
use Rattle.ct_grammar.specs.declared.statement.Statement.{Statement}
use Rattle.ct_grammar.specs.declared.who.Who.TheVariants.{One}
use Rattle.ct_merge.specs.Expected.{expected}
use Rattle.ct_merge.specs.Proposers.{act_lacks_sender, without_sender}
use Rattle.ct_merge.specs.declared.entry.Entry.{Entry}
use Rattle.ct_merge.specs.declared.entry.Entry.TheVariants.{Blank, Given, Told}
use Rattle.ct_merge.specs.declared.entry.NoEntry.{NoEntry}
use Rattle.ct_merge.specs.declared.entry.NoEntry.TheVariants.{NoLine, NoAct, Network, Serial}
use Rattle.ct_merge.specs.declared.log_act.LogAct.{LogAct}
use Rattle.ct_merge.specs.declared.log_act.LogAct.TheVariants.{Submit, Receive, Begin, Enter, Choose, Adopt, Suspect, Conclude, Deliver}
use Rattle.ct_merge.specs.declared.log_act.LogAct.TheVariants.{Follow, Crash}

-- a receipt, as logs have it: the envelope is named in full, a proposal perhaps without its sender
abbrev pub received : Pick → Result LogAct NoEntry
received (picks.Serial k) = Err Serial
received (picks.First carried None) = without_sender carried
received (picks.First carried (Some p)) = Ok (Receive (record { carried = carried; from = p }))

-- an act, as logs have it: none that the network does
abbrev pub act_in_log : Act → Result LogAct NoEntry
act_in_log (acts.Submit c) = Ok (Submit c)
act_in_log (acts.Receive pick) = received pick
act_in_log acts.Begin = Ok Begin
act_in_log acts.Enter = Ok Enter
act_in_log (acts.Choose p) = Ok (Choose p)
act_in_log acts.Adopt = Ok Adopt
act_in_log acts.Suspect = Ok Suspect
act_in_log acts.Conclude = Ok Conclude
act_in_log acts.Deliver = Ok Deliver
act_in_log acts.Follow = Ok Follow
act_in_log acts.Crash = Ok Crash
act_in_log _ = Err Network

abbrev pub told_as : ℕ → Option Statement → Bool → Result LogAct NoEntry → Result Entry NoEntry
told_as p said lacks_sender (Ok act) = Ok (Told p (record { act = act; said = said; lacks_sender = lacks_sender }))
told_as p said lacks_sender (Err why) = Err why

-- what p did, and what that came to, where it is stated
abbrev pub told : ℕ → Act → Option Statement → Result Entry NoEntry
told p a said = told_as p said (act_lacks_sender a) (act_in_log a)

-- what a line plays, as logs have it: an act of one member, with what it came to or without; or what is expected of one
abbrev pub played : Play → Result Entry NoEntry
played (plays.Act (One p) a) = told p a None
played (plays.Stated (One p) a said) = told p a (Some said)
played (plays.Expect goal) = expected goal
played _ = Err NoAct

-- what a log has of a line
abbrev pub entry_of : Result Line Misfit → Result Entry NoEntry
entry_of (Err misfit) = Err (NoLine misfit)
entry_of (Ok lines.Blank) = Ok Blank
entry_of (Ok (lines.Given g)) = Ok (Given g)
entry_of (Ok (lines.Play p)) = played p

-- a digit stands first
abbrev pub is_numbered : List ℕ → Bool
is_numbered [] = false
is_numbered (c ∷ cs) = is_ascii_digit c

-- the word of a number of the group stands first
abbrev pub gives_number : List ℕ → Bool
gives_number text =
    starts_with nat_eq text (codes "members") || (starts_with nat_eq text (codes "cells") || starts_with nat_eq text (codes "batch"))

-- what stands behind the word of an expectation, if that stands first
unfoldable pub fact_behind : List ℕ → Option (List ℕ)
fact_behind text =
    if starts_with nat_eq text (codes "expect ") then text_in (drop (length (codes "expect ")) text) else None

-- a digit begins that
abbrev pub digit_first : Option (List ℕ) → Bool
digit_first None = false
digit_first (Some fact) = is_numbered fact

-- something is expected of members that a digit begins
abbrev pub names_whom : List ℕ → Bool
names_whom text = digit_first (fact_behind text)

abbrev pub numbered_at : ℕ → List ℕ → Option (List ℕ) → List ℕ
numbered_at p text None = concat (decimal p ∷ codes " " ∷ text ∷ [])
numbered_at p text (Some fact) = concat (codes "expect " ∷ decimal p ∷ codes " " ∷ fact ∷ [])

-- the line with the number of its member: before it, or behind the word of an expectation
unfoldable pub numbered : ℕ → List ℕ → List ℕ
numbered p text = numbered_at p text (fact_behind text)

unfoldable pub numbered_entry : ℕ → List ℕ → Result Entry NoEntry
numbered_entry p text = entry_of (line_of (numbered p text))

-- the line, or that with the number where it is none
abbrev pub or_numbered : ℕ → List ℕ → Result Line Misfit → Result Entry NoEntry
or_numbered p text (Ok l) = entry_of (Ok l)
or_numbered p text (Err misfit) = numbered_entry p text

-- what a line says in the log of p: what it does in a schedule, and need not have p's number where it tells of an act, or of what is
-- expected
unfoldable pub entry_in : ℕ → List ℕ → Result Entry NoEntry
entry_in p text =
    if is_numbered text || (gives_number text || names_whom text)
    then entry_of (line_of text)
    else or_numbered p text (line_of text)
