-- How lines name envelopes.
use Rattle.std.specs.Prelude.{⊤}
use Rattle.ct_grammar.specs.declared.act.Act.{Act}
use Rattle.ct_grammar.specs.declared.act.Act.TheVariants.{Receive, Postpone, Lose, Repeat}
use Rattle.ct_grammar.specs.declared.pick.Pick.{Pick}
use Rattle.ct_grammar.specs.declared.pick.Pick.TheVariants.{Serial, First}
use Rattle.ct_shrink.specs.declared.line.Line.{Line}

-- by what it carries, and not by its serial
abbrev pub IsContent : Pick → Type 0
IsContent (Serial k) = ⊥
IsContent (First carried from) = ⊤

-- so is the envelope of the act, where it has one
abbrev pub NamesContent : Act → Type 0
NamesContent (Receive pick) = IsContent pick
NamesContent (Postpone pick) = IsContent pick
NamesContent (Lose pick) = IsContent pick
NamesContent (Repeat pick) = IsContent pick
NamesContent act = ⊤

-- and that of the line
abbrev pub IsByContent : Line → Type 0
IsByContent line = NamesContent line.act
