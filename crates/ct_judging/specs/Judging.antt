-- What lines come to.
use Rattle.std.specs.Prelude.{Some, Result, Ok, Err}
use Rattle.ct_grammar.specs.declared.line.Line.{Line}
use Rattle.ct_grammar.specs.declared.line.Line.TheVariants.{Blank, Given, Play as Plays}
use Rattle.ct_grammar.specs.declared.play.Play.{Play}
use Rattle.ct_play.specs.Played.{Played}
use Rattle.ct_play.specs.Playing.{played}
use Rattle.ct_play.specs.declared.line_fault.LineFault.{LineFault}
use Rattle.ct_judging.specs.Standing.{Standing, given_in, headed, played_of}

-- the world is this one then
abbrev pub in_world : Standing → Result Played LineFault → Result Standing LineFault
in_world s (Ok w) = Ok (record s { played = Some w })
in_world s (Err fault) = Err fault

-- what is played in the world, which it makes where there is none yet
abbrev pub after_play : Standing → Play → Result Played LineFault → Result Standing LineFault
after_play s play (Ok w) = in_world s (played w play)
after_play s play (Err fault) = Err fault

-- what a line comes to
abbrev pub taken : Standing → Line → Result Standing LineFault
taken s Blank = Ok s
taken s (Given given) = headed s (given_in s.heading given)
taken s (Plays play) = after_play s play (played_of s)
