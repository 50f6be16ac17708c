-- What lines leave that were broken off, as memory or the board was short.
use Rattle.std.specs.Prelude.{◌≡◌, Option, Some, None, ⊤}
use Rattle.ct_grammar.specs.declared.line.Line.{Line}
use Rattle.ct_grammar.specs.declared.line.Line.TheVariants.{Play as Plays}
use Rattle.ct_grammar.specs.declared.play.Play.{Play}
use Rattle.ct_play.specs.Parts.{IsPartOf}
use Rattle.ct_play.specs.Played.{Played}
use Rattle.ct_judging.specs.Standing.{Standing}

-- a world is there where one was
abbrev pub IsPartIn : Option Played → Play → Option Played → Type 0
IsPartIn None play None = ⊤
IsPartIn None play (Some v) = ⊥
IsPartIn (Some w) play None = ⊥
IsPartIn (Some w) play (Some v) = IsPartOf w play v

-- the heading is the same, and of what is played there are its first steps at most
pub record IsPlayedPart (s : Standing) (play : Play) (t : Standing) : Type 0 where
  pub heading : t.heading ≡ s.heading
  pub played : IsPartIn s.played play t.played

-- another line leaves nothing
abbrev pub IsPart : Standing → Line → Standing → Type 0
IsPart s (Plays play) t = IsPlayedPart s play t
IsPart s line t = t ≡ s
