-- How a run could end.
use Rattle.std.specs.Prelude.{ℕ, List, filter}
use Rattle.ct_names.specs.Group.{everyone}
use Rattle.ct_model.specs.Rehearsal.{Rehearsal}
use Rattle.ct_choices.specs.Choices.{has_crashed}
use Rattle.ct_grammar.specs.declared.play.Play.{Play}
use Rattle.ct_grammar.specs.declared.play.Play.TheVariants.{Turns}
use Rattle.ct_grammar.specs.declared.who.Who.TheVariants.{All}
use Rattle.ct_play.specs.Played.{Played}
use Rattle.ct_settled.specs.declared.completing.TheConstants.{ROUNDS}

-- the members that crashed
unfoldable pub crashed : Rehearsal → List ℕ
crashed w = filter (has_crashed w) everyone

-- the line `all ROUNDS turns suspecting CRASHED`
abbrev pub completion : Played → Play
completion s = Turns All ROUNDS (crashed s.rehearsal)
