-- What lines come to in a world.
use Rattle.std.specs.Prelude.{ℕ, Result, Ok, Err, if◌then◌else◌}
use Rattle.ct_names.specs.Group.{is_member}
use Rattle.ct_grammar.specs.Sides.{whole}
use Rattle.ct_grammar.specs.declared.play.Play.{Play}
use Rattle.ct_grammar.specs.declared.play.Play.TheVariants.{Act, Stated, Turns, Settle, Until, Cut, Heal, Expect, Ask}
use Rattle.ct_grammar.specs.declared.question.Question.{Question}
use Rattle.ct_grammar.specs.declared.question.Question.TheVariants.{Enabled, Next, State, Waiting, Report, Record, Limits}
use Rattle.ct_play.specs.Acting.{acted}
use Rattle.ct_play.specs.Expecting.{expected}
use Rattle.ct_play.specs.Played.{Played}
use Rattle.ct_play.specs.Stating.{stated}
use Rattle.ct_play.specs.Turning.{reached, settled, turned}
use Rattle.ct_play.specs.declared.line_fault.LineFault.{LineFault}
use Rattle.ct_play.specs.declared.line_fault.LineFault.TheVariants.{NoSuchMember}

-- the member is one of the group's
abbrev pub asked_of : Played → ℕ → Result Played LineFault
asked_of s p = if is_member s.rehearsal.setting.members p then Ok s else Err (NoSuchMember p)

-- a question changes nothing
abbrev pub asked : Played → Question → Result Played LineFault
asked s (Enabled p) = asked_of s p
asked s (Next p) = asked_of s p
asked s (State p) = asked_of s p
asked s (Waiting p) = asked_of s p
asked s Report = Ok s
asked s Record = Ok s
asked s Limits = Ok s

-- what a line comes to
abbrev pub played : Played → Play → Result Played LineFault
played s (Act who act) = acted s who act
played s (Stated who act said) = stated s who act said
played s (Turns who n set) = turned s (Turns who n set) who n
played s (Settle who set) = settled s (Settle who set) who
played s (Until who set goal) = reached s (Until who set goal) who goal
played s (Cut sides) = Ok (record s { sides = sides })
played s Heal = Ok (record s { sides = whole })
played s (Expect goal) = expected s goal
played s (Ask question) = asked s question
