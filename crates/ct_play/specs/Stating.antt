-- What acts do, as lines state it behind them.
use Rattle.std.specs.Prelude.{ℕ, List, [], ◌∷◌, codes, filter, nat_lt, Result, Ok, Err, fold, if◌then◌else◌}
use Rattle.ct_model.specs.declared.step.Step.{Step}
use Rattle.ct_choices.specs.Choices.{has_crashed}
use Rattle.ct_grammar.specs.declared.act.Act.{Act}
use Rattle.ct_grammar.specs.declared.statement.Statement.{Statement}
use Rattle.ct_grammar.specs.declared.who.Who.{Who}
use Rattle.ct_grammar.specs.declared.who.Who.TheVariants.{All}
use Rattle.ct_play.specs.Acting.{after_step, done_by_each, go_on, step_of}
use Rattle.ct_play.specs.Outcomes.{came_text, is_stated, outcome}
use Rattle.ct_play.specs.Played.{Played}
use Rattle.ct_play.specs.Who.{named}
use Rattle.ct_play.specs.declared.line_fault.LineFault.{LineFault}
use Rattle.ct_play.specs.declared.line_fault.LineFault.TheVariants.{NotSo}

-- ---- lines

-- the step came to this, or the line is refused
abbrev pub unless_other : ℕ → Step → Statement → Played → Result Played LineFault
unless_other p step said t = if is_stated (outcome t.rehearsal step) said then Ok t else Err (NotSo p)

-- after p took the step of an act, which has to come to this
unfoldable pub done_so : Act → Statement → Played → ℕ → Result Played LineFault
done_so act said s p = go_on (step_of s.rehearsal p act) (λ step. go_on (after_step s step) (unless_other p step said))

-- the same; of all a member that has crashed does nothing
abbrev pub done_so_by : Who → Act → Statement → Played → ℕ → Result Played LineFault
done_so_by All act said s p = if has_crashed s.rehearsal p then Ok s else done_so act said s p
done_so_by who act said s p = done_so act said s p

-- after each of these did it
abbrev pub done_so_by_each : Who → Act → Statement → Played → List ℕ → Result Played LineFault
done_so_by_each who act said s ps = fold (λ r p. go_on r (λ t. done_so_by who act said t p)) (Ok s) ps

-- after the members that the line names did it, each of which has to come to this
abbrev pub stated : Played → Who → Act → Statement → Result Played LineFault
stated s who act said = done_so_by_each who act said s (named s.rehearsal.setting.members who)

-- ---- what is told of a line that is refused

-- what p's step of an act came to, where p may take it
unfoldable pub outcome_at : Act → Played → ℕ → Result (List ℕ) LineFault
outcome_at act s p =
    go_on (step_of s.rehearsal p act) (λ step. go_on (after_step s step) (λ t. Ok (came_text (outcome t.rehearsal step))))

-- of these, rising, those before p
abbrev pub before : ℕ → List ℕ → List ℕ
before p ps = filter (λ q. nat_lt q p) ps

-- the same, once the members that the line names before p did it
abbrev pub outcome_in_turn : Played → Who → Act → ℕ → Result (List ℕ) LineFault
outcome_in_turn s who act p =
    go_on (done_by_each who act s (before p (named s.rehearsal.setting.members who))) (λ t. outcome_at act t p)

-- the text of this; nothing of what is refused
abbrev pub unless_fault : Result (List ℕ) LineFault → List ℕ
unless_fault (Ok text) = text
unless_fault (Err fault) = []

-- a dash in place of no bytes
abbrev pub or_dash : List ℕ → List ℕ
or_dash [] = codes "-"
or_dash (b ∷ bytes) = b ∷ bytes

-- what p's step of the line's act came to, after those of the members before it; a dash where that is nothing
unfoldable pub came_to : Played → Who → Act → ℕ → List ℕ
came_to s who act p = or_dash (unless_fault (outcome_in_turn s who act p))
