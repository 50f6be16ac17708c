-- The lines that steps are.
use Rattle.std.specs.Prelude.{ℕ, List, Option, Some, None}
use Rattle.ct_model.specs.Actor.{actor}
use Rattle.ct_model.specs.Rehearsal.{Rehearsal}
use Rattle.ct_model.specs.declared.envelope.Envelope.{Envelope}
use Rattle.ct_model.specs.declared.step.Step.{Step}
use Rattle.ct_model.specs.declared.step.Step.TheVariants as step
use Rattle.ct_show.specs.Wires.{letter_at}
use Rattle.ct_grammar.specs.declared.act.Act.{Act}
use Rattle.ct_grammar.specs.declared.act.Act.TheVariants.{Submit, Receive, Begin, Enter, Choose, Adopt, Suspect, Conclude, Deliver}
use Rattle.ct_grammar.specs.declared.act.Act.TheVariants.{Follow, Crash, Postpone, Lose, Repeat}
use Rattle.ct_grammar.specs.declared.line.Line.TheVariants.{Play as Plays}
use Rattle.ct_grammar.specs.declared.pick.Pick.{Pick}
use Rattle.ct_grammar.specs.declared.pick.Pick.TheVariants.{Serial, First}
use Rattle.ct_grammar.specs.declared.play.Play.TheVariants.{Act as Acts}
use Rattle.ct_grammar.specs.declared.who.Who.TheVariants.{One}
use Rattle.ct_print.specs.Lines.{line_text}
use Rattle.ct_play.specs.Picking.{carried_of, sender_of}

-- an envelope, by what it carries and who sent it; by its serial, where it was not sent
abbrev pub named_by : ℕ → Option (Envelope (Unit {0})) → Option ℕ → Pick
named_by k None from = Serial k
named_by k (Some e) from = First (carried_of e.wire) from

unfoldable pub named : Rehearsal → ℕ → Pick
named w k = named_by k (letter_at w k) (sender_of w k)

-- what the member does in the step
abbrev pub act_of : Rehearsal → Step → Act
act_of w (step.Submit p c) = Submit c
act_of w (step.Receive p k) = Receive (named w k)
act_of w (step.Begin p) = Begin
act_of w (step.Enter p) = Enter
act_of w (step.Choose p from) = Choose from
act_of w (step.Adopt p) = Adopt
act_of w (step.Suspect p) = Suspect
act_of w (step.Conclude p) = Conclude
act_of w (step.Deliver p) = Deliver
act_of w (step.Follow p) = Follow
act_of w (step.Crash p) = Crash
act_of w (step.Postpone p k) = Postpone (named w k)
act_of w (step.Lose p k) = Lose (named w k)
act_of w (step.Repeat p k) = Repeat (named w k)

unfoldable pub step_line : Rehearsal → Step → List ℕ
step_line w step = line_text (Plays (Acts (One (actor step)) (act_of w step)))
