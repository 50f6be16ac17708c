-- What members do, line by line.
use Rattle.std.specs.Prelude.{ℕ, List, Option, Some, None, Result, Ok, Err, fold, if◌then◌else◌}
use Rattle.ct_names.specs.declared.refusal.Refusal.{Refusal}
use Rattle.ct_model.specs.Cause.{cause}
use Rattle.ct_model.specs.declared.step.Step.{Step}
use Rattle.ct_model.specs.declared.step.Step.TheVariants as step
use Rattle.ct_model.specs.Rehearsal.{Rehearsal}
use Rattle.ct_choices.specs.Choices.{has_crashed}
use Rattle.ct_grammar.specs.declared.act.Act.{Act}
use Rattle.ct_grammar.specs.declared.act.Act.TheVariants.{Submit, Receive, Begin, Enter, Choose, Adopt, Suspect, Conclude, Deliver, Follow}
use Rattle.ct_grammar.specs.declared.act.Act.TheVariants.{Crash, Postpone, Lose, Repeat, LoseFrom}
use Rattle.ct_grammar.specs.declared.pick.Pick.{Pick}
use Rattle.ct_grammar.specs.declared.who.Who.{Who}
use Rattle.ct_grammar.specs.declared.who.Who.TheVariants.{All}
use Rattle.ct_play.specs.Cuts.{barred}
use Rattle.ct_play.specs.Picking.{first_from, picked, repeated, waiting_from}
use Rattle.ct_play.specs.Played.{Played, with_step}
use Rattle.ct_play.specs.Who.{named}
use Rattle.ct_play.specs.declared.line_fault.LineFault.{LineFault}
use Rattle.ct_play.specs.declared.line_fault.LineFault.TheVariants.{NotThere, NoneFrom, Refused}

-- what comes to a result goes on from it; a fault stays
abbrev pub go_on : {A B E : Type 0} → Result A E → (A → Result B E) → Result B E
go_on (Ok x) more = more x
go_on (Err fault) more = Err fault

-- ---- a step

-- the serial of the envelope that is named, where there is one
abbrev pub there : ℕ → Pick → Option ℕ → Result ℕ LineFault
there p pick None = Err (NotThere p pick)
there p pick (Some k) = Ok k

-- the loss of the first envelope from these, where there is one
abbrev pub first_loss : ℕ → List ℕ → Option ℕ → Result Step LineFault
first_loss p set None = Err (NoneFrom p set)
first_loss p set (Some k) = Ok (step.Lose p k)

-- the step that p takes, of an act of several steps the first
abbrev pub step_of : Rehearsal → ℕ → Act → Result Step LineFault
step_of w p (Submit c) = Ok (step.Submit p c)
step_of w p (Receive pick) = go_on (there p pick (picked w p pick)) (λ k. Ok (step.Receive p k))
step_of w p Begin = Ok (step.Begin p)
step_of w p Enter = Ok (step.Enter p)
step_of w p (Choose from) = Ok (step.Choose p from)
step_of w p Adopt = Ok (step.Adopt p)
step_of w p Suspect = Ok (step.Suspect p)
step_of w p Conclude = Ok (step.Conclude p)
step_of w p Deliver = Ok (step.Deliver p)
step_of w p Follow = Ok (step.Follow p)
step_of w p Crash = Ok (step.Crash p)
step_of w p (Postpone pick) = go_on (there p pick (picked w p pick)) (λ k. Ok (step.Postpone p k))
step_of w p (Lose pick) = go_on (there p pick (picked w p pick)) (λ k. Ok (step.Lose p k))
step_of w p (Repeat pick) = go_on (there p pick (repeated w p pick)) (λ k. Ok (step.Repeat p k))
step_of w p (LoseFrom set) = first_loss p set (first_from w p set)

-- the step joins the record, unless the rules refuse it
abbrev pub unless_refused : Played → Step → Option Refusal → Result Played LineFault
unless_refused s step None = Ok (with_step s step)
unless_refused s step (Some refusal) = Err (Refused step refusal)

unfoldable pub stepped : Played → Step → Result Played LineFault
stepped s step = unless_refused s step (cause s.rehearsal step)

-- this, unless the cut forbids the step
abbrev pub unless_barred : Option LineFault → Played → Result Played LineFault
unless_barred None t = Ok t
unless_barred (Some fault) t = Err fault

-- after the step, which the rules may refuse, and then the cut
unfoldable pub after_step : Played → Step → Result Played LineFault
after_step s step = go_on (stepped s step) (unless_barred (barred s step))

-- ---- a member

-- after p lost these
abbrev pub after_losses : ℕ → Played → List ℕ → Result Played LineFault
after_losses p s ks = fold (λ r k. go_on r (λ t. after_step t (step.Lose p k))) (Ok s) ks

-- after p did this
abbrev pub done : Played → ℕ → Act → Result Played LineFault
done s p (LoseFrom set) = go_on (step_of s.rehearsal p (LoseFrom set)) (λ _. after_losses p s (waiting_from s.rehearsal p set))
done s p act = go_on (step_of s.rehearsal p act) (after_step s)

-- ---- each member in its turn

-- after p did this; of all a member that has crashed does nothing
abbrev pub done_by : Who → Act → Played → ℕ → Result Played LineFault
done_by All act s p = if has_crashed s.rehearsal p then Ok s else done s p act
done_by who act s p = done s p act

-- after each of these did it
abbrev pub done_by_each : Who → Act → Played → List ℕ → Result Played LineFault
done_by_each who act s ps = fold (λ r p. go_on r (λ t. done_by who act t p)) (Ok s) ps

-- after the members that the line names did it
abbrev pub acted : Played → Who → Act → Result Played LineFault
acted s who act = done_by_each who act s (named s.rehearsal.setting.members who)
