use Rattle.std.proofs.Common.{◌≡◌, ◌-◌, length}
use Rattle.std.specs.Prelude.{string_bytes}
use Rattle.ct_records.specs.View.{rehearsal_of}
use Rattle.ct_views.specs.Answer.{lines_to}
use Rattle.ct_views.proofs.answer.lines_of.Given as goal

abbrev pub invariant-loop-form : goal.invariant-loop-form
invariant-loop-form l = record {
  whole : l.replay.whole ≡ rehearsal_of l.script;
  text : string_bytes l.text ≡ lines_to l.selection l.form (rehearsal_of l.script) l.replay.done;
}

abbrev pub decreases-loop-form : goal.decreases-loop-form
decreases-loop-form l = length l.replay.whole.steps - l.replay.done
