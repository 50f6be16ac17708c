use Rattle.std.proofs.Common.{ap, ◌∙◌}
use Rattle.std.specs.Prelude.{not, ◌&&◌}
use Rattle.ct_model.specs.Rehearsal.{state_of, line_of}
use Rattle.ct_model.specs.Stamps.{is_gone, stamp}
use Rattle.ct_model.proofs.Basics.Serials.{distinct-once}
use Rattle.ct_model.proofs.Record.Envelopes.{serials_sent}
use Rattle.ct_model.proofs.Record.Stamps.{rising-places}
use Rattle.ct_model.proofs.laws.law_line.Goals as goal

pub returns-clause-once : goal.returns-clause-once
returns-clause-once c = λ w p law. distinct-once (line_of w p) (law.distinct p)

pub returns-clause-waiting : goal.returns-clause-waiting
returns-clause-waiting c = λ w p k law. law.waits p k ∙ ap (λ sent. sent && not (is_gone w p k)) (serials_sent (state_of w) p k)

pub returns-clause-order : goal.returns-clause-order
returns-clause-order c = λ w p i j k l law. rising-places (stamp w p) (line_of w p) i j k l (law.rising p)
