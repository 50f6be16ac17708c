-- What the worked lists of steps compute with.
use Rattle.std.proofs.Common.{ℕ, List, Option, map}
use Rattle.ct_names.specs.declared.limit.TheConstants.{MAX_BOUND}
use Rattle.ct_names.specs.declared.refusal.Refusal.{Refusal}
use Rattle.ct_names.specs.Group.{members}
use Rattle.ct_names.specs.Message.{Message}
use Rattle.ct_names.specs.Order.{is_before, is_message}
use Rattle.ct_names.specs.Value.{ordered}
use Rattle.ct_model.specs.declared.step.Step.{Step}
use Rattle.ct_model.specs.Setting.{Setting}
use Rattle.ct_model.specs.State.{first_state, member, submissions}
use Rattle.ct_model.specs.Received.{received, received_by, decided, proposal, ballots}
use Rattle.ct_model.specs.Phases.{enter, choose, adopt, suspect, conclude}
use Rattle.ct_model.specs.Next.{wire_to, is_relayed, undelivered, proposed, batch_of, after, next, stepped}
use Rattle.ct_model.specs.Run.{run_from, run}
use Rattle.ct_model.specs.Waiting.{line_after, waiting}
use Rattle.ct_model.specs.Rehearsal.{Rehearsal, state_of, line_of}
use Rattle.ct_model.specs.Cause.{order, limit, cause}

-- a group of this size, whose proposals nothing bounds
abbrev pub group_of : ℕ → Setting
group_of n = record { members = n; bound = MAX_BOUND }

-- the record of the steps of such a group, with four cells
abbrev pub record_of : ℕ → List Step → Rehearsal
record_of n steps = record { setting = group_of n; cells = 4; steps = steps }

-- messages as origin and number
unfoldable pub short : List Message → List (ℕ × ℕ)
short list = map (λ m. (m.origin, m.number)) list

-- the cause of a step after the list, for such a group with this many cells
unfoldable pub after_in : ℕ → ℕ → List Step → Step → Option Refusal
after_in n cells steps step = cause (record { setting = group_of n; cells = cells; steps = steps }) step

-- the definitions that runs and causes compute with
unfoldable pub runs_with : Unit {0}
unfolding members is_before is_message ordered first_state member submissions received received_by decided proposal ballots enter choose
    adopt suspect conclude wire_to is_relayed undelivered proposed batch_of after next stepped run_from run line_after waiting state_of
    line_of order limit cause short after_in
runs_with = tt
