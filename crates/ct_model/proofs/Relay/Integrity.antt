-- What is received is received once, and was submitted.
use Rattle.std.proofs.Common.{◌≡◌, ℕ, List, Some, filter_map}
use Rattle.ct_names.specs.Group.{IsMember}
use Rattle.ct_names.specs.Membership.{IsIn, IsWithoutRepeats}
use Rattle.ct_names.specs.Message.{Message}
use Rattle.ct_names.proofs.Values.{in-has, has-in, IsWithoutRepeats-first_occurrences}
use Rattle.ct_model.specs.declared.step.Step.{Step}
use Rattle.ct_model.specs.Setting.{Setting}
use Rattle.ct_model.specs.State.{State, member}
use Rattle.ct_model.specs.Received.{message_of, received, received_by}
use Rattle.ct_model.specs.Run.{run}
use Rattle.ct_model.specs.Knowledge.{KnowsMessages}
use Rattle.ct_model.proofs.Relay.Messages.{knows-next}
use Rattle.ct_model.proofs.Record.Runs.{kept-sized}
use Rattle.ct_model.proofs.Record.Start.{knows-first}

pub received_once : (s : Setting) (steps : List Step) (g : State) → run s steps ≡ Some g → (p : ℕ) → IsMember s.members p →
    IsWithoutRepeats (received_by g p)
unfolding received_by received
received_once s steps g e p is = IsWithoutRepeats-first_occurrences (filter_map message_of (member g p).got)

pub knows-run : (s : Setting) (steps : List Step) (g : State) → run s steps ≡ Some g → KnowsMessages s g
knows-run s steps g e = (kept-sized (KnowsMessages s) s (knows-first s) (knows-next s) steps g e).1

pub received_submitted : (s : Setting) (steps : List Step) (g : State) → run s steps ≡ Some g → (p : ℕ) (m : Message) →
    IsMember s.members p → IsIn m (received_by g p) → IsIn m g.submitted
received_submitted s steps g e p m is h = in-has g.submitted m ((knows-run s steps g e).received p m (has-in (received_by g p) m h))
