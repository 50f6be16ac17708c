-- The facts hold after every run.
use Rattle.std.proofs.Common.{arith}
use Rattle.std.proofs.Common.{◌≡◌, List, Some}
use Rattle.ct_names.specs.Group.{IsMember}
use Rattle.ct_model.specs.declared.step.Step.{Step}
use Rattle.ct_model.specs.Actor.{actor}
use Rattle.ct_model.specs.AtValue.{Wire}
use Rattle.ct_model.specs.Setting.{Setting}
use Rattle.ct_model.specs.State.{State, first_state}
use Rattle.ct_model.specs.Next.{next}
use Rattle.ct_model.specs.Run.{run}
use Rattle.ct_model.proofs.Consensus.Sent.{Sent}
use Rattle.ct_model.proofs.Consensus.Facts.{Holds}
use Rattle.ct_model.proofs.Record.Start.{member-first, size-first}
use Rattle.ct_model.proofs.Basics.Groups.{member_is}
use Rattle.ct_model.proofs.Consensus.Obligations.{kept}
use Rattle.ct_model.proofs.Relay.Messages.{next-is}
use Rattle.ct_model.proofs.Basics.Options.{some-none}
use Rattle.ct_model.proofs.Record.Runs.{kept-run}
use Rattle.ct_model.proofs.Consensus.Others.{allowed-step}

pub Holds-next : (s : Setting) (g : State) (step : Step) (h : State) → next s g step ≡ Some h → Holds s g → Holds s h
Holds-next s g step h e holds =
    let t = next-is s g step h e in
    let is : IsMember s.members (actor step) = member_is s.members (actor step) t.in_group in
    rw t.gives at (kept s g (actor step) t.outcome holds is (allowed-step s g (actor step) holds is step t.outcome t.row))

nothing_sent : (s : Setting) (w : Wire) → Sent (first_state s) w → ⊥
unfolding first_state
nothing_sent s w x = x

pub Holds-first : (s : Setting) → Holds s (first_state s)
Holds-first s = grind (arith, size-first, member-first, some-none, nothing_sent)

pub Holds-run : (s : Setting) (steps : List Step) (g : State) → run s steps ≡ Some g → Holds s g
Holds-run s = kept-run (Holds s) s (Holds-first s) (Holds-next s)
