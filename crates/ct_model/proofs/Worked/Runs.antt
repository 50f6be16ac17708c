-- Worked runs, computed: what each member received, decided and delivered, and why steps are refused.
use Rattle.std.proofs.Common.{◌≡◌, ℕ, List, [], ◌∷◌, ◌++◌, Option, Some, None, option_map, length, map, refl}
use Rattle.ct_names.specs.declared.command.Command.TheVariants.{Set, Copy}
use Rattle.ct_names.specs.declared.limit.Limit.TheVariants.{Cells}
use Rattle.ct_names.specs.declared.refusal.Refusal.{Refusal}
use Rattle.ct_names.specs.declared.refusal.Refusal.TheVariants.{NoSuchMember, Crashed, Busy, Nothing, Idle, Decided, Undecided, WrongPhase}
use Rattle.ct_names.specs.declared.refusal.Refusal.TheVariants.{NoProposal, Full}
use Rattle.ct_model.specs.declared.step.Step.{Step}
use Rattle.ct_model.specs.declared.step.Step.TheVariants.{Submit, Receive, Begin, Enter, Choose, Adopt, Suspect, Conclude, Deliver}
use Rattle.ct_model.specs.declared.step.Step.TheVariants.{Follow, Crash, Postpone, Lose, Repeat}
use Rattle.ct_model.specs.State.{State, Member, delivered}
use Rattle.ct_model.specs.Received.{received, decided}
use Rattle.ct_model.specs.Run.{run}
use Rattle.ct_model.proofs.Worked.Common.{group_of, short, after_in, runs_with}

-- what a member shows: what it received, what was decided in each of these instances, and what it delivered
record Shown : Type 0 where
  received : List (ℕ × ℕ)
  decided : List (Option (List (ℕ × ℕ)))
  delivered : List (ℕ × ℕ)

show : List ℕ → Member → Shown
unfolding short
show instances m = record {
  received = short (received m.got);
  decided = map (λ k. option_map short (decided m.got k)) instances;
  delivered = short (delivered m);
}

-- how many envelopes were sent, and what the members show
outcome : List ℕ → Option State → Option (ℕ × List Shown)
unfolding show
outcome instances o = option_map (λ g. (length g.sent, map (show instances) g.members)) o

-- three members: one message, which 1 submits; 3 crashes, and 1 and 2 decide in the first round, which 2 coordinates
to_crash : List Step
to_crash = Submit 1 (Set 0 7) ∷ Receive 1 1 ∷ Receive 2 2 ∷ Crash 3 ∷ []

to_proposal : List Step
to_proposal = Begin 1 ∷ Begin 2 ∷ Enter 1 ∷ Enter 2 ∷ Receive 2 7 ∷ Receive 2 8 ∷ Choose 2 1 ∷ []

to_decision : List Step
to_decision = Receive 1 9 ∷ Adopt 1 ∷ Receive 2 10 ∷ Adopt 2 ∷ Receive 2 12 ∷ Receive 2 13 ∷ Conclude 2 ∷ Receive 2 15 ∷ []

to_delivery : List Step
to_delivery = Deliver 2 ∷ Receive 1 14 ∷ Deliver 1 ∷ []

-- one member: two messages, the second decided and delivered before the first is received
first_instance : List Step
first_instance = Submit 1 (Copy 0 1) ∷ Submit 1 (Set 0 5) ∷ Receive 1 2 ∷ Begin 1 ∷ Enter 1 ∷ Receive 1 3 ∷ Choose 1 1 ∷ Receive 1 4
    ∷ Adopt 1 ∷ Receive 1 5 ∷ Conclude 1 ∷ Receive 1 6 ∷ []

second_instance : List Step
second_instance = Receive 1 1 ∷ Begin 1 ∷ Enter 1 ∷ Receive 1 7 ∷ Choose 1 1 ∷ Receive 1 8 ∷ Adopt 1 ∷ Receive 1 9 ∷ Conclude 1
    ∷ Receive 1 10 ∷ []

-- all that these compute with
computing : Unit {0}
unfolding runs_with outcome show to_crash to_proposal to_decision to_delivery first_instance second_instance
computing = tt

-- the two that are up deliver the message, and the member that is not the coordinator passes the decision on
one_message_of_three : outcome (1 ∷ []) (run (group_of 3) (to_crash ++ to_proposal ++ to_decision ++ to_delivery)) ≡ Some (
  19,
  record { received = (1, 1) ∷ []; decided = Some ((1, 1) ∷ []) ∷ []; delivered = (1, 1) ∷ [] }
      ∷ record { received = (1, 1) ∷ []; decided = Some ((1, 1) ∷ []) ∷ []; delivered = (1, 1) ∷ [] }
      ∷ record { received = []; decided = None ∷ []; delivered = [] }
      ∷ [],
)
one_message_of_three = unfold computing in refl

-- messages are delivered as they are decided, not as they were submitted
two_instances_of_one : outcome (1 ∷ 2 ∷ 3 ∷ []) (run (group_of 1) (first_instance ++ Deliver 1 ∷ second_instance ++ Deliver 1 ∷ []))
    ≡ Some (
      10,
      record {
        received = (1, 2) ∷ (1, 1) ∷ [];
        decided = Some ((1, 2) ∷ []) ∷ Some ((1, 1) ∷ []) ∷ None ∷ [];
        delivered = (1, 2) ∷ (1, 1) ∷ [];
      }
          ∷ [],
    )
two_instances_of_one = unfold computing in refl

-- each of the fourteen steps, at a member
all_of : ℕ → List Step
all_of p = Submit p (Set 0 1) ∷ Receive p 3 ∷ Begin p ∷ Enter p ∷ Choose p 1 ∷ Adopt p ∷ Suspect p ∷ Conclude p ∷ Deliver p ∷ Follow p
    ∷ Crash p ∷ Postpone p 3 ∷ Lose p 3 ∷ Repeat p 3 ∷ []

fourteen : Refusal → List (Option Refusal)
fourteen r = Some r ∷ Some r ∷ Some r ∷ Some r ∷ Some r ∷ Some r ∷ Some r ∷ Some r ∷ Some r ∷ Some r ∷ Some r ∷ Some r ∷ Some r
    ∷ Some r ∷ []

-- a crashed member takes no step, and a stranger neither
refused_crashed : map (after_in 3 4 to_crash) (all_of 3) ≡ fourteen Crashed
refused_crashed = unfold computing all_of fourteen in refl

refused_stranger : map (after_in 3 4 to_crash) (all_of 4) ≡ fourteen NoSuchMember
refused_stranger = unfold computing all_of fourteen in refl

-- nothing may be delivered where there is no cell for it
refused_cells : map (λ cells. after_in 1 cells first_instance (Deliver 1)) (0 ∷ 1 ∷ []) ≡ Some (Full Cells) ∷ None ∷ []
refused_cells = unfold computing in refl

-- before an instance, in one, and in one that is decided
refused_idle : map (after_in 3 4 to_crash) (Begin 1 ∷ Enter 1 ∷ Choose 2 1 ∷ Adopt 1 ∷ Suspect 1 ∷ Conclude 2 ∷ Deliver 1 ∷ []) ≡ None
    ∷ Some Idle ∷ Some Idle ∷ Some Idle ∷ Some Idle ∷ Some Idle ∷ Some Idle ∷ []
refused_idle = unfold computing in refl

refused_nothing : map (after_in 3 4 []) (Begin 1 ∷ []) ≡ Some Nothing ∷ []
refused_nothing = unfold computing in refl

refused_in_instance : map (after_in 3 4 (to_crash ++ to_proposal))
    (Begin 1 ∷ Enter 1 ∷ Choose 2 1 ∷ Adopt 1 ∷ Suspect 1 ∷ Conclude 2 ∷ Deliver 1 ∷ []) ≡ Some Busy ∷ Some WrongPhase ∷ Some WrongPhase
    ∷ Some NoProposal ∷ None ∷ Some WrongPhase ∷ Some Undecided ∷ []
refused_in_instance = unfold computing in refl

refused_decided : map (after_in 3 4 (to_crash ++ to_proposal ++ to_decision)) (Enter 2 ∷ Deliver 2 ∷ Enter 1 ∷ Deliver 1 ∷ [])
    ≡ Some Decided ∷ None ∷ None ∷ Some Undecided ∷ []
refused_decided = unfold computing in refl
