-- Worked runs with a member that follows, and with bounded proposals, computed.
use Rattle.std.proofs.Common.{◌≡◌, ℕ, Bool, true, false, List, [], ◌∷◌, ◌++◌, Option, Some, None, option_map, length, map, refl}
use Rattle.std.specs.Prelude.{is_some}
use Rattle.ct_names.specs.declared.command.Command.TheVariants.{Set, Copy}
use Rattle.ct_names.specs.declared.limit.Limit.TheVariants.{Cells}
use Rattle.ct_names.specs.declared.refusal.Refusal.TheVariants.{Busy, Nothing, Idle, Undecided, Full}
use Rattle.ct_model.specs.declared.step.Step.{Step}
use Rattle.ct_model.specs.declared.step.Step.TheVariants.{Submit, Receive, Begin, Enter, Choose, Adopt, Conclude, Deliver, Follow}
use Rattle.ct_model.specs.declared.phase.Phase.TheVariants.{Rest}
use Rattle.ct_model.specs.declared.wire.Wire.TheVariants.{Dec}
use Rattle.ct_model.specs.Cause.{order, cause}
use Rattle.ct_model.specs.Next.{follow_row}
use Rattle.ct_model.specs.Run.{run}
use Rattle.ct_model.specs.Setting.{Setting}
use Rattle.ct_model.specs.State.{State, Member, new_member, delivered}
use Rattle.ct_model.proofs.Worked.Common.{group_of, short, after_in, runs_with}

-- the last instance that a member began, whether it is open, and what the member delivered
record Shown : Type 0 where
  last : ℕ
  is_open : Bool
  delivered : List (ℕ × ℕ)

shown : Member → Shown
unfolding short
shown m = record { last = m.last; is_open = is_some m.current; delivered = short (delivered m) }

-- how many envelopes were sent and values proposed, how many batches the order has, and what the members show
outcome : Option State → Option (ℕ × ℕ × ℕ × List Shown)
unfolding shown
outcome o = option_map (λ g. (length g.sent, length g.proposals, length (order g), map shown g.members)) o

-- three members: members 1 and 2 open instance 1 and decide in its first round, and the decision is sent to all
to_decision : List Step
to_decision = Submit 1 (Set 0 7) ∷ Receive 1 1 ∷ Receive 2 2 ∷ Begin 1 ∷ Begin 2 ∷ Enter 1 ∷ Enter 2 ∷ Receive 2 7 ∷ Receive 2 8
    ∷ Choose 2 1 ∷ Receive 1 9 ∷ Adopt 1 ∷ Receive 2 10 ∷ Adopt 2 ∷ Receive 2 12 ∷ Receive 2 13 ∷ Conclude 2 ∷ []

-- member 3 gets the decision, and follows
followed : List Step
followed = to_decision ++ Receive 3 16 ∷ Follow 3 ∷ []

-- one member whose proposals have at most so many messages; it receives its second message first
one_of : ℕ → Setting
one_of bound = record { members = 1; bound = bound }

two_messages : List Step
two_messages = Submit 1 (Set 0 5) ∷ Submit 1 (Copy 0 1) ∷ Receive 1 2 ∷ Receive 1 1 ∷ []

first_instance : List Step
first_instance = Begin 1 ∷ Enter 1 ∷ Receive 1 3 ∷ Choose 1 1 ∷ Receive 1 4 ∷ Adopt 1 ∷ Receive 1 5 ∷ Conclude 1 ∷ Receive 1 6 ∷ Deliver 1
    ∷ []

second_instance : List Step
second_instance = Begin 1 ∷ Enter 1 ∷ Receive 1 7 ∷ Choose 1 1 ∷ Receive 1 8 ∷ Adopt 1 ∷ Receive 1 9 ∷ Conclude 1 ∷ Receive 1 10
    ∷ Deliver 1 ∷ []

-- all that these compute with
computing : Unit {0}
unfolding runs_with outcome shown to_decision followed one_of two_messages first_instance second_instance
computing = tt

-- a member that begins and closes an instance at once delivers, and proposes and sends nothing
follows : outcome (run (group_of 3) followed) ≡ Some (
  19,
  2,
  1,
  record { last = 1; is_open = true; delivered = [] }
      ∷ record { last = 1; is_open = true; delivered = [] }
      ∷ record { last = 1; is_open = false; delivered = (1, 1) ∷ [] }
      ∷ [],
)
follows = unfold computing in refl

-- what was delivered is not proposed again, and the instance that was followed is not followed again
relays_late : option_map (λ g. length g.sent) (run (group_of 3) (followed ++ Receive 3 3 ∷ [])) ≡ Some 22
relays_late = unfold computing in refl

refused_after : map (after_in 3 4 (followed ++ Receive 3 3 ∷ [])) (Begin 3 ∷ Follow 3 ∷ Deliver 3 ∷ []) ≡ Some Nothing ∷ Some Undecided
    ∷ Some Idle ∷ []
refused_after = unfold computing in refl

-- the instance of a Follow is the next one, none is open, and its batch has a cell
refused_before : map (after_in 3 4 to_decision) (Follow 3 ∷ Follow 2 ∷ []) ≡ Some Undecided ∷ Some Busy ∷ []
refused_before = unfold computing in refl

refused_open : map (after_in 3 4 (to_decision ++ Receive 3 3 ∷ Begin 3 ∷ Receive 3 16 ∷ [])) (Follow 3 ∷ Deliver 3 ∷ []) ≡ Some Busy ∷ None
    ∷ []
refused_open = unfold computing in refl

refused_cells : map (λ cells. after_in 3 cells (to_decision ++ Receive 3 16 ∷ []) (Follow 3)) (0 ∷ 1 ∷ []) ≡ Some (Full Cells) ∷ None ∷ []
refused_cells = unfold computing in refl

-- the row of a member that has the decision of instance 2 alone: it follows after instance 1, unless that is open still
with_second : Member
with_second = record new_member { got = Dec 2 1 [] ∷ []; last = 1 }

rows_of_second : map (λ m. option_map (λ o. shown o.member) (follow_row m))
    (with_second ∷ record with_second { current = Some (record { round = 0; phase = Rest; estimate = []; ts = 0 }) }
    ∷ record with_second { last = 0 } ∷ []) ≡ Some (record { last = 2; is_open = false; delivered = [] }) ∷ None ∷ None ∷ []
rows_of_second = unfold computing with_second in refl

-- a proposal has the first messages in order, not those that came first
one_at_a_time : map (λ steps. outcome (run (one_of 1) (two_messages ++ steps))) (first_instance ∷ (first_instance ++ second_instance) ∷ [])
    ≡ Some (6, 1, 1, (record { last = 1; is_open = false; delivered = (1, 1) ∷ [] } ∷ []))
    ∷ Some (10, 2, 2, (record { last = 2; is_open = false; delivered = (1, 1) ∷ (1, 2) ∷ [] } ∷ [])) ∷ []
one_at_a_time = unfold computing in refl

two_at_once : outcome (run (one_of 2) (two_messages ++ first_instance))
    ≡ Some (6, 1, 1, (record { last = 1; is_open = false; delivered = (1, 1) ∷ (1, 2) ∷ [] } ∷ []))
two_at_once = unfold computing in refl

-- what the bound left over may be proposed next
refused_then : map (λ bound. cause (record { setting = one_of bound; cells = 4; steps = two_messages ++ first_instance }) (Begin 1))
    (1 ∷ 2 ∷ []) ≡ None ∷ Some Nothing ∷ []
refused_then = unfold computing in refl
