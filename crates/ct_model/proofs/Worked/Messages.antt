-- Worked lists of steps, computed: what is sent, received and waiting, and why steps are refused.
use Rattle.std.proofs.Common.{◌≡◌, ℕ, Bool, true, false, List, [], ◌∷◌, ◌++◌, Option, Some, None, option_map, length, map, refl}
use Rattle.ct_names.specs.declared.command.Command.TheVariants.{Set, Add, Copy}
use Rattle.ct_names.specs.declared.refusal.Refusal.{Refusal}
use Rattle.ct_names.specs.declared.refusal.Refusal.TheVariants.{NoSuchMember, Crashed, NotWaiting, BadCommand}
use Rattle.ct_model.specs.declared.step.Step.{Step}
use Rattle.ct_model.specs.declared.step.Step.TheVariants.{Submit, Receive, Crash, Postpone}
use Rattle.ct_model.specs.State.{State}
use Rattle.ct_model.specs.Received.{received_by}
use Rattle.ct_model.specs.Run.{run}
use Rattle.ct_model.specs.Waiting.{waiting}
use Rattle.ct_model.specs.Stamps.{stamp}
use Rattle.ct_model.proofs.Worked.Common.{group_of, record_of, short, after_in, runs_with}

-- how many envelopes were sent, what each of three members received, and who crashed
outcome : Option State → Option (ℕ × List (List (ℕ × ℕ)) × List Bool)
unfolding short
outcome o = option_map (λ g. (
  length g.sent,
  short (received_by g 1) ∷ short (received_by g 2) ∷ short (received_by g 3) ∷ [],
  map (λ m. m.crashed) g.members,
)) o

-- the cause of a step after the list, for a group of three with four cells
after_three : List Step → Step → Option Refusal
after_three steps step = after_in 3 4 steps step

-- one submission, received by its origin, and by another that relays it
relayed_once : List Step
relayed_once = Submit 1 (Set 0 7) ∷ Receive 1 1 ∷ Receive 2 2 ∷ []

-- all that these compute with
computing : Unit {0}
unfolding runs_with outcome after_three relayed_once stamp
computing = tt

nothing_yet : outcome (run (group_of 3) []) ≡ Some (0, ([] ∷ [] ∷ [] ∷ []), (false ∷ false ∷ false ∷ []))
nothing_yet = unfold computing in refl

-- a first receipt by another than the origin is relayed to all
first_receipts : outcome (run (group_of 3) relayed_once) ≡ Some (6, (((1, 1) ∷ []) ∷ ((1, 1) ∷ []) ∷ [] ∷ []), (false ∷ false ∷ false ∷ []))
first_receipts = unfold computing in refl

lines_then : map (waiting (group_of 3) relayed_once) (1 ∷ 2 ∷ 3 ∷ []) ≡ (4 ∷ []) ∷ (5 ∷ []) ∷ (3 ∷ 6 ∷ []) ∷ []
lines_then = unfold computing in refl

-- what is got twice is neither received nor relayed twice
second_receipts : outcome (run (group_of 3) (relayed_once ++ Receive 1 4 ∷ Receive 2 5 ∷ []))
    ≡ Some (6, (((1, 1) ∷ []) ∷ ((1, 1) ∷ []) ∷ [] ∷ []), (false ∷ false ∷ false ∷ []))
second_receipts = unfold computing in refl

-- a postponed serial stands last, and may be received out of turn
postponed : map (waiting (group_of 3) (relayed_once ++ Postpone 3 3 ∷ [])) (1 ∷ 2 ∷ 3 ∷ []) ≡ (4 ∷ []) ∷ (5 ∷ []) ∷ (6 ∷ 3 ∷ []) ∷ []
postponed = unfold computing in refl

-- its stamp is the number of that step, and was the number of the step that sent it
stamps_then : map (λ steps. map (stamp (record_of 3 (relayed_once ++ steps)) 3) (3 ∷ 6 ∷ [])) ([] ∷ (Postpone 3 3 ∷ []) ∷ [])
    ≡ (1 ∷ 3 ∷ []) ∷ (4 ∷ 3 ∷ []) ∷ []
stamps_then = unfold computing in refl

reordered : outcome (run (group_of 3) (relayed_once ++ Postpone 3 3 ∷ Receive 3 6 ∷ Receive 3 3 ∷ []))
    ≡ Some (9, (((1, 1) ∷ []) ∷ ((1, 1) ∷ []) ∷ ((1, 1) ∷ []) ∷ []), (false ∷ false ∷ false ∷ []))
reordered = unfold computing in refl

-- an origin's second message may be received first
out_of_order : outcome (run (group_of 1) (Submit 1 (Copy 0 1) ∷ Submit 1 (Set 0 5) ∷ Receive 1 2 ∷ Receive 1 1 ∷ []))
    ≡ Some (2, (((1, 2) ∷ (1, 1) ∷ []) ∷ [] ∷ [] ∷ []), (false ∷ []))
out_of_order = unfold computing in refl

-- envelopes to a crashed member stay waiting
crashed : outcome (run (group_of 3) (relayed_once ++ Crash 3 ∷ []))
    ≡ Some (6, (((1, 1) ∷ []) ∷ ((1, 1) ∷ []) ∷ [] ∷ []), (false ∷ false ∷ true ∷ []))
crashed = unfold computing in refl

lines_of_crashed : waiting (group_of 3) (relayed_once ++ Crash 3 ∷ []) 3 ≡ 3 ∷ 6 ∷ []
lines_of_crashed = unfold computing in refl

-- a crashed member takes no step, and no step is a stranger's
refused_crashed : map (after_three (Crash 3 ∷ [])) (Submit 3 (Set 16 1) ∷ Receive 3 1 ∷ Crash 3 ∷ Postpone 3 1 ∷ []) ≡ Some Crashed
    ∷ Some Crashed ∷ Some Crashed ∷ Some Crashed ∷ []
refused_crashed = unfold computing in refl

refused_strangers : map (after_three []) (Submit 4 (Set 0 1) ∷ Receive 0 1 ∷ Crash 4 ∷ Postpone 255 1 ∷ []) ≡ Some NoSuchMember
    ∷ Some NoSuchMember ∷ Some NoSuchMember ∷ Some NoSuchMember ∷ []
refused_strangers = unfold computing in refl

refused_others : map (after_three relayed_once) (Submit 1 (Set 16 1) ∷ Receive 2 2 ∷ Receive 1 2 ∷ Receive 3 0 ∷ Postpone 3 7 ∷ [])
    ≡ Some BadCommand ∷ Some NotWaiting ∷ Some NotWaiting ∷ Some NotWaiting ∷ Some NotWaiting ∷ []
refused_others = unfold computing in refl

allowed : map (after_three relayed_once) (Submit 2 (Add 15 1) ∷ Receive 3 6 ∷ Crash 1 ∷ Postpone 3 3 ∷ []) ≡ None ∷ None ∷ None ∷ None ∷ []
allowed = unfold computing in refl
