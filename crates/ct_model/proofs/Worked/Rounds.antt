-- Worked steps of rounds, computed: the ballots of a round, what each step leaves, and why steps are refused. Values
-- are numbers. The group has three members, so member 2 coordinates round 1, and member 3 round 2.
use Rattle.std.proofs.Common.{◌≡◌, ℕ, List, [], ◌∷◌, Option, Some, None, map, option_map, refl}
use Rattle.ct_names.specs.declared.command.Command.TheVariants.{Set}
use Rattle.ct_names.specs.declared.refusal.Refusal.TheVariants.{WrongPhase, TooFew, NotLargest, NoProposal, HasProposal}
use Rattle.ct_names.specs.declared.limit.TheConstants.{MAX_BOUND}
use Rattle.ct_names.specs.Group.{members}
use Rattle.ct_names.specs.Message.{Message}
use Rattle.ct_names.specs.Order.{is_before, is_message}
use Rattle.ct_names.specs.Value.{Value, ordered}
use Rattle.ct_model.specs.declared.moves.Move.{Move}
use Rattle.ct_model.specs.declared.moves.Move.TheVariants.{Enter, Choose, Adopt, Suspect, Conclude}
use Rattle.ct_model.specs.declared.phase.Phase.{Phase}
use Rattle.ct_model.specs.declared.phase.Phase.TheVariants.{Rest, Gather, Wait, Tally}
use Rattle.ct_model.specs.Setting.{Setting}
use Rattle.ct_model.specs.Wire.{Wire, Mail}
use Rattle.ct_model.specs.declared.wire.Wire.TheVariants.{Data, Est, Prop, Ack, Nack, Dec}
use Rattle.ct_model.specs.declared.mail.Mail.TheVariants.{Nobody, One, All}
use Rattle.ct_model.specs.State.{Standing, Turn, Member, new_member}
use Rattle.ct_model.specs.Received.{Ballots, ballots, decided, proposal, received}
use Rattle.ct_model.specs.Counted.{count_in}
use Rattle.ct_model.specs.Phases.{enter, choose, adopt, suspect, conclude}
use Rattle.ct_model.specs.Test.{first_fault}
use Rattle.ct_model.specs.Faults.{enter_faults, choose_faults, adopt_faults, suspect_faults, conclude_faults}
use Rattle.ct_model.specs.Next.{undelivered, proposed, begin, begin_row, Outcome, turned, round_row, turn_at}

abbrev stands : ℕ → Phase → ℕ → ℕ → Standing ℕ
stands r phase estimate ts = record { round = r; phase = phase; estimate = estimate; ts = ts }

abbrev turn : Standing ℕ → Mail ℕ → Turn ℕ
turn c mail = record { after = c; mail = mail }

-- the ballots of round 2 of instance 1
second : List (Wire ℕ) → Ballots ℕ
second got = ballots got 1 2

-- estimates of members 1 and 3 for that round, the latter with ts 1
two_estimates : List (Wire ℕ)
two_estimates = Est 1 2 3 8 1 ∷ Est 1 2 1 7 0 ∷ []

-- all that these compute with
computing : Unit {0}
unfolding members is_before is_message ordered received proposal ballots enter choose adopt suspect conclude undelivered proposed second
    two_estimates
computing = tt

-- ballots: by member, the first of each; those of other rounds and instances don't count
first_count : second (Est 1 2 3 8 1 ∷ Est 1 2 3 9 2 ∷ Est 1 1 2 9 0 ∷ Est 2 2 2 9 0 ∷ Est 1 2 1 7 0 ∷ Prop 1 2 5 ∷ Prop 1 2 6 ∷ Ack 1 2 3
    ∷ Nack 1 2 2 ∷ Ack 1 2 3 ∷ Ack 1 1 1 ∷ Dec 1 2 5 ∷ [])
    ≡ record {
      estimates = record { member = 1; value = 7; ts = 0 } ∷ record { member = 3; value = 8; ts = 1 } ∷ [];
      proposal = Some 5;
      acked = 3 ∷ [];
      replied = 2 ∷ 3 ∷ [];
    }
first_count = unfold computing in refl

one_more : count_in (second two_estimates) 1 2 (Est 1 2 2 9 1) ≡ second (Est 1 2 3 8 1 ∷ Est 1 2 1 7 0 ∷ Est 1 2 2 9 1 ∷ [])
one_more = unfold computing in refl

nobody_else : count_in (second two_estimates) 1 2 (Ack 1 2 17)
    ≡ record { estimates = (second two_estimates).estimates; proposal = None; acked = []; replied = [] }
nobody_else = unfold computing in refl

-- Enter
enters_as_coordinator : enter 3 2 1 None (stands 0 Rest 7 0) ≡ Some (turn (stands 1 Gather 7 0) (One 2 (Est 1 1 2 7 0)))
enters_as_coordinator = unfold computing in refl

enters_as_other : enter 3 1 1 None (stands 1 Rest 7 1) ≡ Some (turn (stands 2 Wait 7 1) (One 3 (Est 1 2 1 7 1)))
enters_as_other = unfold computing in refl

no_entry : enter 3 1 1 (Some 7) (stands 1 Rest 7 1) ∷ enter 3 1 1 None (stands 1 Wait 7 1) ∷ [] ≡ None ∷ None ∷ []
no_entry = unfold computing in refl

entry_refused : map (λ phase. first_fault (enter_faults (stands 1 phase 7 1))) (Rest ∷ Gather ∷ Wait ∷ Tally ∷ []) ≡ None ∷ Some WrongPhase
    ∷ Some WrongPhase ∷ Some WrongPhase ∷ []
entry_refused = unfold computing in refl

-- Choose takes the estimate, leaves ts, and proposes to all; one with a smaller ts, or of who wasn't heard, is refused
chooses : choose 3 1 (second two_estimates) (stands 2 Gather 6 0) 3 ≡ Some (turn (stands 2 Wait 8 0) (All (Prop 1 2 8)))
chooses = unfold computing in refl

no_choice : map (choose 3 1 (second two_estimates) (stands 2 Gather 6 0)) (1 ∷ 2 ∷ []) ≡ None ∷ None ∷ []
no_choice = unfold computing in refl

choice_refused : map (λ from. first_fault (choose_faults 3 (second two_estimates) (stands 2 Gather 6 0) from)) (1 ∷ 2 ∷ 3 ∷ [])
    ≡ Some NotLargest ∷ Some NotLargest ∷ None ∷ []
choice_refused = unfold computing in refl

-- a second estimate of one member makes no majority
too_few_heard : first_fault (choose_faults 3 (second (Est 1 2 3 8 1 ∷ Est 1 2 3 9 2 ∷ Est 1 1 1 7 0 ∷ [])) (stands 2 Gather 6 0) 3)
    ≡ Some TooFew
too_few_heard = unfold computing in refl

no_gathering : first_fault (choose_faults 3 (second two_estimates) (stands 2 Wait 6 0) 3) ≡ Some WrongPhase
no_gathering = unfold computing in refl

-- of equal ts either may be taken
either_of_two : map (choose 3 1 (second (Est 1 2 1 7 1 ∷ Est 1 2 2 9 1 ∷ [])) (stands 2 Gather 6 0)) (1 ∷ 2 ∷ [])
    ≡ Some (turn (stands 2 Wait 7 0) (All (Prop 1 2 7))) ∷ Some (turn (stands 2 Wait 9 0) (All (Prop 1 2 9))) ∷ []
either_of_two = unfold computing in refl

-- Adopt takes the first proposal, sets ts, and acks; the coordinator then tallies
adopts : adopt 3 1 1 (second (Prop 1 2 8 ∷ Prop 1 2 9 ∷ [])) (stands 2 Wait 7 0) ≡ Some (turn (stands 2 Rest 8 2) (One 3 (Ack 1 2 1)))
adopts = unfold computing in refl

adopts_its_own : adopt 3 3 1 (second (Prop 1 2 8 ∷ [])) (stands 2 Wait 8 0) ≡ Some (turn (stands 2 Tally 8 2) (One 3 (Ack 1 2 3)))
adopts_its_own = unfold computing in refl

adoption_refused : first_fault (adopt_faults (second (Prop 1 1 8 ∷ [])) (stands 2 Wait 7 0))
    ∷ first_fault (adopt_faults (second (Prop 1 2 8 ∷ [])) (stands 2 Rest 7 0)) ∷ [] ≡ Some NoProposal ∷ Some WrongPhase ∷ []
adoption_refused = unfold computing in refl

-- Suspect leaves estimate and ts, and sends a nack
suspects : suspect 3 1 1 (second (Prop 1 1 8 ∷ [])) (stands 2 Wait 7 1) ≡ Some (turn (stands 2 Rest 7 1) (One 3 (Nack 1 2 1)))
suspects = unfold computing in refl

suspects_itself : suspect 3 3 1 (second []) (stands 2 Wait 8 0) ≡ Some (turn (stands 2 Tally 8 0) (One 3 (Nack 1 2 3)))
suspects_itself = unfold computing in refl

suspicion_refused : first_fault (suspect_faults (second (Prop 1 2 8 ∷ [])) (stands 2 Wait 7 0))
    ∷ first_fault (suspect_faults (second []) (stands 2 Tally 7 0)) ∷ [] ≡ Some HasProposal ∷ Some WrongPhase ∷ []
suspicion_refused = unfold computing in refl

-- Conclude sends the decision where a majority acked; nacks count as replies alone, and a reply got twice counts once
concludes : conclude 3 1 (second (Ack 1 2 1 ∷ Nack 1 2 2 ∷ Ack 1 2 3 ∷ [])) (stands 2 Tally 8 2)
    ≡ Some (turn (stands 2 Rest 8 2) (All (Dec 1 2 8)))
concludes = unfold computing in refl

concludes_nothing : conclude 3 1 (second (Ack 1 2 1 ∷ Nack 1 2 2 ∷ [])) (stands 2 Tally 8 2) ≡ Some (turn (stands 2 Rest 8 2) Nobody)
concludes_nothing = unfold computing in refl

conclusion_refused : first_fault (conclude_faults 3 (second (Ack 1 2 1 ∷ Ack 1 2 1 ∷ Ack 1 1 2 ∷ [])) (stands 2 Tally 8 2))
    ∷ first_fault (conclude_faults 3 (second (Ack 1 2 1 ∷ Ack 1 2 2 ∷ [])) (stands 2 Rest 8 2)) ∷ [] ≡ Some TooFew ∷ Some WrongPhase ∷ []
conclusion_refused = unfold computing in refl

-- Begin proposes what was received and not delivered, in order

group : Setting
group = record { members = 3; bound = MAX_BOUND }

message : ℕ → ℕ → Message
message p k = record { origin = p; number = k; command = Set 0 7 }

-- two messages received, a third received and delivered
with_three : Member
with_three = record new_member {
  got = Data (message 2 1) ∷ Data (message 1 2) ∷ Data (message 1 1) ∷ Data (message 2 1) ∷ [];
  last = 1;
  batches = record { instance = 1; messages = message 1 1 ∷ [] } ∷ [];
}

begins : begin_row group 3 with_three ≡ Some (record {
  member = record with_three {
    last = 2;
    current = Some (record { round = 0; phase = Rest; estimate = message 1 2 ∷ message 2 1 ∷ []; ts = 0 });
  };
  submitted = [];
  proposals = record { member = 3; instance = 2; value = message 1 2 ∷ message 2 1 ∷ [] } ∷ [];
  mail = Nobody;
})
begins = unfold computing message with_three group in refl

begins_nothing : begin_row group 3 new_member ≡ None
begins_nothing = unfold computing group in refl

busy : begin_row group 3 (begin group 3 with_three).member ≡ None
busy = unfold computing message with_three group in refl

-- the same steps at the member: they are taken in the open instance, and with what was got for its round

-- member 3 after it began instance 2
begun : Member
begun = (begin group 3 with_three).member

-- a step of a round, which member 3 takes
abbrev taken : Member → Move → Option Outcome
taken m action = round_row m (turn_at group.members 3 m action)

enters_its_instance : taken begun Enter ≡ Some (turned begun
    (record {
      after = record { round = 1; phase = Wait; estimate = message 1 2 ∷ message 2 1 ∷ []; ts = 0 };
      mail =
          One 2 (Est 2 1 3 (message 1 2 ∷ message 2 1 ∷ []) 0);
    }))
enters_its_instance = unfold computing message with_three group begun decided in refl

-- the decision of another instance doesn't keep it from entering, that of its own does
enters_undecided : map (λ k. option_map (λ o. o.mail) (taken (record begun { got = Dec k 1 [] ∷ [] }) Enter)) (1 ∷ 2 ∷ [])
    ≡ Some (One 2 (Est 2 1 3 (message 1 2 ∷ message 2 1 ∷ []) 0)) ∷ None ∷ []
enters_undecided = unfold computing message with_three group begun decided in refl

idle : map (taken with_three) (Enter ∷ Choose 1 ∷ Adopt ∷ Suspect ∷ Conclude ∷ []) ≡ None ∷ None ∷ None ∷ None ∷ None ∷ []
idle = unfold computing with_three group in refl

-- member 3 in round 1 of instance 2
entered_member : List (Wire Value) → Phase → Member
entered_member got phase = record new_member {
  got = got;
  last = 2;
  current =
      Some (record { round = 1; phase = phase; estimate = []; ts = 0 });
}

adopts_of_its_round : map (λ r. option_map (λ o. o.mail) (taken (entered_member (Prop 2 r [] ∷ []) Wait) Adopt)) (1 ∷ 2 ∷ [])
    ≡ Some (One 2 (Ack 2 1 3)) ∷ None ∷ []
adopts_of_its_round = unfold computing group entered_member in refl

suspects_in_its_round : map (λ r. option_map (λ o. o.mail) (taken (entered_member (Prop 2 r [] ∷ []) Wait) Suspect)) (1 ∷ 2 ∷ []) ≡ None
    ∷ Some (One 2 (Nack 2 1 3)) ∷ []
suspects_in_its_round = unfold computing group entered_member in refl

chooses_in_its_instance : map (λ k. option_map (λ o. o.mail)
    (taken (entered_member (Est k 1 1 (message 1 1 ∷ []) 0 ∷ Est k 1 3 [] 0 ∷ []) Gather) (Choose 1))) (1 ∷ 2 ∷ []) ≡ None
    ∷ Some (All (Prop 2 1 (message 1 1 ∷ []))) ∷ []
chooses_in_its_instance = unfold computing group entered_member message in refl

concludes_its_round : map (λ r. option_map (λ o. o.mail) (taken (entered_member (Ack 2 r 1 ∷ Ack 2 r 3 ∷ []) Tally) Conclude)) (1 ∷ 2 ∷ [])
    ≡ Some (All (Dec 2 1 [])) ∷ None ∷ []
concludes_its_round = unfold computing group entered_member in refl
