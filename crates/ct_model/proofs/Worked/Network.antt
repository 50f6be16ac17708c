-- Worked runs over a network that loses and repeats envelopes, computed.
use Rattle.std.proofs.Common.{◌≡◌, ℕ, true, false, List, [], ◌∷◌, ◌++◌, Option, Some, None, option_map, length, map, refl}
use Rattle.ct_names.specs.declared.command.Command.TheVariants.{Set}
use Rattle.ct_names.specs.declared.refusal.Refusal.TheVariants.{NotWaiting, TooFew, NotSent, StillWaiting}
use Rattle.ct_model.specs.declared.step.Step.{Step}
use Rattle.ct_model.specs.declared.step.Step.TheVariants.{Submit, Receive, Begin, Enter, Choose, Adopt, Conclude, Lose, Repeat}
use Rattle.ct_model.specs.Received.{received_by}
use Rattle.ct_model.specs.Run.{run}
use Rattle.ct_model.specs.Waiting.{waiting}
use Rattle.ct_model.specs.Stamps.{stamp, is_gone}
use Rattle.ct_model.proofs.Worked.Common.{group_of, record_of, short, after_in, runs_with}

-- how many envelopes three members sent
sent_by_three : List Step → Option ℕ
sent_by_three steps = option_map (λ g. length g.sent) (run (group_of 3) steps)

-- member 2 coordinates the first round, and member 1 acks its proposal
to_ack : List Step
to_ack = Submit 1 (Set 0 1) ∷ Submit 2 (Set 0 2) ∷ Receive 1 1 ∷ Receive 2 5 ∷ Begin 1 ∷ Begin 2 ∷ Enter 1 ∷ Enter 2 ∷ Receive 2 7
    ∷ Receive 2 8 ∷ Choose 2 1 ∷ Receive 1 9 ∷ Adopt 1 ∷ Receive 2 10 ∷ Adopt 2 ∷ []

-- it gets that ack three times
repeated_ack : List Step
repeated_ack = to_ack ++ Receive 2 12 ∷ Repeat 2 12 ∷ Receive 2 12 ∷ Repeat 2 12 ∷ Receive 2 12 ∷ []

-- the first envelope to member 2 is lost
lost : List Step
lost = Submit 1 (Set 0 7) ∷ Lose 2 2 ∷ []

-- all that these compute with
computing : Unit {0}
unfolding runs_with sent_by_three to_ack repeated_ack lost stamp is_gone
computing = tt

-- an ack that is got again doesn't count again
acked_by_one : after_in 3 4 repeated_ack (Conclude 2) ≡ Some TooFew
acked_by_one = unfold computing in refl

acked_by_two : sent_by_three (repeated_ack ++ Receive 2 13 ∷ Conclude 2 ∷ []) ≡ Some 16
acked_by_two = unfold computing in refl

-- what is lost is not received; it may be repeated, and then is received and relayed
refused_lost : map (after_in 3 4 lost) (Receive 2 2 ∷ Lose 2 2 ∷ Repeat 2 1 ∷ Repeat 1 1 ∷ Repeat 2 4 ∷ Repeat 2 2 ∷ []) ≡ Some NotWaiting
    ∷ Some NotWaiting ∷ Some NotSent ∷ Some StillWaiting ∷ Some NotSent ∷ None ∷ []
refused_lost = unfold computing in refl

received_none : option_map (λ g. short (received_by g 2)) (run (group_of 3) lost) ≡ Some []
received_none = unfold computing in refl

relayed_late : sent_by_three (lost ++ Repeat 2 2 ∷ Receive 2 2 ∷ []) ≡ Some 6
relayed_late = unfold computing in refl

-- a serial waits where the last step that took it from the line or put it back put it back; it then stands last
lines_of_two : map (λ steps. waiting (group_of 3) (lost ++ Submit 3 (Set 0 1) ∷ steps) 2)
    ([] ∷ (Repeat 2 2 ∷ []) ∷ (Repeat 2 2 ∷ Lose 2 2 ∷ []) ∷ (Repeat 2 2 ∷ Receive 2 2 ∷ []) ∷ []) ≡ (5 ∷ []) ∷ (5 ∷ 2 ∷ []) ∷ (5 ∷ [])
    ∷ (5 ∷ 8 ∷ []) ∷ []
lines_of_two = unfold computing in refl

-- it is gone in between, and its stamp is the number of the step that repeated it last
gone_from_two : map (λ steps. is_gone (record_of 3 (lost ++ steps)) 2 2)
    ([] ∷ (Repeat 2 2 ∷ []) ∷ (Repeat 2 2 ∷ Lose 2 2 ∷ []) ∷ (Repeat 2 2 ∷ Receive 2 2 ∷ []) ∷ []) ≡ true ∷ false ∷ true ∷ true ∷ []
gone_from_two = unfold computing in refl

stamps_of_two : map (stamp (record_of 3 (lost ++ Submit 3 (Set 0 1) ∷ Repeat 2 2 ∷ [])) 2) (5 ∷ 2 ∷ []) ≡ 3 ∷ 4 ∷ []
stamps_of_two = unfold computing in refl
