-- One turn more of a worker.
use Rattle.std.proofs.Common.{◌≡◌, ℕ, suc, ◌+◌, ◌<◌, Bool, List, Option, get_or, length, refl, arith}
use Rattle.std.proofs.lemmas.Option.{slice_get-get_or}
use Rattle.ct_detect.specs.declared.ask.Ask.{Ask}
use Rattle.ct_rehearse.specs.Plans.{made_after, turns_made}
use Rattle.ct_rehearse.specs.Shares.{Held}
use Rattle.ct_rehearse.specs.Turns.{IsEntry, IsTurn, share_after_turn}
use Rattle.ct_rehearse.specs.Works.{HasDriven, HasFollowed, no_turns}
use Rattle.ct_rehearse.specs.declared.disturbance.Disturbance.{Disturbance}
use Rattle.ct_rehearse.specs.declared.made.Made.{Made}
use Rattle.ct_rehearse.specs.declared.outcome.Turn.{Turn}
use Rattle.ct_rehearse.specs.declared.outcome.Turn.TheVariants.{Stepped, Resting, Refused}

-- what a worker counted, and its share
pub one_more_counted : (share : Held) (made : Made) (n : ℕ) (turn : Turn) → share.parts ≡ 1 → share.steps ≡ made.steps
    → turns_made made ≡ n → ((share_after_turn share turn).parts ≡ 1)
    × ((share_after_turn share turn).steps ≡ (made_after made turn).steps) × (turns_made (made_after made turn) ≡ n + 1)
one_more_counted share made n (Stepped step effect) part steps turns = (part, omega (arith, steps), omega (arith, turns))
one_more_counted share made n Resting part steps turns = (part, steps, omega (arith, turns))
one_more_counted share made n (Refused refusal) part steps turns = (part, steps, omega (arith, turns))

pub no_turns_made : (cells : List ℕ) (p : ℕ) → HasDriven cells p 0 no_turns
unfolding HasDriven
no_turns_made cells p = refl

pub one_turn_more : (cells : List ℕ) (p n : ℕ) (before : Made) (asked answered : Option (Ask × Bool)) (turn : Turn) →
    HasDriven cells p n before → IsTurn cells p asked answered turn → HasDriven cells p (n + 1) (made_after before turn)
unfolding HasDriven
one_turn_more cells p n before asked answered turn has is =
    let next : n + 1 ≡ suc n = omega arith in
    rw next (before, asked, answered, turn, has, is, refl)

pub no_entries_made : (cells : List ℕ) (script : List Disturbance) → HasFollowed cells script 0 no_turns
unfolding HasFollowed
no_entries_made cells script = refl

pub one_entry_more : (cells : List ℕ) (script : List Disturbance) (n : ℕ) (before : Made) (d : Disturbance) (turn : Turn) →
    n < length script → HasFollowed cells script n before → IsEntry cells (get_or script n d) turn
    → HasFollowed cells script (n + 1) (made_after before turn)
unfolding HasFollowed
one_entry_more cells script n before d turn within has is =
    let next : n + 1 ≡ suc n = omega arith in
    rw next (before, get_or script n d, turn, has, slice_get-get_or script n d within, is, refl)
