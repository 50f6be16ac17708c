-- What the turns of one worker come to.
use Rattle.std.specs.Prelude.{◌≡◌, ℕ, zero, suc, Bool, List, Option, Some, slice_get}
use Rattle.ct_detect.specs.declared.ask.Ask.{Ask}
use Rattle.ct_rehearse.specs.Plans.{made_after}
use Rattle.ct_rehearse.specs.Turns.{IsEntry, IsTurn}
use Rattle.ct_rehearse.specs.declared.disturbance.Disturbance.{Disturbance}
use Rattle.ct_rehearse.specs.declared.made.Made.{Made}
use Rattle.ct_rehearse.specs.declared.outcome.Turn.{Turn}

-- of no turns
abbrev pub no_turns : Made
no_turns = record { steps = 0; resting = 0; refused = 0 }

-- so many turns of the member, one after another, came to this
unfoldable pub HasDriven : List ℕ → ℕ → ℕ → Made → Type 0
HasDriven cells p zero made = made ≡ no_turns
HasDriven cells p (suc n) made =
    (before : Made) × (asked : Option (Ask × Bool)) × (answered : Option (Ask × Bool)) × (turn : Turn)
    × HasDriven cells p n before × IsTurn cells p asked answered turn × (made ≡ made_after before turn)

-- so many entries of the script, one after another, came to this
unfoldable pub HasFollowed : List ℕ → List Disturbance → ℕ → Made → Type 0
HasFollowed cells script zero made = made ≡ no_turns
HasFollowed cells script (suc n) made =
    (before : Made) × (entry : Disturbance) × (turn : Turn)
    × HasFollowed cells script n before × (slice_get script n ≡ Some entry) × IsEntry cells entry turn × (made ≡ made_after before turn)
