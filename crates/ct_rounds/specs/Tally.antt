-- What is kept of one round.
use Rattle.std.specs.Prelude.{◌≡◌, ℕ, ◌&&◌, ◌||◌, ◌==◌, nat_lt, if◌then◌else◌, List, Option, Some, None, option_map, filter, map}
use Rattle.std.specs.List.{slice_index_or}
use Rattle.ct_names.specs.Group.{everyone}
use Rattle.ct_names.specs.MemberSet.{has_member}
use Rattle.ct_model.specs.Received.{Heard, Ballots}
use Rattle.ct_rounds.specs.declared.tally.Estimate.{Estimate}
use Rattle.ct_rounds.specs.declared.tally.Best.{Best}
use Rattle.ct_rounds.specs.Best.{best_estimate}

-- an estimate as one that was heard from p
abbrev pub heard_as : ℕ → Estimate → Heard ℕ
heard_as p e = record { member = p; value = e.value; ts = e.ts }

-- the estimate of p, where they stand by member
abbrev pub heard_at : List Estimate → ℕ → Heard ℕ
heard_at estimates p = heard_as p (slice_index_or estimates p (record { value = 0; ts = 0 }))

abbrev pub ballots_of : List ℕ → List Estimate → Option ℕ → List ℕ → List ℕ → Ballots ℕ
ballots_of heard estimates proposal acked replied = record {
  estimates = map (heard_at estimates) heard;
  proposal = proposal;
  acked = acked;
  replied = replied;
}

-- a set of members, rising
abbrev pub IsSet : List ℕ → Type 0
IsSet set = set ≡ filter (has_member set) everyone

abbrev pub mark_of : Heard ℕ → Best
mark_of e = record { member = e.member; ts = e.ts }

-- the one with the larger ts, and of two alike that of the lesser member
abbrev pub better : Option Best → Best → Best
better None new = new
better (Some best) new =
    if nat_lt best.ts new.ts || ((best.ts == new.ts) && nat_lt new.member best.member) then new else best

-- the sets are sets, and the best estimate is known
pub record IsTally (heard : List ℕ) (estimates : List Estimate) (acked replied : List ℕ) (best : Option Best) : Type 0 where
  pub heard_is : IsSet heard
  pub acked_is : IsSet acked
  pub replied_is : IsSet replied
  pub best_is : best ≡ option_map mark_of (best_estimate (ballots_of heard estimates None acked replied))
