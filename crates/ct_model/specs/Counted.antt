-- The ballots of a round after one more wire.
use Rattle.std.specs.Prelude.{ℕ, Bool, false, Option, ◌&&◌, ◌==◌, nat_lt, if◌then◌else◌, List, [], ◌∷◌, Some, None}
use Rattle.std.specs.Option.{option_or, option_map_or}
use Rattle.ct_names.specs.declared.limit.TheConstants.{MAX_MEMBERS}
use Rattle.ct_names.specs.Group.{IsMember}
use Rattle.ct_names.specs.MemberSet.{with_member}
use Rattle.ct_model.specs.Wire.{Wire, instance_of, vote_round}
use Rattle.ct_model.specs.declared.wire.Wire.TheVariants.{Est, Prop, Ack, Nack}
use Rattle.ct_model.specs.Received.{Heard, Ballots}

-- the number is there, and this one
abbrev pub is_at : ℕ → Option ℕ → Bool
is_at n o = option_map_or (λ m. m == n) o false

-- the wire is a vote of this round of the instance
abbrev pub is_vote_in : {V : Type 0} → ℕ → ℕ → Wire V → Bool
is_vote_in instance round w = option_map_or (λ r. is_at instance (instance_of w) && (r == round)) (vote_round w) false

-- nothing was got
abbrev pub no_ballots : {V : Type 0} → Ballots V
no_ballots = record { estimates = []; proposal = None; acked = []; replied = [] }

-- the estimates, by member, with this one, unless its member was heard
abbrev pub with_estimate : {V : Type 0} → Heard V → List (Heard V) → List (Heard V)
with_estimate e [] = e ∷ []
with_estimate e (other ∷ es) =
    if nat_lt e.member other.member then e ∷ other ∷ es else if e.member == other.member then other ∷ es else (other ∷ with_estimate e es)

abbrev pub count_estimate : {V : Type 0} → Heard V → Ballots V → Ballots V
count_estimate e t = record t { estimates = with_estimate e t.estimates }

-- the first proposal counts
abbrev pub count_proposal : {V : Type 0} → V → Ballots V → Ballots V
count_proposal v t = record t { proposal = option_or t.proposal (Some v) }

abbrev pub count_ack : {V : Type 0} → ℕ → Ballots V → Ballots V
count_ack p t = record t { acked = with_member t.acked p; replied = with_member t.replied p }

abbrev pub count_nack : {V : Type 0} → ℕ → Ballots V → Ballots V
count_nack p t = record t { replied = with_member t.replied p }

-- the ballots of the wire's round with the wire, which counts if it is a vote
abbrev pub count : {V : Type 0} → Wire V → Ballots V → Ballots V
count (Est k r p v ts) t = count_estimate (record { member = p; value = v; ts = ts }) t
count (Prop k r v) t = count_proposal v t
count (Ack k r p) t = count_ack p t
count (Nack k r p) t = count_nack p t
count _ t = t

-- the ballots of a round of the wire's instance with the wire
abbrev pub count_at : {V : Type 0} → Ballots V → ℕ → Wire V → Ballots V
count_at t round w = if is_at round (vote_round w) then count w t else t

-- the ballots of a round of the instance with the wire, which counts if it is of that round
abbrev pub count_in : {V : Type 0} → Ballots V → ℕ → ℕ → Wire V → Ballots V
count_in t instance round w = if is_vote_in instance round w then count w t else t

-- a wire that names its sender names one of everyone
abbrev pub NamesSomebody : {V : Type 0} → Wire V → Type 0
NamesSomebody (Est k r p v t) = IsMember MAX_MEMBERS p
NamesSomebody (Ack k r p) = IsMember MAX_MEMBERS p
NamesSomebody (Nack k r p) = IsMember MAX_MEMBERS p
NamesSomebody _ = Unit {0}
