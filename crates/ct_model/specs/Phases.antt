-- The five steps of a round (Chandra and Toueg, section 6.2), for the member `me` of a group of n that has the instance
-- k open, over the ballots t of its round and its standing c there. None: the step isn't enabled.
use Rattle.std.specs.Prelude.{ℕ, ◌+◌, Bool, true, false, not, ◌&&◌, ◌==◌, if◌then◌else◌, Option, is_some, option_and_then}
use Rattle.ct_names.specs.Group.{coordinator}
use Rattle.ct_model.specs.declared.phase.Phase.{Phase}
use Rattle.ct_model.specs.declared.phase.Phase.TheVariants.{Rest, Gather, Wait, Tally}
use Rattle.ct_names.specs.Group.{is_majority}
use Rattle.ct_model.specs.When.{when}
use Rattle.ct_model.specs.declared.wire.Wire.TheVariants.{Est, Prop, Ack, Nack, Dec}
use Rattle.ct_model.specs.declared.mail.Mail.TheVariants.{Nobody, One, All}
use Rattle.ct_model.specs.State.{Standing, Turn}
use Rattle.ct_model.specs.Received.{Heard, Ballots, heard, estimate_from, is_largest}

abbrev pub is_rest : Phase → Bool
is_rest Rest = true
is_rest _ = false

abbrev pub is_gather : Phase → Bool
is_gather Gather = true
is_gather _ = false

abbrev pub is_wait : Phase → Bool
is_wait Wait = true
is_wait _ = false

abbrev pub is_tally : Phase → Bool
is_tally Tally = true
is_tally _ = false

-- the phase of a round at its beginning
abbrev pub first_phase : ℕ → ℕ → ℕ → Phase
first_phase n me round = if coordinator n round == me then Gather else Wait

-- the phase after a reply
abbrev pub replied_phase : ℕ → ℕ → ℕ → Phase
replied_phase n me round = if coordinator n round == me then Tally else Rest

-- the next round begins: its coordinator gets the estimate
abbrev pub entered : {V : Type 0} → ℕ → ℕ → ℕ → Standing V → Turn V
entered n me k c = record {
  after = record { round = c.round + 1; phase = first_phase n me (c.round + 1); estimate = c.estimate; ts = c.ts };
  mail = One (coordinator n (c.round + 1)) (Est k (c.round + 1) me c.estimate c.ts);
}

-- the decision is that of the open instance
unfoldable pub enter : {V : Type 0} → ℕ → ℕ → ℕ → Option V → Standing V → Option (Turn V)
enter n me k decision c = when (is_rest c.phase && not (is_some decision)) (entered n me k c)

-- the coordinator proposes what it heard
abbrev pub chosen : {V : Type 0} → ℕ → Standing V → Heard V → Turn V
chosen k c e = record {
  after = record { round = c.round; phase = Wait; estimate = e.value; ts = c.ts };
  mail = All (Prop k c.round e.value);
}

-- a majority was heard, and nobody with a larger ts than `from`
unfoldable pub choose : {V : Type 0} → ℕ → ℕ → Ballots V → Standing V → ℕ → Option (Turn V)
choose n k t c from =
    option_and_then (λ e. when (is_gather c.phase && is_majority n (heard t) && is_largest t e.ts) (chosen k c e)) (estimate_from t from)

-- the member takes the proposal over, and acks it
abbrev pub adopted : {V : Type 0} → ℕ → ℕ → ℕ → Standing V → V → Turn V
adopted n me k c v = record {
  after = record { round = c.round; phase = replied_phase n me c.round; estimate = v; ts = c.round };
  mail = One (coordinator n c.round) (Ack k c.round me);
}

-- the coordinator's proposal came
unfoldable pub adopt : {V : Type 0} → ℕ → ℕ → ℕ → Ballots V → Standing V → Option (Turn V)
adopt n me k t c = option_and_then (λ v. when (is_wait c.phase) (adopted n me k c v)) t.proposal

-- the member keeps its estimate, and sends a nack
abbrev pub suspected : {V : Type 0} → ℕ → ℕ → ℕ → Standing V → Turn V
suspected n me k c = record {
  after = record { round = c.round; phase = replied_phase n me c.round; estimate = c.estimate; ts = c.ts };
  mail = One (coordinator n c.round) (Nack k c.round me);
}

-- no proposal came
unfoldable pub suspect : {V : Type 0} → ℕ → ℕ → ℕ → Ballots V → Standing V → Option (Turn V)
suspect n me k t c = when (is_wait c.phase && not (is_some t.proposal)) (suspected n me k c)

-- the round is over: where a majority acked, the coordinator sends the decision
abbrev pub concluded : {V : Type 0} → ℕ → ℕ → Ballots V → Standing V → Turn V
concluded n k t c = record {
  after = record { round = c.round; phase = Rest; estimate = c.estimate; ts = c.ts };
  mail = if is_majority n t.acked then All (Dec k c.round c.estimate) else Nobody;
}

-- a majority replied
unfoldable pub conclude : {V : Type 0} → ℕ → ℕ → Ballots V → Standing V → Option (Turn V)
conclude n k t c = when (is_tally c.phase && is_majority n t.replied) (concluded n k t c)
