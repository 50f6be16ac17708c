-- The state after a step.
use Rattle.std.specs.Prelude.{ℕ, ◌+◌, ◌-◌, Bool, true, false, not, ◌&&◌, ◌==◌, if◌then◌else◌, List, [], ◌∷◌, ◌++◌, Option, Some, None}
use Rattle.std.specs.Prelude.{is_none, option_and_then, option_map, slice_set, take, unwrap_or}
use Rattle.ct_names.specs.declared.command.Command.{Command}
use Rattle.ct_names.specs.Command.{is_good}
use Rattle.ct_names.specs.Group.{is_member, coordinator}
use Rattle.ct_names.specs.Message.{Message}
use Rattle.ct_names.specs.Value.{Value, has, minus, ordered}
use Rattle.ct_model.specs.declared.moves.Move.{Move}
use Rattle.ct_model.specs.declared.moves.Move.TheVariants as moves
use Rattle.ct_model.specs.declared.phase.Phase.TheVariants.{Rest}
use Rattle.ct_model.specs.declared.step.Step.{Step}
use Rattle.ct_model.specs.declared.step.Step.TheVariants.{Submit, Receive, Begin, Enter, Choose, Adopt, Suspect, Conclude, Deliver}
use Rattle.ct_model.specs.declared.step.Step.TheVariants.{Follow, Crash, Postpone, Lose, Repeat}
use Rattle.ct_model.specs.Setting.{Setting}
use Rattle.ct_model.specs.When.{when}
use Rattle.ct_model.specs.Wire.{envelopes}
use Rattle.ct_model.specs.declared.wire.Wire.TheVariants.{Data, Dec}
use Rattle.ct_model.specs.declared.mail.Mail.TheVariants.{Nobody, All}
use Rattle.ct_model.specs.State.{Member, Proposal, State, member, delivered, is_crashed, submissions, at_serial}
use Rattle.ct_model.specs.Received.{Ballots, received, decided, has_decision, ballots}
use Rattle.ct_model.specs.AtValue.{Wire, Envelope, Mail, Standing, Turn}
use Rattle.ct_model.specs.Moves.{turn_of}
use Rattle.ct_model.specs.Actor.{actor}

-- what a step leaves: its member as it is then, the messages submitted and the values proposed, and
-- what is sent
pub record Outcome : Type 0 where
  pub member : Member
  pub submitted : List Message
  pub proposals : List Proposal
  pub mail : Mail

-- an outcome that submits and proposes nothing
abbrev pub plain : Member → Mail → Outcome
plain m mail = record { member = m; submitted = []; proposals = []; mail = mail }

-- the next message of an origin
abbrev pub next_message : List Message → ℕ → Command → Message
next_message submitted p c = record { origin = p; number = 1 + submissions submitted p; command = c }

abbrev pub submit : State → ℕ → Member → Command → Outcome
submit g p m c = record {
  member = m;
  submitted = next_message g.submitted p c ∷ [];
  proposals = [];
  mail = All (Data (next_message g.submitted p c));
}

-- the wire of an envelope that goes to p
abbrev pub addressed : ℕ → Envelope → Option Wire
addressed p e = when (e.to == p) e.wire

-- the wire that p gets from a serial
unfoldable pub wire_to : State → ℕ → ℕ → Option Wire
wire_to g p k = option_and_then (addressed p) (at_serial g.sent k)

-- p passes on what it gets for the first time and didn't send to all before
unfoldable pub is_relayed : Setting → ℕ → List Wire → Wire → Bool
is_relayed s p got (Data m) = not (has (received got) m) && not (m.origin == p)
is_relayed s p got (Dec k r v) = not (has_decision got k r) && not (coordinator s.members r == p)
is_relayed s p got _ = false

abbrev pub receive : Setting → ℕ → Member → Wire → Outcome
receive s p m w = plain (record m { got = m.got ++ w ∷ [] }) (if is_relayed s p m.got w then All w else Nobody)

-- what p received and didn't deliver
unfoldable pub undelivered : Member → Value
undelivered m = ordered (minus (received m.got) (delivered m))

-- what it proposes of that: the first messages, as many as the bound, or all where they are fewer
unfoldable pub proposed : Setting → Member → Value
proposed s m = take s.bound (undelivered m)

abbrev pub is_empty : {A : Type 0} → List A → Bool
is_empty [] = true
is_empty (x ∷ xs) = false

-- p opens its next instance, with what it proposes as its estimate
abbrev pub begin : Setting → ℕ → Member → Outcome
begin s p m = record {
  member = record m { last = m.last + 1; current = Some (record { round = 0; phase = Rest; estimate = proposed s m; ts = 0 }) };
  submitted = [];
  proposals = record { member = p; instance = m.last + 1; value = proposed s m } ∷ [];
  mail = Nobody;
}

-- the row of that: p has no instance open, and something to propose. None: it isn't enabled
abbrev pub begin_row : Setting → ℕ → Member → Option Outcome
begin_row s p m = when (is_none m.current && not (is_empty (proposed s m))) (begin s p m)

-- the member after a step of a round
abbrev pub turned : Member → Turn → Outcome
turned m t = plain (record m { current = Some t.after }) t.mail

-- a step of a round, at the member's standing in its open instance. None: no instance is open, or it isn't enabled
abbrev pub round_row : Member → (Standing → Option Turn) → Option Outcome
round_row m step = option_map (turned m) (option_and_then step m.current)

-- what p got for its round
abbrev pub own_ballots : Member → Standing → Ballots Value
own_ballots m c = ballots m.got m.last c.round

-- the turn of a step of a round, for p, the member m of a group of n. None: it isn't enabled
abbrev pub turn_at : ℕ → ℕ → Member → Move → Standing → Option Turn
turn_at n p m action c = turn_of n p m.last (decided m.got m.last) (own_ballots m c) c action

-- what is delivered of a decision: what the member didn't deliver yet, in order
unfoldable pub batch_of : Member → Value → List Message
batch_of m v = ordered (minus v (delivered m))

-- the instance is closed, and its decision is delivered; nothing is submitted, proposed or sent
abbrev pub close : Member → ℕ → Value → Outcome
close m instance v = plain (record m {
  last = instance;
  current = None;
  batches = m.batches ++ record { instance = instance; messages = batch_of m v } ∷ [];
}) Nobody

-- so it is with the open instance
abbrev pub deliver : Member → Value → Outcome
deliver m v = close m m.last v

-- the row of that: an instance is open, and its decision was got. None: it isn't enabled
abbrev pub deliver_row : Member → Option Outcome
deliver_row m = option_and_then (λ c. option_map (deliver m) (decided m.got m.last)) m.current

-- the next instance is begun and closed at once
abbrev pub follow : Member → Value → Outcome
follow m v = close m (m.last + 1) v

-- the row of that: no instance is open, and the next one's decision was got. None: it isn't enabled
abbrev pub follow_row : Member → Option Outcome
follow_row m = option_and_then (λ v. when (is_none m.current) (follow m v)) (decided m.got (m.last + 1))

abbrev pub crash : Member → Outcome
crash m = plain (record m { crashed = true }) Nobody

-- the row of a step that changes nothing but p's waiting line: the serial was sent to p. None: it isn't enabled
abbrev pub line_row : State → ℕ → Member → ℕ → Option Outcome
line_row g p m k = option_map (λ w. plain m Nobody) (wire_to g p k)

-- the row of each step, for its member p as it is. None: the step isn't enabled
abbrev pub row : Setting → State → ℕ → Member → Step → Option Outcome
row s g p m (Submit _ c) = when (is_good c) (submit g p m c)
row s g p m (Receive _ k) = option_map (receive s p m) (wire_to g p k)
row s g p m (Begin _) = begin_row s p m
row s g p m (Enter _) = round_row m (turn_at s.members p m moves.Enter)
row s g p m (Choose _ from) = round_row m (turn_at s.members p m (moves.Choose from))
row s g p m (Adopt _) = round_row m (turn_at s.members p m moves.Adopt)
row s g p m (Suspect _) = round_row m (turn_at s.members p m moves.Suspect)
row s g p m (Conclude _) = round_row m (turn_at s.members p m moves.Conclude)
row s g p m (Deliver _) = deliver_row m
row s g p m (Follow _) = follow_row m
row s g p m (Crash _) = Some (crash m)
row s g p m (Postpone _ k) = line_row g p m k
row s g p m (Lose _ k) = line_row g p m k
row s g p m (Repeat _ k) = line_row g p m k

-- the state after p's step with this outcome
unfoldable pub after : Setting → State → ℕ → Outcome → State
after s g p o = record {
  sent = g.sent ++ envelopes s.members o.mail;
  submitted = g.submitted ++ o.submitted;
  proposals = g.proposals ++ o.proposals;
  members = slice_set g.members (p - 1) o.member;
}

-- p is of the group, and up
abbrev pub can_act : Setting → State → ℕ → Bool
can_act s g p = is_member s.members p && not (is_crashed g p)

-- the state after a step. None: the step isn't enabled
unfoldable pub next : Setting → State → Step → Option State
next s g step =
    if can_act s g (actor step)
    then option_map (after s g (actor step)) (row s g (actor step) (member g (actor step)) step)
    else None

-- the same, and the old state where the step isn't enabled
unfoldable pub stepped : Setting → State → Step → State
stepped s g step = unwrap_or (next s g step) g
