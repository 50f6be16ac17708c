-- What a step of consensus leaves, where its row is there.
use Rattle.std.proofs.Common.{arith}
use Rattle.std.proofs.Common.{◌≡◌, ℕ, ◌+◌, true, false, Option, Some, None}
use Rattle.std.specs.Prelude.{is_some}
use Rattle.ct_names.specs.Group.{is_majority}
use Rattle.ct_names.specs.Value.{Value}
use Rattle.ct_model.specs.AtValue.{Standing, Turn}
use Rattle.ct_model.specs.Setting.{Setting}
use Rattle.ct_model.specs.State.{Member}
use Rattle.ct_model.specs.Received.{Heard, Ballots, heard, estimate_from, is_largest, decided}
use Rattle.ct_model.specs.Phases.{is_rest, is_gather, is_wait, is_tally, entered, enter, chosen, choose, adopted, adopt, suspected, suspect}
use Rattle.ct_model.specs.Phases.{concluded, conclude}
use Rattle.ct_model.specs.Next.{Outcome, turned, round_row, begin, begin_row, deliver, deliver_row, follow, follow_row, proposed, is_empty}
use Rattle.ct_model.proofs.Basics.Options.{some-of}

-- a step of a round was taken at this standing, with this turn
pub record IsTurned (m : Member) (step : Standing → Option Turn) (o : Outcome) : Type 0 where
  pub standing : Standing
  pub is_open : m.current ≡ Some standing
  pub turn : Turn
  pub taken : step standing ≡ Some turn
  pub gives : turned m turn ≡ o

pub round_row-is : (m : Member) (step : Standing → Option Turn) (o : Outcome) → round_row m step ≡ Some o → IsTurned m step o
round_row-is m step o e = grind arith

-- why Begin, Deliver and Follow are enabled
pub record IsReady (s : Setting) (m : Member) : Type 0 where
  pub idle : m.current ≡ None
  pub something : is_empty (proposed s m) ≡ false

pub record IsDue (m : Member) : Type 0 where
  pub standing : Standing
  pub is_open : m.current ≡ Some standing
  pub value : Value
  pub decision : decided m.got m.last ≡ Some value

pub record IsBehind (m : Member) : Type 0 where
  pub idle : m.current ≡ None
  pub value : Value
  pub decision : decided m.got (m.last + 1) ≡ Some value

pub begin_row-is : (s : Setting) (p : ℕ) (m : Member) (o : Outcome) → begin_row s p m ≡ Some o → IsReady s m × (begin s p m ≡ o)
begin_row-is s p m o e = grind arith

pub deliver_row-is : (m : Member) (o : Outcome) → deliver_row m ≡ Some o → (d : IsDue m) × (deliver m d.value ≡ o)
deliver_row-is m o e =
    let c = some-of m.current (grind arith) in
    let v = some-of (decided m.got m.last) (grind arith) in
    (record { standing = c.0; is_open = c.1; value = v.0; decision = v.1 }, grind arith)

pub follow_row-is : (m : Member) (o : Outcome) → follow_row m ≡ Some o → (b : IsBehind m) × (follow m b.value ≡ o)
follow_row-is m o e =
    let v = some-of (decided m.got (m.last + 1)) (grind arith) in
    (record { idle = grind arith; value = v.0; decision = v.1 }, grind arith)

-- the five turns

pub record IsEntered (n me k : ℕ) (decision : Option Value) (c : Standing) (t : Turn) : Type 0 where
  pub rests : is_rest c.phase ≡ true
  pub undecided : is_some decision ≡ false
  pub gives : entered n me k c ≡ t

pub enter-is : (n me k : ℕ) (decision : Option Value) (c : Standing) (t : Turn) → enter n me k decision c ≡ Some t →
    IsEntered n me k decision c t
unfolding enter
enter-is n me k decision c t e = grind arith

pub record IsChosen (n k : ℕ) (t : Ballots Value) (c : Standing) (from : ℕ) (turn : Turn) : Type 0 where
  pub best : Heard Value
  pub from_is : estimate_from t from ≡ Some best
  pub gathers : is_gather c.phase ≡ true
  pub majority : is_majority n (heard t) ≡ true
  pub largest : is_largest t best.ts ≡ true
  pub gives : chosen k c best ≡ turn

pub choose-is : (n k : ℕ) (t : Ballots Value) (c : Standing) (from : ℕ) (turn : Turn) → choose n k t c from ≡ Some turn →
    IsChosen n k t c from turn
unfolding choose
choose-is n k t c from turn e = grind arith

pub record IsAdopted (n me k : ℕ) (t : Ballots Value) (c : Standing) (turn : Turn) : Type 0 where
  pub value : Value
  pub proposal_is : t.proposal ≡ Some value
  pub waits : is_wait c.phase ≡ true
  pub gives : adopted n me k c value ≡ turn

pub adopt-is : (n me k : ℕ) (t : Ballots Value) (c : Standing) (turn : Turn) → adopt n me k t c ≡ Some turn → IsAdopted n me k t c turn
unfolding adopt
adopt-is n me k t c turn e = grind arith

pub record IsSuspected (n me k : ℕ) (t : Ballots Value) (c : Standing) (turn : Turn) : Type 0 where
  pub waits : is_wait c.phase ≡ true
  pub no_proposal : is_some t.proposal ≡ false
  pub gives : suspected n me k c ≡ turn

pub suspect-is : (n me k : ℕ) (t : Ballots Value) (c : Standing) (turn : Turn) → suspect n me k t c ≡ Some turn →
    IsSuspected n me k t c turn
unfolding suspect
suspect-is n me k t c turn e = grind arith

pub record IsConcluded (n k : ℕ) (t : Ballots Value) (c : Standing) (turn : Turn) : Type 0 where
  pub tallies : is_tally c.phase ≡ true
  pub majority : is_majority n t.replied ≡ true
  pub gives : concluded n k t c ≡ turn

pub conclude-is : (n k : ℕ) (t : Ballots Value) (c : Standing) (turn : Turn) → conclude n k t c ≡ Some turn → IsConcluded n k t c turn
unfolding conclude
conclude-is n k t c turn e = grind arith
