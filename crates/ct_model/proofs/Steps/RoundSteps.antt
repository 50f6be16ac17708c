-- What holds of each step of a round alike.
use Rattle.std.proofs.Common.{◌≡◌, ℕ, ◌+◌, ◌≤◌, Bool, length, arith, List, [], ◌∷◌, ◌++◌, refl, ap, ◌∙◌}
use Rattle.std.proofs.Common.{Option, Some, None}
use Rattle.std.specs.Prelude.{nat_lt, ◌&&◌, is_some, option_map, if◌then◌else◌}
use Rattle.ct_names.specs.declared.limit.Limit.TheVariants.{Rounds}
use Rattle.ct_names.specs.declared.refusal.Refusal.TheVariants.{Full, Decided}
use Rattle.ct_model.specs.declared.moves.Move.{Move}
use Rattle.ct_model.specs.declared.moves.Move.TheVariants.{Enter, Choose, Adopt, Suspect, Conclude}
use Rattle.ct_model.specs.Actor.{actor}
use Rattle.ct_names.specs.Group.{is_majority}
use Rattle.ct_names.specs.Value.{Value}
use Rattle.ct_model.specs.AtValue.{Standing as AtSets, Turn}
use Rattle.ct_model.specs.Wire.{envelopes}
use Rattle.ct_model.specs.declared.wire.Wire.TheVariants.{Prop, Dec}
use Rattle.ct_model.specs.Phases.{entered, enter, chosen, choose, adopted, adopt, suspected, suspect, concluded, conclude}
use Rattle.ct_model.specs.Faults.{enter_faults, choose_faults, adopt_faults, suspect_faults, conclude_faults, faults_of}
use Rattle.ct_model.proofs.Basics.Options.{some-of}
use Rattle.std.specs.Option.{option_map_or}
use Rattle.std.proofs.lemmas.Bool.Decides.{nat_tests}
use Rattle.ct_names.specs.declared.limit.TheConstants.{MAX_ROUNDS}
use Rattle.ct_model.specs.Setting.{Setting}
use Rattle.ct_model.specs.State.{State, Member, Standing, member}
use Rattle.ct_model.specs.Received.{Heard, Ballots, estimate_from, decided}
use Rattle.ct_model.specs.Mapped.{ballots_map, standing_map, turn_map}
use Rattle.ct_model.specs.Moves.{step_of, turn_of, sent_by, is_enter}
use Rattle.ct_model.specs.Next.{row, round_row, own_ballots, turn_at}
use Rattle.ct_model.specs.Rehearsal.{Rehearsal, state_of}
use Rattle.ct_model.specs.Cause.{at, first_fault, open_tests, faults_at, round_of, tests, or_else, cause, overflow}
use Rattle.ct_model.specs.Lawful.{IsLawful, IsPresent}
use Rattle.ct_model.proofs.Record.Causes.{own_tests}
use Rattle.ct_model.proofs.Record.Limits.{own_tests-is}
use Rattle.ct_model.proofs.Steps.Rounds.{open-at, round_row-some, cause-turned}
use Rattle.ct_model.proofs.Basics.Serials.{length-all}
use Rattle.ct_model.proofs.Steps.Receive.{either_number}
use Rattle.ct_model.proofs.Numbers.Naturality.{heard-map, estimate_from-map, is_largest-map}
use Rattle.ct_model.specs.Waiting.{line_change}
use Rattle.ct_model.specs.Waiting.LineChange.{Leaves}

-- of the step with its member

pub actor-move : (p : ℕ) (a : Move) → actor (step_of p a) ≡ p
actor-move p a = grind arith

pub line_change-move : (p : ℕ) (a : Move) → line_change (step_of p a) ≡ Leaves
line_change-move p a = grind arith

pub row-move : (s : Setting) (g : State) (p q : ℕ) (m : Member) (a : Move) →
    row s g q m (step_of p a) ≡ round_row m (turn_at s.members q m a)
row-move s g p q m a = grind arith

pub tests-move : (s : Setting) (g : State) (m : Member) (line : List ℕ) (p : ℕ) (a : Move) →
    tests s g m line (step_of p a) ≡ open_tests m (faults_at s.members m a)
tests-move s g m line p a = grind arith

-- a value is only passed on

pub turn-map : {V U : Type 0} (f : V → U) (n me k : ℕ) (d : Option V) (t : Ballots V) (c : Standing V) (a : Move) →
    turn_of n me k (option_map f d) (ballots_map f t) (standing_map f c) a ≡ option_map (turn_map f) (turn_of n me k d t c a)
unfolding enter choose adopt suspect conclude
turn-map f n me k d t c a = grind (arith, estimate_from-map f t, is_largest-map f t, heard-map f t)

pub faults-map : {V U : Type 0} (f : V → U) (n : ℕ) (d : Option V) (t : Ballots V) (c : Standing V) (a : Move) →
    faults_of n (option_map f d) (ballots_map f t) (standing_map f c) a ≡ faults_of n d t c a
faults-map f n d t c a = grind (arith, estimate_from-map f t, is_largest-map f t, heard-map f t)

-- where none of its tests fires

module _ (n me k : ℕ) (d : Option Value) (t : Ballots Value) (c : AtSets) where
  enter-free : first_fault (enter_faults c ++ at Decided (is_some d) ∷ []) ≡ None → enter n me k d c ≡ Some (entered n me k c)
  unfolding enter
  enter-free h = grind arith

  -- the estimate that was heard has the largest ts
  choose-free : (from : ℕ) → first_fault (choose_faults n t c from) ≡ None → (e : Heard Value) × (choose n k t c from ≡ Some (chosen k c e))
  unfolding choose
  choose-free from h = let e = some-of (estimate_from t from) (grind arith) in (e.0, grind (arith, e.1))

  adopt-free : first_fault (adopt_faults t c) ≡ None → (v : Value) × (adopt n me k t c ≡ Some (adopted n me k c v))
  unfolding adopt
  adopt-free h = let v = some-of t.proposal (grind arith) in (v.0, grind (arith, v.1))

  suspect-free : first_fault (suspect_faults t c) ≡ None → suspect n me k t c ≡ Some (suspected n me k c)
  unfolding suspect
  suspect-free h = grind arith

  conclude-free : first_fault (conclude_faults n t c) ≡ None → conclude n k t c ≡ Some (concluded n k t c)
  unfolding conclude
  conclude-free h = grind arith

-- it is taken: its turn, the round then, and how many envelopes it sends
pub record IsFree (n p k : ℕ) (d : Option Value) (t : Ballots Value) (c : AtSets) (a : Move) : Type 0 where
  pub turn : Turn
  pub turns : turn_of n p k d t c a ≡ Some turn
  pub round : turn.after.round ≡ (if is_enter a then c.round + 1 else c.round)
  pub number : length (envelopes n turn.mail) ≡ sent_by n t.acked a

pub turn-free : (n p k : ℕ) (d : Option Value) (t : Ballots Value) (c : AtSets) (a : Move) → first_fault (faults_of n d t c a) ≡ None →
    IsFree n p k d t c a
turn-free n p k d t c Enter h = record { turn = entered n p k c; turns = enter-free n p k d t c h; round = refl; number = refl }
turn-free n p k d t c (Choose from) h =
    let e = choose-free n p k d t c from h in
    record { turn = chosen k c e.0; turns = e.1; round = refl; number = length-all (Prop k c.round e.0.value) n }
turn-free n p k d t c Adopt h =
    let v = adopt-free n p k d t c h in record { turn = adopted n p k c v.0; turns = v.1; round = refl; number = refl }
turn-free n p k d t c Suspect h = record { turn = suspected n p k c; turns = suspect-free n p k d t c h; round = refl; number = refl }
turn-free n p k d t c Conclude h = record {
  turn = concluded n k t c;
  turns = conclude-free n p k d t c h;
  round = refl;
  number = either_number n (Dec k c.round c.estimate) (is_majority n t.acked);
}

within-round : (enters : Bool) (after now : ℕ) → after ≡ (if enters then now + 1 else now) → now ≤ MAX_ROUNDS →
    nat_lt MAX_ROUNDS after ≡ (enters && nat_lt MAX_ROUNDS (now + 1))
within-round enters after now e few = grind (arith, nat_tests)

-- why it is refused then: a limit
module _ (w : Rehearsal) (p : ℕ) (a : Move) where
  -- who takes it: p
  abbrev q : ℕ
  q = actor (step_of p a)

  abbrev m : Member
  m = member (state_of w) q

  limit-same : (b c : Bool) (k l : ℕ) → b ≡ c → k ≡ l
      → or_else (first_fault (at (Full Rounds) b ∷ [])) (overflow w k) ≡ or_else (first_fault (at (Full Rounds) c ∷ [])) (overflow w l)
  limit-same b c k l e f = rw (e, f) refl

  -- the turn that the tests let it take
  abbrev Free : AtSets → Type 0
  Free c = IsFree w.setting.members q m.last (decided m.got m.last) (own_ballots m c) c a

  cause-free : (c : AtSets) → m.current ≡ Some c → Free c → IsLawful w → IsPresent w q → first_fault (own_tests w (step_of p a)) ≡ None
      → cause w (step_of p a)
      ≡ or_else (first_fault (at (Full Rounds) (is_enter a && nat_lt MAX_ROUNDS (c.round + 1)) ∷ []))
      (overflow w (sent_by w.setting.members (own_ballots m c).acked a))
  cause-free c is_open f law present h =
      let is = row-move w.setting (state_of w) p q m a ∙ round_row-some m (turn_at w.setting.members q m a) c f.turn is_open f.turns in
      let few : round_of m ≤ MAX_ROUNDS = law.within.few_rounds q in
      let now : round_of m ≡ c.round = ap (λ o. option_map_or (λ (x : AtSets). x.round) o 0) is_open in
      cause-turned w (step_of p a) f.turn law present is h
      ∙ limit-same _ _ _ _ (within-round (is_enter a) f.turn.after.round c.round f.round (omega (arith, few, now))) f.number

  pub cause-move : (c : AtSets) → (member (state_of w) p).current ≡ Some c → IsLawful w → IsPresent w p
      → first_fault (own_tests w (step_of p a)) ≡ None
      → cause w (step_of p a)
      ≡ or_else (first_fault (at (Full Rounds) (is_enter a && nat_lt MAX_ROUNDS (c.round + 1)) ∷ []))
      (overflow w (sent_by w.setting.members (own_ballots (member (state_of w) p) c).acked a))
  cause-move c e law present h =
      grind (arith, nat_tests, actor-move, own_tests, own_tests-is, tests-move, open-at, cause-free, turn-free, limit-same)
