-- Where no hindrance is behind the first test, the state is at rest.
use Rattle.std.proofs.lemmas.Bool.Decides.{nat_tests}
use Rattle.std.proofs.lemmas.Bool.{cases_Bool}
use Rattle.std.proofs.Common.{◌≡◌, ℕ, zero, suc, ◌<◌, ◌≤◌, Bool, true, false, List, [], ◌∷◌, length, Option, Some, None, refl}
use Rattle.std.proofs.Common.{inl, inr, arith}
use Rattle.std.specs.Prelude.{if◌then◌else◌, slice_get}
use Rattle.std.specs.List.{list_any}
use Rattle.std.specs.Option.{option_or}
use Rattle.ct_names.specs.Group.{IsMember, members}
use Rattle.ct_names.specs.Membership.{IsIn}
use Rattle.ct_names.proofs.Lists.{found-list_any, found-find}
use Rattle.ct_model.specs.AtValue.{Envelope, Standing}
use Rattle.ct_model.specs.Lawful.{IsLawful}
use Rattle.ct_model.specs.Mapped.{without_value}
use Rattle.ct_model.specs.Next.{own_ballots}
use Rattle.ct_model.specs.Received.{Heard, is_largest}
use Rattle.ct_model.specs.Rehearsal.{Rehearsal, state_of}
use Rattle.ct_model.specs.Relayed.{IsArrived}
use Rattle.ct_model.specs.Setting.{Setting}
use Rattle.ct_model.specs.State.{State, at_serial, is_crashed, member}
use Rattle.ct_model.specs.declared.step.Step.{Step}
use Rattle.ct_model.specs.declared.step.Step.TheVariants.{Adopt, Begin, Choose, Conclude, Deliver, Enter, Follow, Receive}
use Rattle.ct_model.specs.declared.wire.Wire.TheVariants.{Est}
use Rattle.ct_model.proofs.Basics.Groups.{coordinator_is}
use Rattle.ct_model.proofs.Basics.Options.{made-map, made-then}
use Rattle.ct_model.proofs.Consensus.Facts.{IsFoundedEst}
use Rattle.ct_model.proofs.Consensus.Readings.{estimates-got}
use Rattle.ct_model.proofs.Consensus.Runs.{Holds-run}
use Rattle.ct_rest.specs.Rest.{IsAtRest, IsDone, IsLedByUp, IsUp}
use Rattle.ct_rounds.specs.Best.{best, best_estimate}
use Rattle.ct_world.specs.Driving.{best_heard}
use Rattle.ct_choices.specs.Choices.{has_crashed}
use Rattle.ct_progress.specs.Progress.{is_settled}
use Rattle.ct_progress.specs.Stuck.{IsUpIn}
use Rattle.ct_play.specs.Picking.{sender_of}
use Rattle.ct_play.specs.Played.{Played}
use Rattle.ct_settled.specs.declared.hindrance.Hindrance.{Hindrance}
use Rattle.ct_settled.specs.Hindrance.{acts, are_settled, awaits, choices, first_lost, first_of, hindered, hindrance, is_enough}
use Rattle.ct_settled.specs.Hindrance.{is_lost, is_receipt, letter, lost, lost_at, obstacle, told, was_received}
use Rattle.ct_settled.specs.Settled.{AreDone, IsOfWorld}
use Rattle.ct_settled.proofs.Blocked.{IsOff, blocked, own_steps, present_of}
use Rattle.ct_settled.proofs.Firsts.{all_at, all_from, first_none, in_members}

-- whom a member heard is of its group
best_is : (w : Rehearsal) (p q : ℕ) → IsLawful w → IsUpIn w p → best_heard (member (state_of w) p) ≡ Some q →
    IsMember w.setting.members q
best_is w p q law up e =
    let holds = Holds-run w.setting w.steps (state_of w) law.runs in
    let m = member (state_of w) p in
    let c = made-then (λ (c : Standing). best (own_ballots m c)) m.current q e in
    let b = made-map (λ (e : Heard _). e.member) (best_estimate (own_ballots m c.from)) q c.gives in
    let x = found-find (λ (e : Heard _). is_largest (own_ballots m c.from) e.ts) b.from (own_ballots m c.from).estimates b.is in
    let got = estimates-got m.got m.last c.from.round b.from x.0 in
    let sent = holds.got p up.member (Est m.last c.from.round b.from.member b.from.value b.from.ts) got in
    let founded : IsFoundedEst w.setting (state_of w) m.last c.from.round b.from.member b.from.value b.from.ts =
    holds.founded (Est m.last c.from.round b.from.member b.from.value b.from.ts) sent in
    rw b.gives at founded.sender

-- nothing of the own steps of a member is told
record IsStill (w : Rehearsal) (p : ℕ) : Type 0 where
  first : (step : Step) → IsIn step (Deliver p ∷ Follow p ∷ Begin p ∷ []) → told w step ≡ None
  choices : (q : ℕ) → IsMember w.setting.members q → told w (Choose p q) ≡ None
  last : (step : Step) → IsIn step (Adopt p ∷ Conclude p ∷ Enter p ∷ []) → told w step ≡ None

or-none : {A : Type 0} (a b : Option A) → option_or a b ≡ None → (a ≡ None) × (b ≡ None)
or-none None b e = (refl, e)
or-none (Some x) b e = absurd (cc)

still : (w : Rehearsal) (p : ℕ) → acts w p ≡ None → IsStill w p
unfolding acts choices
still w p e =
    let early : List Step = Deliver p ∷ Follow p ∷ Begin p ∷ [] in
    let late : List Step = Adopt p ∷ Conclude p ∷ Enter p ∷ [] in
    let choose : ℕ → Option Hindrance = λ q. told w (Choose p q) in
    let all = or-none (first_of (told w) early) (option_or (first_of choose (members w.setting.members)) (first_of (told w) late)) e in
    let rest = or-none (first_of choose (members w.setting.members)) (first_of (told w) late) all.1 in
    record {
      first = λ step h. first_none (told w) step early all.0 h;
      choices = λ q is. first_none choose q (members w.setting.members) rest.0 (in_members w.setting.members q is);
      last = λ step h. first_none (told w) step late rest.1 h;
    }

off : (w : Rehearsal) (p : ℕ) → IsStill w p →
    ((q : ℕ) → best_heard (member (state_of w) p) ≡ Some q → IsMember w.setting.members q) → IsOff w p
off w p s best step h = go (best_heard (member (state_of w) p)) best h
  where
    go : (o : Option ℕ) → ((q : ℕ) → o ≡ Some q → IsMember w.setting.members q) → IsIn step (own_steps p o) → told w step ≡ None
    go None best h = grind (arith, s.first step, s.last step)
    go (Some q) best h = grind (arith, s.first step, s.last step, s.choices q, best q)

-- nothing is in the way of a member that is up
record IsFree (w : Rehearsal) (p : ℕ) : Type 0 where
  acts : acts w p ≡ None
  awaits : awaits w p ≡ None

free : (w : Rehearsal) (p : ℕ) → IsUpIn w p → hindered w p ≡ None → IsFree w p
unfolding hindered
free w p up e = grind arith

-- what the three tests behind the first say
record IsClear (w : Rehearsal) : Type 0 where
  each : (p : ℕ) → IsMember w.setting.members p → hindered w p ≡ None
  enough : is_enough w ≡ true
  lost : lost w ≡ None

clear : (w : Rehearsal) → obstacle w ≡ None → IsClear w
unfolding obstacle
clear w e = record {
  each = λ p is. first_none (hindered w) p (members w.setting.members) (grind arith) (in_members w.setting.members p is);
  enough = grind arith;
  lost = grind arith;
}

receipt : (w : Rehearsal) (k : ℕ) (e : Envelope) (step : Step) → letter w k ≡ Some (without_value e) → is_receipt w k step ≡ true →
    step ≡ Receive e.to k
receipt w k e step at is = grind (arith, nat_tests)

within : (es : List Envelope) (i : ℕ) (e : Envelope) → slice_get es i ≡ Some e → i < length es
within [] i e at = absurd (cc)
within (x ∷ es) zero e at = omega arith
within (x ∷ es) (suc i) e at = omega (arith, within es i e at)

place : (es : List Envelope) (k : ℕ) (e : Envelope) → at_serial es k ≡ Some e → IsMember (length es) k
place es zero e at = absurd (cc)
place es (suc i) e at = (omega arith, omega (arith, within es i e at))

module _ (w : Rehearsal) (is : IsOfWorld w) (none : obstacle w ≡ None) where
  it : IsClear w
  it = clear w none

  led : (p : ℕ) → IsUpIn w p → IsLedByUp w.setting (state_of w) p
  unfolding awaits
  led p up c at waits =
      let f = free w p up (it.each p up.member) in
      let is = coordinator_is w.setting.members c.round (omega (arith, up.member.0, up.member.1)) in
      grind (arith, nat_tests, f.awaits)

  arrived : (p q : ℕ) → IsUpIn w p → IsUpIn w q → IsArrived w.setting w.steps (state_of w) p q
  unfolding first_lost lost_at is_lost was_received sender_of
  arrived p q isp isq k e by at to =
      let at_k = first_none (lost_at w false) k (members (length (state_of w).sent)) (grind (arith, it.lost))
      (in_members (length (state_of w).sent) k (place (state_of w).sent k e at)) in
      let upp = present_of w p isp in
      let upq = present_of w q isq in
      let there : letter w k ≡ Some (without_value e) = rw at refl in
      let came : list_any (is_receipt w k) w.steps ≡ true = grind (arith, nat_tests, at_k, upp, upq) in
      let f = found-list_any (is_receipt w k) w.steps came in
      rw (receipt w k e f.item there f.passes, to) at f.is_in

  all_off : (p : ℕ) → IsUpIn w p → IsOff w p
  all_off p up = off w p (still w p (free w p up (it.each p up.member)).acts) (λ q e. best_is w p q is.lawful up e)

  pub at_rest : IsAtRest w.setting w.steps (state_of w)
  unfolding is_enough
  at_rest = record {
    runs = is.lawful.runs;
    few = is.few;
    bound = is.bound;
    majority = grind (arith, nat_tests, it.enough);
    arrived = arrived;
    blocked = λ p up. blocked w p (present_of w p up) (all_off p up);
    led = led;
  }

-- ---- all is done where nothing is in the way, and only there

-- what the laws of ct_progress and ct_rest say
abbrev SaysSo : Type 0
SaysSo = (w : Rehearsal) (p : ℕ) → IsLawful w → 1 ≤ w.setting.bound → IsUpIn w p → is_settled w p ≡ true →
    (a b : ℕ) → IsUpIn w a → IsUpIn w b → IsDone (state_of w) a b

abbrev IsSaid : Type 0
IsSaid = (w : Rehearsal) (p : ℕ) → IsLawful w → IsUpIn w p →
    ((a b : ℕ) → IsUpIn w a → IsUpIn w b → IsDone (state_of w) a b) → is_settled w p ≡ true

abbrev AtRestDone : Type 0
AtRestDone = (s : Setting) (steps : List Step) (g : State) → IsAtRest s steps g → (p q : ℕ) → IsUp s g p → IsUp s g q → IsDone g p q

unless-none : {A : Type 0} (b : Bool) (o : Option A) → (if b then None else o) ≡ None → b ≡ false → o ≡ None
unless-none true o e not = absurd (cc)
unless-none false o e not = e

pub all_done : SaysSo → AtRestDone → (s : Played) → IsOfWorld s.rehearsal → hindrance s ≡ None → AreDone s
unfolding hindrance are_settled
all_done so rest s is none p q up = elim (cases_Bool (are_settled s.rehearsal)) [
  | inl all ↦ so s.rehearsal p is.lawful is.bound up (all_at (is_settled s.rehearsal) s.rehearsal.setting.members p all up.member) p q up
  | inr not ↦
      rest s.rehearsal.setting s.rehearsal.steps (state_of s.rehearsal)
      (at_rest s.rehearsal is (unless-none (are_settled s.rehearsal) (obstacle s.rehearsal) none not)) p q up
]

crashed_settled : (w : Rehearsal) (p : ℕ) → has_crashed w p ≡ true → is_settled w p ≡ true
unfolding is_settled
crashed_settled w p e = rw e refl

pub unhindered : IsSaid → (s : Played) → IsOfWorld s.rehearsal → AreDone s → hindrance s ≡ None
unfolding hindrance are_settled
unhindered said s is done =
    let w = s.rehearsal in
    let each : (p : ℕ) → IsMember w.setting.members p → is_settled w p ≡ true =
    λ p member. elim (cases_Bool (is_crashed (state_of w) p)) [
      | inl crashed ↦ crashed_settled w p (let low = member.0 in let high = member.1 in grind (arith, nat_tests))
      | inr up ↦ said w p is.lawful (record { member = member; up = up }) done
    ] in
    rw (all_from (is_settled w) w.setting.members each) refl
