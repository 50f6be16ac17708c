-- What a line leaves that settled is at rest.
use Rattle.std.proofs.Common.{◌≡◌, ℕ, true, List, refl, inl, inr, arith}
use Rattle.std.specs.Prelude.{is_some}
use Rattle.std.proofs.lemmas.Bool.{cases_Bool}
use Rattle.std.proofs.lemmas.Bool.Decides.{nat_tests}
use Rattle.ct_model.specs.Lawful.{IsPresent, is_waiting}
use Rattle.ct_model.specs.Next.{wire_to}
use Rattle.ct_model.specs.Rehearsal.{Rehearsal, state_of}
use Rattle.ct_model.specs.Relayed.{IsArrived}
use Rattle.ct_model.specs.State.{State}
use Rattle.ct_model.proofs.Basics.Groups.{coordinator_is}
use Rattle.ct_model.proofs.Basics.Tests.{not_true, number_same}
use Rattle.ct_model.proofs.Record.Envelopes.{sent_serial}
use Rattle.ct_rest.specs.Rest.{IsLedByUp, IsAtRest}
use Rattle.ct_grammar.specs.declared.who.Who.{Who}
use Rattle.ct_play.specs.Cuts.{is_near}
use Rattle.ct_play.specs.Picking.{sender_of}
use Rattle.ct_play.specs.Played.{Played}
use Rattle.ct_play.specs.Turning.{tried_at}
use Rattle.ct_play.specs.Who.{named}
use Rattle.ct_settled.specs.Settled.{IsSettled, IsUpIn}
use Rattle.ct_settled.proofs.Blocked.{blocked, present_of}
use Rattle.ct_settled.proofs.Gone.{arrived_or_lost}
use Rattle.ct_settled.proofs.Quiet.{not_near, not_suspected, off}
use Rattle.ct_settled.proofs.Still.{IsLeft, IsRefused, left}

module _ (s t : Played) (who : Who) (set : List ℕ) (is : IsSettled s who set t) where
  abbrev w : Rehearsal
  w = t.rehearsal

  abbrev g : State
  g = state_of t.rehearsal

  it : IsLeft who set (named s.rehearsal.setting.members who) t
  it = left who set s t is.lawful is.settles

  module _ (p : ℕ) (up : IsUpIn t p) where
    present : IsPresent w p
    present = present_of t.rehearsal p up

    turn_refused : IsRefused t (tried_at t p set)
    turn_refused = it.refused p (is.turning p up)

    led : IsLedByUp w.setting g p
    led c at waits = grind (arith, nat_tests, not_true, coordinator_is, not_suspected, present, turn_refused)

  arrived : (p q : ℕ) → IsUpIn t p → IsUpIn t q → IsArrived w.setting w.steps g p q
  unfolding sender_of is_near wire_to
  arrived p q isp isq k e by at to =
      let sent : is_some (wire_to g q k) ≡ true = rw (at, number_same e.to q to) refl in
      elim (cases_Bool (is_waiting w q k)) [
        | inl waits ↦
            absurd (not_near t set q (present q isq) (turn_refused q isq) is.roomy k waits (rw by (is.uncut q p isq isp)))
        | inr away ↦ elim (arrived_or_lost w q k it.lawful (sent_serial g q k sent) away) [
          | inl came ↦ came
          | inr lost ↦ is.kept p q k isp isq by lost
        ]
      ]

  pub at_rest : IsAtRest t.rehearsal.setting t.rehearsal.steps (state_of t.rehearsal)
  at_rest = record {
    runs = it.lawful.runs;
    few = is.few;
    bound = is.bound;
    majority = is.majority;
    arrived = arrived;
    blocked = λ p isp. blocked t.rehearsal p (present p isp) (off t set p (present p isp) (turn_refused p isp) is.roomy);
    led = led;
  }
