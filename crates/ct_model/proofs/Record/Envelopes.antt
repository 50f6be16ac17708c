-- What waits is an envelope to the member.
use Rattle.std.proofs.Common.{◌≡◌, ℕ, zero, suc, ◌+◌, Bool, true, false, not, List, [], ◌∷◌, ◌++◌, refl, ap, sym, ◌∙◌, subst, arith}
use Rattle.std.proofs.Common.{Some, inl, inr}
use Rattle.std.specs.Prelude.{Option, None, is_some, ◌==◌, slice_get, if◌then◌else◌, option_and_then}
use Rattle.std.specs.Cmp.{both_ways}
use Rattle.std.proofs.lemmas.Bool.Decides.{nat_tests}
use Rattle.ct_model.specs.AtValue.{Envelope, Wire}
use Rattle.ct_model.specs.State.{State}
use Rattle.ct_model.specs.Next.{wire_to, addressed}
use Rattle.ct_model.specs.Waiting.{serials_to, has_serial}
use Rattle.ct_model.specs.Rehearsal.{Rehearsal, state_of}
use Rattle.ct_model.specs.Stamps.{is_gone}
use Rattle.ct_model.specs.Lawful.{IsLawful, IsLetter, is_waiting}
use Rattle.ct_model.proofs.Basics.Tests.{and_left, or_left, or_right, or_cases, number_same, same_number}
use Rattle.ct_model.proofs.Basics.Options.{some-same, some-none, when-some}
use Rattle.ct_model.proofs.Basics.Serials.{has_serial-append}

-- the i-th envelope goes to p
record IsAt (p before k : ℕ) (es : List Envelope) (i : ℕ) (e : Envelope) : Type 0 where
  place : k ≡ before + 1 + i
  there : slice_get es i ≡ Some e
  to : e.to ≡ p

-- a serial that goes to p is an envelope to p
serial_at : (p before k : ℕ) (es : List Envelope) → has_serial k (serials_to p before es) ≡ true →
    (i : ℕ) × (e : Envelope) × IsAt p before k es i e
serial_at p before k [] h = absurd (cc)
serial_at p before k (e ∷ es) h = go (e.to == p) refl (λ m. further (serial_at p (before + 1) k es m)) h
  where
    further : ((i : ℕ) × (x : Envelope) × IsAt p (before + 1) k es i x) → (i : ℕ) × (x : Envelope) × IsAt p before k (e ∷ es) i x
    further r = (suc r.0, r.1, record { place = omega (arith, r.2.place); there = r.2.there; to = r.2.to })

    go : (b : Bool) → b ≡ (e.to == p) → (has_serial k (serials_to p (before + 1) es) ≡ true →
        (i : ℕ) × (x : Envelope) × IsAt p before k (e ∷ es) i x) →
        has_serial k ((if b then (before + 1) ∷ [] else []) ++ serials_to p (before + 1) es) ≡ true →
        (i : ℕ) × (x : Envelope) × IsAt p before k (e ∷ es) i x
    go true is rest m =
        elim (or_cases (before + 1 == k) (has_serial k (serials_to p (before + 1) es)) m) [
          | inl a ↦ (zero, e, record { place = grind (arith, nat_tests); there = refl; to = grind (arith, nat_tests) })
          | inr a ↦ rest a
        ]
    go false is rest m = rest m

-- and an envelope to p has a serial that goes to p
serial_to : (p before i : ℕ) (es : List Envelope) (e : Envelope) → slice_get es i ≡ Some e → e.to ≡ p →
    has_serial (before + 1 + i) (serials_to p before es) ≡ true
serial_to p before i [] e there to = some-none e there
serial_to p before zero (x ∷ es) e there to =
    grind (arith, nat_tests, some-none, number_same, some-same, or_left, has_serial-append, or_right)
serial_to p before (suc i) (x ∷ es) e there to =
    let rest = serial_to p (before + 1) i es e there to in
    grind (arith, nat_tests, some-none, number_same, some-same, or_left, has_serial-append, or_right, rest)

-- so has what p gets from a serial
pub sent_serial : (g : State) (p k : ℕ) → is_some (wire_to g p k) ≡ true → has_serial k (serials_to p 0 g.sent) ≡ true
unfolding wire_to
sent_serial g p zero h = absurd (cc)
sent_serial g p (suc i) h = go (slice_get g.sent i) refl h
  where
    go : (o : Option Envelope) → slice_get g.sent i ≡ o → is_some (option_and_then (addressed p) o) ≡ true →
        has_serial (suc i) (serials_to p 0 g.sent) ≡ true
    go None there h = absurd (cc)
    go (Some e) there h =
        let place : 0 + 1 + i ≡ suc i = omega arith in
        subst (λ k. has_serial k (serials_to p 0 g.sent) ≡ true) place
        (serial_to p 0 i g.sent e there (same_number e.to p (when-some (e.to == p) e.wire h)))

-- what waits was sent to p
pub was_sent : (w : Rehearsal) (p k : ℕ) → IsLawful w → is_waiting w p k ≡ true → has_serial k (serials_to p 0 (state_of w).sent) ≡ true
was_sent w p k law h = and_left (has_serial k (serials_to p 0 (state_of w).sent)) (not (is_gone w p k)) (sym (law.waits p k) ∙ h)

-- what was sent to p is an envelope to p
sent_letter : (g : State) (p k : ℕ) → has_serial k (serials_to p 0 g.sent) ≡ true → (e : Envelope) × IsLetter g p k e
sent_letter g p k h = grind (arith, serial_at)

-- and so is what waits
pub waiting_letter : (w : Rehearsal) (p k : ℕ) → IsLawful w → is_waiting w p k ≡ true → (e : Envelope) × IsLetter (state_of w) p k e
waiting_letter w p k law h = sent_letter (state_of w) p k (was_sent w p k law h)

-- its wire is what p gets
pub letter_wire : (g : State) (p k : ℕ) (e : Envelope) → IsLetter g p k e → wire_to g p k ≡ Some e.wire
unfolding wire_to
letter_wire g p k e l = grind arith

-- p gets a wire from each serial that was sent to it, and from no other
pub serial_sent : (g : State) (p k : ℕ) → has_serial k (serials_to p 0 g.sent) ≡ true → is_some (wire_to g p k) ≡ true
serial_sent g p k h = let l = sent_letter g p k h in ap is_some (letter_wire g p k l.0 l.1)

pub serials_sent : (g : State) (p k : ℕ) → has_serial k (serials_to p 0 g.sent) ≡ is_some (wire_to g p k)
serials_sent g p k = both_ways (has_serial k (serials_to p 0 g.sent)) (is_some (wire_to g p k)) (serial_sent g p k) (sent_serial g p k)

-- what p gets was sent
pub record IsSent (g : State) (w : Wire) : Type 0 where
  pub place : ℕ
  pub envelope : Envelope
  pub there : slice_get g.sent place ≡ Some envelope
  pub wire : envelope.wire ≡ w

pub wire_to-sent : (g : State) (p k : ℕ) (w : Wire) → wire_to g p k ≡ Some w → IsSent g w
unfolding wire_to
wire_to-sent g p k w h = grind arith
