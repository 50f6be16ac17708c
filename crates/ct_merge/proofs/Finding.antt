-- Envelopes by their names.
use Rattle.ct_merge.proofs.Common.{◌≡◌, ℕ, zero, suc, ◌<◌, ◌≤◌, Bool, true, false, not, ◌==◌, if◌then◌else◌, List}
use Rattle.ct_merge.proofs.Common.{Option, Some, None, length, refl, ap, ◌∙◌, ◌⊎◌, inl, inr, arith, is_some, option_and_then, option_map}
use Rattle.ct_merge.proofs.Common.{IsLawful, without_value, addressed, Rehearsal, extended, state_of, is_sent, at_serial, Step, some-none}
use Rattle.ct_merge.proofs.Common.{some-same, and_left, same_number, self_number, cause-allowed, carried_of, IsSentAs, named, IsUnsent}
use Rattle.ct_merge.proofs.Common.{FullName, Carried, Envelope, cases_eq, cause}
use Rattle.std.specs.Prelude.{◌&&◌}
use Rattle.std.specs.Option.{option_or}
use Rattle.std.proofs.lemmas.Option.{slice_get_cases}
use Rattle.ct_names.proofs.Lists.{both-right as and_right}
use Rattle.ct_model.specs.Next.{wire_to}
use Rattle.ct_model.specs.When.{when}
use Rattle.ct_model.proofs.Basics.Options.{when-some}
use Rattle.ct_play.specs.Picking.{carries, is_carried, is_from, is_gone, is_so, is_to, last_of, last_so, sender_of, waits_at, was_sent}
use Rattle.ct_play.proofs.Indexing.{carries_is, carries_its}
use Rattle.ct_merge.specs.Names.{full_name}
use Rattle.ct_merge.proofs.Beyond.{there_named, there_wire}
use Rattle.ct_merge.proofs.Begun.{receipt_of}
use Rattle.ct_merge.proofs.Posting.{from_kept}

-- what was sent stays so
pub sent_kept : (w : Rehearsal) (step : Step) → IsLawful w → cause w step ≡ None → (p k : ℕ) (name : FullName) → IsSentAs w p name k →
    IsSentAs (extended w step) p name k
sent_kept w step law free p k name s =
    let ok = cause-allowed w step law free in
    let f = receipt_of w p k name s.sent s.named in
    let g = from_kept w step ok.after law.runs ok.enabled name.from p f.wire k f.from in
    record {
      sent = ap is_some (there_wire (extended w step) p name.from k f.wire g);
      named = there_named (extended w step) p name.from k f.wire name g f.carried refl;
    }

-- ---- the last of those that pass a test

passes_or : (test : ℕ → Bool) (n k : ℕ) (b : Bool) → test (suc n) ≡ b → (if b then Some (suc n) else last_of test n) ≡ Some k →
    (last_of test n ≡ Some k → test k ≡ true) → test k ≡ true
passes_or test n k true is e rest = cc
passes_or test n k false is e rest = rest e

last_passes : (test : ℕ → Bool) (n k : ℕ) → last_of test n ≡ Some k → test k ≡ true
last_passes test zero k e = some-none k e
last_passes test (suc n) k e = passes_or test n k (test (suc n)) refl e (λ x. last_passes test n k x)

none_or : (test : ℕ → Bool) (n k : ℕ) (b : Bool) → test (suc n) ≡ b → (if b then Some (suc n) else last_of test n) ≡ None → k ≤ suc n →
    (last_of test n ≡ None → k ≤ n → test k ≡ false) → test k ≡ false
none_or test n k true is e low rest = absurd (cc)
none_or test n k false is e low rest = elim (cases_eq k (suc n)) [
  | inl same ↦ ap test same ∙ is
  | inr other ↦ rest e (omega (arith, other))
]

last_none : (test : ℕ → Bool) (n k : ℕ) → last_of test n ≡ None → 1 ≤ k → k ≤ n → test k ≡ false
last_none test zero k e some low = absurd (omega arith)
last_none test (suc n) k e some low = none_or test n k (test (suc n)) refl e low (λ x less. last_none test n k x some less)

first_or : (a b : Option ℕ) (k : ℕ) → option_or a b ≡ Some k → (a ≡ Some k) ⊎ (b ≡ Some k)
first_or None b k e = inr e
first_or (Some j) b k e = inl e

none_of : (a b : Option ℕ) → option_or a b ≡ None → b ≡ None
none_of None b e = e
none_of (Some j) b e = absurd (cc)

-- ---- an envelope of a name

module _ (p : ℕ) (c : Carried) (q : ℕ) where
  abbrev so : Option Envelope → Option ℕ → Bool
  so o s = is_to p (option_map without_value o) && (is_carried c (option_map without_value o) && is_from (Some q) s)

  named_so : (o : Option Envelope) (s : Option ℕ) → so o s ≡ true →
      (is_some (option_and_then (addressed p) o) ≡ true) × (named (option_map without_value o) s ≡ Some (record { carried = c; from = q }))
  named_so None s h = absurd (cc)
  named_so (Some e) None h =
      let rest = and_right (e.to == p) (carries (without_value e).wire c && false) h in
      absurd (cc (and_right (carries (without_value e).wire c) false rest))
  named_so (Some e) (Some r) h =
      let to : (e.to == p) ≡ true = and_left (e.to == p) (carries (without_value e).wire c && (r == q)) h in
      let rest = and_right (e.to == p) (carries (without_value e).wire c && (r == q)) h in
      let its = carries_is (without_value e).wire c (and_left (carries (without_value e).wire c) (r == q) rest) in
      let from = same_number r q (and_right (carries (without_value e).wire c) (r == q) rest) in (
        ap (λ b. is_some (when b e.wire)) to,
        ap (λ x. Some (record { carried = x; from = r })) its ∙ ap (λ x. Some (record { carried = c; from = x })) from,
      )

  so_named : (o : Option Envelope) (s : Option ℕ) → is_some (option_and_then (addressed p) o) ≡ true →
      named (option_map without_value o) s ≡ Some (record { carried = c; from = q }) → so o s ≡ true
  so_named None s sent h = absurd (cc)
  so_named (Some e) None sent h = absurd (cc)
  so_named (Some e) (Some r) sent h =
      let to : (e.to == p) ≡ true = when-some (e.to == p) e.wire sent in
      let name = some-same (record { carried = carried_of (without_value e).wire; from = r }) (record { carried = c; from = q }) h in
      let its = ap (λ (n : FullName). n.carried) name in
      let from = ap (λ (n : FullName). n.from) name in
      rw (to, ← its, ← from, carries_its (without_value e).wire, self_number r) refl

  low_serial : (es : List Envelope) (k : ℕ) → is_some (option_and_then (addressed p) (at_serial es k)) ≡ true → (1 ≤ k) × (k ≤ length es)
  low_serial es zero h = absurd (cc)
  low_serial es (suc i) h = elim (slice_get_cases es i).1 [
    | inl x ↦ (omega arith, let low : i < length es = x.1 in omega arith)
    | inr x ↦ absurd (let off = rw x.1 at h in cc off)
  ]

module _ (w : Rehearsal) (p : ℕ) (name : FullName) where
  sent_as : (k : ℕ) → was_sent w p name.carried (Some name.from) k ≡ true → IsSentAs w p name k
  unfolding was_sent is_so full_name wire_to
  sent_as k h =
      let x = named_so p name.carried name.from (at_serial (state_of w).sent k) (sender_of w k) h in
      record { sent = x.0; named = x.1 }

  was_so : (k : ℕ) → is_sent w p k ≡ true → full_name w k ≡ Some name → was_sent w p name.carried (Some name.from) k ≡ true
  unfolding was_sent is_so full_name wire_to
  was_so k sent named = so_named p name.carried name.from (at_serial (state_of w).sent k) (sender_of w k) sent named

  low : (k : ℕ) → is_sent w p k ≡ true → (1 ≤ k) × (k ≤ length (state_of w).sent)
  unfolding wire_to
  low k sent = low_serial p name.carried name.from (state_of w).sent k sent

  -- what is found was sent so
  pub found_sent : (k : ℕ) → last_so w p name.carried (Some name.from) ≡ Some k → IsSentAs w p name k
  unfolding last_so is_gone
  found_sent k e =
      let was = was_sent w p name.carried (Some name.from) in
      let gone = is_gone w p name.carried (Some name.from) in
      let n = length (state_of w).sent in
      elim (first_or (last_of gone n) (last_of was n) k e) [
        | inl x ↦ sent_as k (and_left (was k) (not (waits_at w p k)) (last_passes gone n k x))
        | inr x ↦ sent_as k (last_passes was n k x)
      ]

  -- where nothing is found, nothing was
  pub found_none : last_so w p name.carried (Some name.from) ≡ None → IsUnsent w p name
  unfolding last_so
  found_none none k sent named =
      let was = was_sent w p name.carried (Some name.from) in
      let n = length (state_of w).sent in
      let off = none_of (last_of (is_gone w p name.carried (Some name.from)) n) (last_of was n) none in
      absurd (cc (was_so k sent named, last_none was n k off (low k sent).0 (low k sent).1))

pub ruleset looked_up = (found_sent, found_none)
