-- A step that closes an instance: how many batches there are after it, and which limit it passes.
use Rattle.std.proofs.Common.{◌≡◌, ℕ, ◌+◌, ◌≤◌, Bool, false, List, [], ◌∷◌, length, refl, ap, sym, ◌∙◌, arith, Some}
use Rattle.std.specs.Prelude.{nat_lt, if◌then◌else◌}
use Rattle.std.proofs.lemmas.List.{length_push}
use Rattle.std.proofs.lemmas.Bool.Decides.{nat_tests}
use Rattle.ct_names.specs.declared.limit.TheConstants.{MAX_ENVELOPES, MAX_INSTANCES, MAX_STEPS}
use Rattle.ct_names.specs.declared.limit.Limit.TheVariants.{Instances, Envelopes, Cells, Steps}
use Rattle.ct_names.specs.declared.refusal.Refusal.TheVariants.{Full}
use Rattle.ct_names.specs.Value.{Value}
use Rattle.ct_model.specs.declared.step.Step.{Step}
use Rattle.ct_model.specs.Actor.{actor}
use Rattle.ct_model.specs.State.{Member, member}
use Rattle.ct_model.specs.Next.{close, batch_of, row, after}
use Rattle.ct_model.specs.Rehearsal.{Rehearsal, state_of}
use Rattle.ct_model.specs.Cause.{Test, at, first_fault, or_else, limit, overflow, order}
use Rattle.ct_model.specs.Lawful.{IsLawful, IsPresent}
use Rattle.ct_model.proofs.Record.Causes.{overflow-is}
use Rattle.ct_model.proofs.Delivery.Longest.{order-grown}
use Rattle.ct_model.proofs.Record.Limits.{limit-silent, first_fault-append}

pub length-close : (m : Member) (k : ℕ) (v : Value) → length (close m k v).member.batches ≡ length m.batches + 1
length-close m k v = length_push m.batches (record { instance = k; messages = batch_of m v })

module _ (w : Rehearsal) (step : Step) (k : ℕ) (v : Value) (law : IsLawful w) (present : IsPresent w (actor step))
    (is : row w.setting (state_of w) (actor step) (member (state_of w) (actor step)) step
    ≡ Some (close (member (state_of w) (actor step)) k v)) where
  abbrev p : ℕ
  p = actor step

  abbrev m : Member
  m = member (state_of w) (actor step)

  -- the order after the step is as long as before, or as the member's batches then
  order-close : length (order (after w.setting (state_of w) p (close m k v)))
      ≡ (if nat_lt (length (order (state_of w))) (length m.batches + 1) then length m.batches + 1 else length (order (state_of w)))
  order-close = grind (arith, length-close, order-grown)

  larger : (b : Bool) (cells old new : ℕ) → b ≡ nat_lt old new → old ≤ cells → nat_lt cells (if b then new else old) ≡ nat_lt cells new
  larger b cells old new e few = grind arith

  pub limit-close : limit w step ≡ or_else (first_fault
      (at (Full Instances) (nat_lt MAX_INSTANCES k)
      ∷ at (Full Cells) (nat_lt w.cells (length (member (state_of w) (actor step)).batches + 1)) ∷ []))
      (overflow w 0)
  limit-close =
      let all : ℕ = length (order (state_of w)) in
      let own : ℕ = length m.batches + 1 in
      let cells : nat_lt w.cells (length (order (after w.setting (state_of w) p (close m k v)))) ≡ nat_lt w.cells own =
      ap (nat_lt w.cells) order-close ∙ larger (nat_lt all own) w.cells all own refl law.within.few_batches in
      let small : length (state_of w).sent ≤ MAX_ENVELOPES = law.within.few_envelopes in
      let sent : nat_lt MAX_ENVELOPES (length (state_of w).sent + 0) ≡ false = grind (arith, nat_tests) in
      let steps : List Test = at (Full Steps) (nat_lt MAX_STEPS (length w.steps + 1)) ∷ [] in
      let first : List Test = at (Full Instances) (nat_lt MAX_INSTANCES k) ∷ at (Full Cells) (nat_lt w.cells own) ∷ [] in
      limit-silent w step (close m k v) law present is refl
      ∙ rw (sent, cells) (first_fault-append first steps)
      ∙ ap (or_else (first_fault first)) (sym (overflow-is w 0 ∙ ap (λ b. first_fault (at (Full Envelopes) b ∷ steps)) sent))
