-- The record without steps.
use Rattle.std.proofs.Common.{◌≡◌, ℕ, ◌-◌, zero, suc, [], length, map, refl, ap, sym, ◌∙◌, arith, Some, replicate, get_or}
use Rattle.std.proofs.lemmas.List.{length-replicate}
use Rattle.ct_model.specs.Setting.{Setting}
use Rattle.ct_model.specs.State.{State, Member, first_state, new_member, member, submissions}
use Rattle.ct_model.specs.Received.{received, received_by}
use Rattle.ct_model.specs.Run.{run, run_from}
use Rattle.ct_model.specs.Waiting.{waiting}
use Rattle.ct_model.specs.Rehearsal.{empty, state_of, line_of}
use Rattle.ct_model.specs.Stamps.{is_gone}
use Rattle.ct_model.specs.Cause.{order, longest}
use Rattle.ct_model.specs.Lawful.{IsWithin, IsLawful}
use Rattle.ct_model.specs.Knowledge.{KnowsMessages}

pub state-first : (s : Setting) (cells : ℕ) → state_of (empty s cells) ≡ first_state s
state-first s cells = unfold state_of in refl

get_or-same : (n i : ℕ) (x : Member) → get_or (replicate n x) i x ≡ x
get_or-same zero i x = refl
get_or-same (suc n) zero x = refl
get_or-same (suc n) (suc i) x = get_or-same n i x

-- each member is new
pub member-first : (s : Setting) (p : ℕ) → member (first_state s) p ≡ new_member
unfolding member first_state
member-first s p = get_or-same s.members (p - 1) new_member

no_batches : (n : ℕ) → longest [] (map (λ (m : Member). m.batches) (replicate n new_member)) ≡ []
no_batches zero = refl
no_batches (suc n) = no_batches n

order-first : (s : Setting) → order (first_state s) ≡ []
unfolding order first_state
order-first s = no_batches s.members

pub size-first : (s : Setting) → length (first_state s).members ≡ s.members
unfolding first_state
size-first s = length-replicate s.members new_member

pub sent-first : (s : Setting) → (first_state s).sent ≡ []
sent-first s = unfold first_state in refl

pub submissions-first : (s : Setting) (p : ℕ) → submissions (first_state s).submitted p ≡ 0
submissions-first s p = unfold first_state submissions in refl

pub received-first : (s : Setting) (p : ℕ) → received_by (first_state s) p ≡ []
unfolding received_by received
received-first s p = ap (λ (m : Member). received m.got) (member-first s p)

pub line-first : (s : Setting) (cells p : ℕ) → line_of (empty s cells) p ≡ []
line-first s cells p = unfold line_of waiting in refl

within-first : (s : Setting) (cells : ℕ) → IsWithin cells (first_state s) 0
within-first s cells = grind (arith, submissions-first, member-first, sent-first, order-first)

runs-first : (s : Setting) (cells : ℕ) → run s [] ≡ Some (state_of (empty s cells))
unfolding run run_from
runs-first s cells = ap (λ g. Some g) (sym (state-first s cells))

pub lawful-first : (s : Setting) (cells : ℕ) → IsLawful (empty s cells)
unfolding is_gone
lawful-first s cells = record {
  runs = runs-first s cells;
  size = ap (λ (g : State). length g.members) (state-first s cells) ∙ size-first s;
  within = rw (state-first s cells) (within-first s cells);
  unsent = λ p k m. refl;
  waits = λ p k. rw (line-first s cells p, state-first s cells, sent-first s) refl;
  distinct = λ p. rw (line-first s cells p) refl;
  rising = λ p. rw (line-first s cells p) tt;
  allowed = λ k step low. absurd (omega arith);
}

pub knows-first : (s : Setting) → KnowsMessages s (first_state s)
unfolding first_state
knows-first s = grind (arith, received-first)
