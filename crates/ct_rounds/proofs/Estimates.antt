-- Estimates that stand by member, of the members in a set.
use Rattle.std.proofs.Common.{◌≡◌, ℕ, ◌+◌, ◌<◌, true, false, cond, List, [], ◌∷◌, Option, Some, None, refl, sym, ap, ◌∙◌, arith}
use Rattle.std.proofs.Common.{nat_le, option_map, map, find, length, set, get_or-set_same, get_or-set_other}
use Rattle.std.specs.Prelude.{◌==◌}
use Rattle.std.proofs.lemmas.Bool.Decides.{nat_tests}
use Rattle.ct_names.specs.declared.limit.TheConstants.{MAX_MEMBERS}
use Rattle.ct_names.specs.Group.{IsMember}
use Rattle.ct_names.specs.MemberSet.{has_member, with_member}
use Rattle.ct_model.specs.Counted.{with_estimate}
use Rattle.ct_model.specs.Faults.{has_largest}
use Rattle.ct_model.specs.Received.{Heard}
use Rattle.ct_rounds.specs.Tally.{heard_as, heard_at, ballots_of, IsSet, IsTally, mark_of, better}
use Rattle.ct_rounds.specs.declared.tally.Estimate.{Estimate}
use Rattle.ct_rounds.specs.declared.tally.Best.{Best}
use Rattle.ct_rounds.proofs.Rising.{Rises, inserted, rises-in, rises-set, same-insert, set-insert}
use Rattle.ct_rounds.proofs.Picks.{pick, winner, all-below, best-pick, better-mark, pick-more}

-- those who sent them are the set
pub senders : (arr : List Estimate) (heard : List ℕ) → map (λ e. e.member) (map (heard_at arr) heard) ≡ heard
senders arr [] = refl
senders arr (p ∷ heard) = ap (λ z. p ∷ z) (senders arr heard)

-- what is found of a member
pub found : (arr : List Estimate) (heard : List ℕ) (p : ℕ) →
    find (λ e. e.member == p) (map (heard_at arr) heard) ≡ cond (has_member heard p) (Some (heard_at arr p)) None
found arr [] p = refl
found arr (q ∷ heard) p = grind (arith, nat_tests, found arr heard p)

-- an estimate of a member that was heard changes nothing
kept : (arr : List Estimate) (e : Heard ℕ) (a : ℕ) (heard : List ℕ) → Rises a heard → has_member heard e.member ≡ true →
    with_estimate e (map (heard_at arr) heard) ≡ map (heard_at arr) heard
kept arr e a [] r h = cc
kept arr e a (q ∷ heard) r h =
    grind (arith, nat_tests, kept arr e (q + 1) heard r.1, rises-in (q + 1) e.member heard r.1)

-- the estimates of other members stay after a write
elsewhere : (arr : List Estimate) (p : ℕ) (e : Estimate) (heard : List ℕ) → has_member heard p ≡ false →
    map (heard_at (set arr p e)) heard ≡ map (heard_at arr) heard
elsewhere arr p e [] absent = refl
elsewhere arr p e (q ∷ heard) absent =
    grind (arith, nat_tests, elsewhere arr p e heard, get_or-set_other arr p q e (record { value = 0; ts = 0 }))

-- the first estimate of a member is counted in
came : (arr : List Estimate) (p : ℕ) (e : Estimate) (heard : List ℕ) → p < length arr → has_member heard p ≡ false →
    with_estimate (heard_as p e) (map (heard_at arr) heard) ≡ map (heard_at (set arr p e)) (inserted p heard)
came arr p e [] room absent = ap (λ z. heard_as p z ∷ []) (sym (get_or-set_same arr p e (record { value = 0; ts = 0 }) room))
came arr p e (q ∷ heard) room absent = grind (
  arith,
  nat_tests,
  came arr p e heard room,
  elsewhere arr p e (q ∷ heard) absent,
  get_or-set_same arr p e (record { value = 0; ts = 0 }) room,
  get_or-set_other arr p q e (record { value = 0; ts = 0 }),
)

-- a tally after one more estimate

pub heard-again : (arr : List Estimate) (p : ℕ) (e : Estimate) (heard : List ℕ) → IsSet heard → has_member heard p ≡ true →
    with_estimate (heard_as p e) (map (heard_at arr) heard) ≡ map (heard_at arr) heard
heard-again arr p e heard is there = kept arr (heard_as p e) 1 heard (rises-set heard is) there

pub heard-first : (arr : List Estimate) (p : ℕ) (e : Estimate) (heard : List ℕ) → IsSet heard → IsMember MAX_MEMBERS p → p < length arr →
    has_member heard p ≡ false
    → map (heard_at (set arr p e)) (with_member heard p) ≡ with_estimate (heard_as p e) (map (heard_at arr) heard)
heard-first arr p e heard is member room absent = rw (same-insert heard p is member) (sym (came arr p e heard room absent))

pub best-more : (arr : List Estimate) (p : ℕ) (e : Estimate) (heard acked replied : List ℕ) (best : Option Best) →
    IsTally heard arr acked replied best → IsMember MAX_MEMBERS p → p < length arr → has_member heard p ≡ false
    → IsTally (with_member heard p) (set arr p e) acked replied (Some (better best (record { member = p; ts = e.ts })))
best-more arr p e heard acked replied best is member room absent =
    let new : Heard ℕ = heard_as p e in
    let old : List (Heard ℕ) = map (heard_at arr) heard in
    let out : has_member (map (λ y. y.member) old) p ≡ false = rw (senders arr heard) absent in
    let rising : Rises 1 (map (λ y. y.member) old) = rw (senders arr heard) (rises-set heard is.heard_is) in
    let was : best ≡ option_map mark_of (pick old) = is.best_is
    ∙ ap (option_map mark_of) (best-pick (ballots_of heard arr None acked replied)) in
    let now : pick (map (heard_at (set arr p e)) (with_member heard p)) ≡ Some (winner (pick old) new) =
    ap pick (heard-first arr p e heard is.heard_is member room absent) ∙ pick-more new 1 old rising out in
    record {
      heard_is = set-insert heard p;
      acked_is = is.acked_is;
      replied_is = is.replied_is;
      best_is =
          ap (λ z. Some (better z (mark_of new))) was
          ∙ (ap (λ z. Some z) (better-mark (pick old) new) ∙ (sym (ap (option_map mark_of) now)
          ∙ ap (option_map mark_of) (sym (best-pick (ballots_of (with_member heard p) (set arr p e) None acked replied)))));
    }

-- whose ts is the largest, by the best one
pub largest-in : (arr : List Estimate) (p : ℕ) (heard acked replied : List ℕ) (proposal : Option ℕ) (b : Best) →
    IsTally heard arr acked replied (Some b) → has_member heard p ≡ true
    → nat_le b.ts (heard_at arr p).ts ≡ has_largest (ballots_of heard arr proposal acked replied) p
largest-in arr p heard acked replied proposal b is there =
    let was : Some b ≡ option_map mark_of (pick (map (heard_at arr) heard)) =
    is.best_is ∙ ap (option_map mark_of) (best-pick (ballots_of heard arr None acked replied)) in
    grind (arith, was, found arr heard p, all-below (heard_at arr p).ts (map (heard_at arr) heard))

pub largest-out : (arr : List Estimate) (p : ℕ) (heard acked replied : List ℕ) (proposal : Option ℕ) → has_member heard p ≡ false →
    false ≡ has_largest (ballots_of heard arr proposal acked replied) p
largest-out arr p heard acked replied proposal absent =
    grind (arith, found arr heard p)

-- where there is no best one nobody was heard
pub nobody-heard : (arr : List Estimate) (heard acked replied : List ℕ) → IsTally heard arr acked replied None → heard ≡ []
nobody-heard arr [] acked replied is = refl
nobody-heard arr (q ∷ heard) acked replied is =
    let was : None ≡ option_map mark_of (pick (map (heard_at arr) (q ∷ heard))) =
    is.best_is ∙ ap (option_map mark_of) (best-pick (ballots_of (q ∷ heard) arr None acked replied)) in
    cc
