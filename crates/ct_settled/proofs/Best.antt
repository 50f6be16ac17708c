-- Of those heard with the largest ts the first may be chosen.
use Rattle.std.proofs.Common.{◌≡◌, ℕ, true, ◌==◌, List, [], ◌∷◌, find, map, Some, refl, arith}
use Rattle.std.proofs.lemmas.Bool.Decides.{nat_tests}
use Rattle.ct_names.specs.Membership.{IsIn, IsWithoutRepeats}
use Rattle.ct_names.specs.Value.{Value}
use Rattle.ct_names.proofs.Lists
use Rattle.ct_model.specs.Received.{Heard, Ballots, heard, estimate_from, is_largest}
use Rattle.ct_model.proofs.Consensus.Readings.{find-some}
use Rattle.ct_rounds.specs.Best.{best, best_estimate}

-- of a member that was heard the one estimate is found
found_own : (es : List (Heard Value)) → IsWithoutRepeats (map (λ e. e.member) es) → (b : Heard Value) → IsIn b es →
    find (λ e. e.member == b.member) es ≡ Some b
found_own [] once b h = absurd h
found_own (e ∷ es) once b h = grind (arith, nat_tests, Lists.IsIn-map (λ (x : Heard Value). x.member), found_own es once.1 b)

-- the member that is best may be chosen
pub record IsBest (t : Ballots Value) : Type 0 where
  pub from : ℕ
  pub is : best t ≡ Some from
  pub estimate : Heard Value
  pub own : estimate_from t from ≡ Some estimate
  pub largest : is_largest t estimate.ts ≡ true

pub best_of : (t : Ballots Value) (e : Heard Value) → IsWithoutRepeats (heard t) → IsIn e t.estimates → is_largest t e.ts ≡ true → IsBest t
best_of t e once h largest =
    let top : (y : Heard Value) × (best_estimate t ≡ Some y) = find-some (λ x. is_largest t x.ts) e t.estimates h largest in
    let there = Lists.found-find (λ (x : Heard Value). is_largest t x.ts) top.0 t.estimates top.1 in
    record {
      from = top.0.member;
      is = rw top.1 refl;
      estimate = top.0;
      own = found_own t.estimates once top.0 there.0;
      largest = there.1;
    }
