-- The place of a serial in a line, and the line without it.
use Rattle.std.proofs.Common.{subst, one-add, ◌≡◌, ℕ, suc, ◌+◌, ◌<◌, Bool, true, false, List, [], ◌∷◌, ◌++◌, length, refl, ap, sym, ◌∙◌}
use Rattle.std.proofs.Common.{arith, Some, None}
use Rattle.std.specs.Prelude.{not, ◌==◌, ◌&&◌, ◌||◌, filter, position, remove, nat_lt, if◌then◌else◌, is_some, slice_index_or}
use Rattle.std.specs.List.{list_any, position_or_len}
use Rattle.std.proofs.lemmas.Bool.Decides.{nat_tests}
use Rattle.ct_names.specs.Group.{is_member}
use Rattle.ct_model.specs.Rehearsal.{Rehearsal, line_of}
use Rattle.ct_model.specs.Waiting.{has_serial}
use Rattle.ct_model.specs.Lawful.{is_distinct}
use Rattle.ct_model.proofs.Basics.Options.{some-same}
use Rattle.ct_model.proofs.Basics.Tests.{and_right}
use Rattle.ct_network.specs.Network.{line_at, place_of, put_last}
use Rattle.ct_world.specs.Kept.{Fields, IsWorld}
use Rattle.ct_world.proofs.Basics.Waits.{lined_member}

step_place : (b : Bool) (l len : ℕ) (t : Bool) → nat_lt l len ≡ t → nat_lt (if (not b) then (1 + l) else 0) (suc len) ≡ (b || t)
step_place b l len t ih = grind arith

place_any : {X : Type 0} (p : X → Bool) (xs : List X) → nat_lt (position_or_len p xs) (length xs) ≡ list_any p xs
place_any p [] = refl
place_any p (x ∷ xs) = step_place (p x) (position_or_len p xs) (length xs) (list_any p xs) (place_any p xs)

-- a place is found where an element passes
pub is_some-position : {X : Type 0} (p : X → Bool) (xs : List X) → is_some (position p xs) ≡ list_any p xs
is_some-position p xs = grind (arith, place_any p xs)

pub position_is : {X : Type 0} (p : X → Bool) (xs : List X) → list_any p xs ≡ true → position p xs ≡ Some (position_or_len p xs)
position_is p xs h = rw (place_any p xs, h) refl

none_left : (k : ℕ) (xs : List ℕ) → has_serial k xs ≡ false → filter (λ q. not (q == k)) xs ≡ xs
none_left k [] h = refl
none_left k (x ∷ xs) h = grind (arith, none_left k xs)

-- the first goes, and no other is like it
same_first : (k x : ℕ) (xs : List ℕ) → true ≡ (x == k) → (not (has_serial x xs) && is_distinct xs) ≡ true →
    filter (λ q. not (q == k)) (x ∷ xs) ≡ xs
same_first k x xs is d = grind (arith, none_left k xs)

pub record IsWithout (k : ℕ) (xs : List ℕ) (i : ℕ) : Type 0 where
  pub within : i < length xs
  pub rest : remove xs i ≡ filter (λ q. not (q == k)) xs
  pub item : slice_index_or xs i 0 ≡ k

-- the place of the only k: without it, what is left is all but k
pub without : (k : ℕ) (xs : List ℕ) → is_distinct xs ≡ true → has_serial k xs ≡ true → IsWithout k xs (position_or_len (λ q. q == k) xs)
without k [] d h = absurd (cc)
without k (x ∷ xs) d h = go (x == k) refl h (without k xs (and_right (not (has_serial x xs)) (is_distinct xs) d))
  where
    go : (b : Bool) → b ≡ (x == k) → (b || has_serial k xs) ≡ true →
        (has_serial k xs ≡ true → IsWithout k xs (position_or_len (λ q. q == k) xs)) →
        IsWithout k (x ∷ xs) (if (not b) then (1 + position_or_len (λ q. q == k) xs) else 0)
    go true is h ih =
        let e : x ≡ k = grind (arith, nat_tests) in
        record { within = omega arith; rest = sym (same_first k x xs is d); item = e }
    go false is h ih =
        let r = ih h in
        record {
          within = omega (arith, r.within);
          rest = rw (one-add, r.rest, ← is) refl;
          item = rw one-add r.item;
        }

-- a serial that has a place is there
pub stands-there : (k : ℕ) {i : ℕ} (xs : List ℕ) → place_of k xs ≡ Some i → has_serial k xs ≡ true
stands-there k xs is = sym (is_some-position (λ q. q == k) xs) ∙ ap is_some is

-- what has none is not there
pub stands-nowhere : (k : ℕ) (xs : List ℕ) → None ≡ place_of k xs → has_serial k xs ≡ false
stands-nowhere k xs is = sym (is_some-position (λ q. q == k) xs) ∙ sym (ap is_some is)

-- the line without the serial at its place
pub placed : (k i : ℕ) (xs : List ℕ) → place_of k xs ≡ Some i → is_distinct xs ≡ true → IsWithout k xs i
placed k i xs is d =
    let there = stands-there k xs is in
    let e : position_or_len (λ q. q == k) xs ≡ i = some-same (position_or_len (λ q. q == k) xs) i
    (sym (position_is (λ q. q == k) xs there) ∙ is) in
    subst (λ j. IsWithout k xs j) e (without k xs d there)

-- and with the serial at its end
pub put-is : (k i : ℕ) (xs : List ℕ) → IsWithout k xs i → put_last xs i ≡ filter (λ q. not (q == k)) xs ++ k ∷ []
put-is k i xs a = λ j. a.rest j ++ a.item j ∷ []

module _ {w : Rehearsal} {f : Fields} (p k : ℕ) (world : IsWorld w f) (group : is_member w.setting.members p ≡ true) where
  -- the serial's place in the network's line
  pub placed_in : {i : ℕ} → place_of k (line_of w p) ≡ Some i → IsWithout k (line_at f.network.lines p) i
  placed_in {i} is = subst (λ line. IsWithout k line i) (sym (world.line p group)) (placed k i (line_of w p) is (world.lawful.distinct p))

  -- which the network finds
  pub found_in : (if is_member (length f.network.lines) p then place_of k (line_at f.network.lines p) else None)
      ≡ place_of k (line_of w p)
  found_in = grind (arith, lined_member p world group)
