-- What was taken stands in the list once, and is found there.
use Rattle.std.proofs.Common.{arith, ◌≡◌, true, false, List, [], ◌∷◌, ◌++◌}
use Rattle.std.proofs.Common.{subst, inl, inr}
use Rattle.std.specs.List.{list_any}
use Rattle.std.proofs.lemmas.Bool.Decides.{nat_tests}
use Rattle.ct_names.specs.Membership.{IsIn, IsWithoutRepeats}
use Rattle.ct_names.proofs.Lists
use Rattle.indexmap.specs.IndexSet.{insert_key}
use Rattle.ct_relay.specs.contracts.relay_id.RelayIdPartialEq.TheImpl.{ghosts as equal}
use Rattle.ct_relay.specs.declared.relay_id.RelayId.{RelayId}
use Rattle.ct_relay.specs.Taken.{is_id, with_id}

is_id-refl : (id : RelayId) → is_id id id ≡ true
is_id-refl id = grind (arith, nat_tests)

pub same-is_id : (x y : RelayId) → is_id x y ≡ true → x ≡ y
same-is_id x y e = grind (arith, nat_tests)

-- what stands in the list is found
pub in-found : (ids : List RelayId) (id : RelayId) → IsIn id ids → list_any (is_id id) ids ≡ true
in-found ids id there = Lists.list_any-found (is_id id) id ids there (is_id-refl id)

-- what is not found is not in the list
pub out : (ids : List RelayId) (id : RelayId) → list_any (is_id id) ids ≡ false → IsIn id ids → ⊥
out ids id absent there = Lists.contrary (list_any (is_id id) ids) (in-found ids id there) absent

-- one that is not there comes last
pub once-last : (ids : List RelayId) (id : RelayId) → (IsIn id ids → ⊥) → IsWithoutRepeats ids → IsWithoutRepeats (ids ++ id ∷ [])
once-last ids id absent once = Lists.IsWithoutRepeats-append ids (id ∷ []) once ((λ none. absurd none), tt) shared
  where
    shared : (x : RelayId) → IsIn x ids → IsIn x (id ∷ []) → ⊥
    shared x there (inl same) = absent (subst (λ y. IsIn y ids) same there)
    shared x there (inr none) = none

-- a set takes one more as the list does
pub insert_key-with_id : (ids : List RelayId) (id : RelayId) → insert_key equal.eq ids id ≡ with_id ids id
insert_key-with_id ids id = grind arith
