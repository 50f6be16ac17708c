-- Sets of members as filters of all members, and the bits that stand for them.
use Rattle.std.proofs.Common.{◌≡◌, ℕ, zero, suc, ◌+◌, ◌*◌, ◌-◌, ◌/◌, ◌%◌, ◌^◌, ◌≤◌, ◌<◌, Bool, true, false, cond, ◌||◌, ◌==◌, List, []}
use Rattle.std.proofs.Common.{◌∷◌, length, filter, map, refl, sym, ap, ◌∙◌, subst, inl, inr, arith, eqb-true, eq-eqb}
use Rattle.std.specs.Int.{w16}
use Rattle.std.specs.Int.RustNames.{bit_and, bit_or, count_ones}
use Rattle.std.proofs.Math.Nat.{pow-succ', div-div-eq-div-mul, mul_comm, zero-div}
use Rattle.std.proofs.lemmas.Bool.{false_from_ne_true}
use Rattle.std.proofs.lemmas.Bool.Decides.{nat_tests}
use Rattle.std.proofs.lemmas.List.Sums.{length-filter}
use Rattle.std.proofs.lemmas.Nat.{or_lt}
use Rattle.std.proofs.lemmas.Nat.Bits.{shr_and_one, bit_at_set_same, bit_at_set_other}
use Rattle.std.proofs.lemmas.Simd.{ones-mask_l, mask_l-lt}
use Rattle.ct_names.specs.declared.limit.TheConstants.{MAX_MEMBERS}
use lib.Lanes.{mask_l}
use Rattle.ct_names.specs.Group.{counting, members, everyone, IsMember}
use Rattle.ct_names.specs.MemberSet.{has_member, with_member, has_bit, members_of, number_of, bits_of}
use Rattle.ct_names.specs.Membership.{IsIn}
use Rattle.ct_names.proofs.Lists
use Rattle.ct_names.proofs.Groups.{counting-range, in-counting}

-- tests that agree on the elements keep the same elements
pub filter-agree : {A : Type 0} (p q : A → Bool) (xs : List A) → ((x : A) → IsIn x xs → p x ≡ q x) → filter p xs ≡ filter q xs
filter-agree p q [] h = refl
filter-agree p q (x ∷ xs) h = rw (h x (inl refl), filter-agree p q xs (λ y i. h y (inr i))) refl

map-agree : {A B : Type 0} (f g : A → B) (xs : List A) → ((x : A) → IsIn x xs → f x ≡ g x) → map f xs ≡ map g xs
map-agree f g [] h = refl
map-agree f g (x ∷ xs) h = rw (h x (inl refl), map-agree f g xs (λ y i. h y (inr i))) refl

pub in-has_member : (set : List ℕ) (p : ℕ) → has_member set p ≡ true → IsIn p set
in-has_member set p h =
    let f = Lists.found-list_any (λ q. q == p) set h in
    rw (eqb-true f.item p f.passes) at f.is_in

pub has_member-in : (set : List ℕ) (p : ℕ) → IsIn p set → has_member set p ≡ true
has_member-in set p i = Lists.list_any-found (λ q. q == p) p set i (eq-eqb p p refl)

pub has_member-out : (set : List ℕ) (p : ℕ) → (IsIn p set → ⊥) → has_member set p ≡ false
has_member-out set p out = false_from_ne_true (has_member set p) (λ h. out (in-has_member set p h))

-- what a filter has is what passes the test
pub has_member-filter : (test : ℕ → Bool) (p : ℕ) → IsIn p everyone → has_member (filter test everyone) p ≡ test p
has_member-filter test p i =
    let set = filter test everyone in
    grind (arith, in-has_member set p, has_member-in set p, Lists.IsIn-filter test p everyone, Lists.IsIn-filter_passes test p everyone)

pub in-everyone : (p : ℕ) → IsMember MAX_MEMBERS p → IsIn p everyone
unfolding members
in-everyone p h = in-counting 1 16 p h.0 (omega (arith, h.1))

pub everyone-in : (p : ℕ) → IsIn p everyone → IsMember MAX_MEMBERS p
unfolding members
everyone-in p i = let r = counting-range 1 16 p i in (r.0, omega (arith, r.1))

-- no set has other members
pub has_member-outside : (test : ℕ → Bool) (p : ℕ) → (IsMember MAX_MEMBERS p → ⊥) → has_member (filter test everyone) p ≡ false
has_member-outside test p out =
    has_member-out (filter test everyone) p (λ i. out (everyone-in p (Lists.IsIn-filter_from test p everyone i)))

-- a set is the list of its members, rising
pub filter-has_member : (test : ℕ → Bool) → filter test everyone ≡ filter (has_member (filter test everyone)) everyone
filter-has_member test = filter-agree test (has_member (filter test everyone)) everyone (λ p i. sym (has_member-filter test p i))

-- one more member of those that pass a test
pub with_member-filter : (test : ℕ → Bool) (one : ℕ) → with_member (filter test everyone) one ≡ filter (λ p. (p == one) || test p) everyone
with_member-filter test one =
    filter-agree (λ p. (p == one) || has_member (filter test everyone) p) (λ p. (p == one) || test p) everyone
    (λ p i. ap (λ b. (p == one) || b) (has_member-filter test p i))

-- the lowest bit of a number, and the others
split-number : (c : ℕ) → (cond ((c % 2) == 1) 1 0) + 2 * (c / 2) ≡ c
split-number c = grind (arith, nat_tests)

shifted : (b first : ℕ) → 1 ≤ first → b / 2 ^ (first + 1 - 1) ≡ b / 2 ^ (first - 1) / 2
shifted b first h =
    grind (arith, pow-succ' 2 (first - 1), mul_comm 2 (2 ^ (first - 1)), div-div-eq-div-mul b (2 ^ (first - 1)) 2)

number_of-bits : (b first n c : ℕ) → 1 ≤ first → b / 2 ^ (first - 1) ≡ c → c < 2 ^ n → number_of (map (has_bit b) (counting first n)) ≡ c
number_of-bits b first zero c h e low = omega arith
number_of-bits b first (suc n) c h e low =
    let next : b / 2 ^ (first + 1 - 1) ≡ c / 2 = shifted b first h ∙ ap (λ z. z / 2) e in
    let double : 2 ^ suc n ≡ 2 * 2 ^ n = pow-succ' 2 n in
    let rest : number_of (map (has_bit b) (counting (first + 1) n)) ≡ c / 2 =
    number_of-bits b (first + 1) n (c / 2) (omega arith) next (omega arith) in
    ap (λ z. cond ((z % 2) == 1) 1 0 + 2 * number_of (map (has_bit b) (counting (first + 1) n))) e
    ∙ (ap (λ z. cond ((c % 2) == 1) 1 0 + 2 * z) rest ∙ split-number c)

number_of-has_bit : (b : ℕ) → b < 65536 → number_of (map (has_bit b) everyone) ≡ b
unfolding members
number_of-has_bit b low = number_of-bits b 1 16 b (omega arith) (omega arith) low

-- the bits come back from the members
pub bits_of-members_of : (bits : ℕ) → bits < 65536 → bits_of (members_of bits) ≡ bits
bits_of-members_of bits low =
    ap number_of (map-agree (has_member (members_of bits)) (has_bit bits) everyone (has_member-filter (has_bit bits)))
    ∙ number_of-has_bit bits low

number_of-mask_l : (bits : List Bool) → number_of bits ≡ mask_l bits
number_of-mask_l [] = refl
number_of-mask_l (bit ∷ bits) = ap (λ n. cond bit 1 0 + 2 * n) (number_of-mask_l bits)

-- the bits that come back are sixteen
pub bits_low : (bits : ℕ) → bits_of (members_of bits) ≡ bits → bits < 65536
unfolding members
bits_low bits back =
    let low = mask_l-lt (map (has_member (members_of bits)) everyone) in
    let e : mask_l (map (has_member (members_of bits)) everyone) ≡ bits =
    sym (number_of-mask_l (map (has_member (members_of bits)) everyone)) ∙ back in
    rw e at low

-- there are as many members as bits are set
pub length-members_of : (bits : ℕ) → bits_of (members_of bits) ≡ bits → count_ones bits ≡ length (members_of bits)
length-members_of bits back =
    let low : bits < 65536 = bits_low bits back in
    ap count_ones (sym (number_of-has_bit bits low) ∙ number_of-mask_l (map (has_bit bits) everyone))
    ∙ (ones-mask_l (has_bit bits) everyone ∙ sym (length-filter (has_bit bits) everyone))

-- a member's bit is set
has_bit-set : (bits one p : ℕ) → IsMember MAX_MEMBERS one → 1 ≤ p →
    has_bit (bit_or bits (1 * 2 ^ (one - 1) % 65536)) p ≡ ((p == one) || has_bit bits p)
has_bit-set bits one p h from_one =
    let low : one - 1 < 16 = omega (arith, h.0, h.1) in
    grind (arith, nat_tests, bit_at_set_same w16 bits (one - 1) low, bit_at_set_other w16 bits (one - 1) low (p - 1), h.0)

pub members_of-insert : (bits one : ℕ) → IsMember MAX_MEMBERS one →
    members_of (bit_or bits (1 * 2 ^ (one - 1) % 65536)) ≡ with_member (members_of bits) one
members_of-insert bits one h =
    filter-agree (has_bit (bit_or bits (1 * 2 ^ (one - 1) % 65536))) (λ p. (p == one) || has_bit bits p) everyone
    (λ p i. has_bit-set bits one p h (everyone-in p i).0)
    ∙ sym (with_member-filter (has_bit bits) one)

-- the bits stay below 65536
pub insert-low : (bits one : ℕ) → bits < 65536 → bit_or bits (1 * 2 ^ (one - 1) % 65536) < 65536
insert-low bits one low = or_lt 16 bits (1 * 2 ^ (one - 1) % 65536) low (omega arith)

-- no bit, no member
pub members_of-zero : members_of 0 ≡ []
members_of-zero = nothing everyone
  where
    nothing : (xs : List ℕ) → filter (has_bit 0) xs ≡ []
    nothing [] = refl
    nothing (x ∷ xs) = rw (zero-div (2 ^ (x - 1)), nothing xs) refl

-- what the set has is what its bits say
pub has_member-bit : (bits one : ℕ) (set : List ℕ) → members_of bits ≡ set → IsMember MAX_MEMBERS one →
    (bit_and (bits / 2 ^ (one - 1)) 1 == 1) ≡ has_member set one
has_member-bit bits one set is h =
    grind (arith, shr_and_one bits (one - 1), has_member-filter (has_bit bits) one (in-everyone one h), in-everyone one h)

pub has_member-none : (bits one : ℕ) (set : List ℕ) → members_of bits ≡ set → (IsMember MAX_MEMBERS one → ⊥) → false ≡ has_member set one
has_member-none bits one set is out = sym (has_member-outside (has_bit bits) one out) ∙ ap (λ s. has_member s one) is

pub rising : (bits : ℕ) (set : List ℕ) → members_of bits ≡ set → set ≡ filter (has_member set) everyone
rising bits set is = subst (λ s. s ≡ filter (has_member s) everyone) is (filter-has_member (has_bit bits))
