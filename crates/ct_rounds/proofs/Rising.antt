-- Sets of members are rising lists.
use Rattle.std.proofs.Common.{◌≡◌, ℕ, zero, suc, ◌+◌, ◌≤◌, ◌<◌, Bool, true, List, [], ◌∷◌, filter, refl, sym, ap, ◌∙◌, arith, subst}
use Rattle.std.specs.Prelude.{◌==◌, ◌||◌, nat_lt, if◌then◌else◌}
use Rattle.std.proofs.Math.Bool.{or_comm}
use Rattle.std.proofs.lemmas.Bool.{cond_both}
use Rattle.std.proofs.lemmas.Bool.Decides.{nat_tests}
use Rattle.ct_names.specs.declared.limit.TheConstants.{MAX_MEMBERS}
use Rattle.ct_names.specs.Group.{counting, members, everyone, IsMember}
use Rattle.ct_names.specs.MemberSet.{has_member, with_member}
use Rattle.ct_names.proofs.Lists
use Rattle.ct_names.proofs.MemberSets.{filter-agree, filter-has_member, in-has_member, everyone-in}
use Rattle.ct_rounds.specs.Tally.{IsSet}

-- each member is larger than those before it, and none is less than a
abbrev pub Rises : ℕ → List ℕ → Type 0
Rises a [] = Unit {0}
Rises a (p ∷ set) = (a ≤ p) × Rises (p + 1) set

pub rises-from : (a b : ℕ) (set : List ℕ) → a ≤ b → Rises b set → Rises a set
rises-from a b [] low r = tt
rises-from a b (p ∷ set) low r = (let here = r.0 in omega arith, r.1)

-- a member is none of the smaller numbers
pub rises-in : (a p : ℕ) (set : List ℕ) → Rises a set → has_member set p ≡ true → a ≤ p
rises-in a p [] r h = cc
rises-in a p (q ∷ set) r h = grind (arith, nat_tests, r.0, rises-in (q + 1) p set r.1)

rises-filter : (f : ℕ → Bool) (a n : ℕ) → Rises a (filter f (counting a n))
rises-filter f a zero = tt
rises-filter f a (suc n) =
    let rest : List ℕ = filter f (counting (a + 1) n) in
    let r : Rises (a + 1) rest = rises-filter f (a + 1) n in
    cond_both (f a) (a ∷ rest) rest (Rises a) (λ e. (omega arith, r)) (λ e. rises-from a (a + 1) rest (omega arith) r)

rises-everyone : (f : ℕ → Bool) → Rises 1 (filter f everyone)
unfolding members
rises-everyone f = rises-filter f 1 16

pub rises-set : (set : List ℕ) → IsSet set → Rises 1 set
rises-set set is = subst (Rises 1) (sym is) (rises-everyone (has_member set))

-- a member of a set is 1 to 16
pub within-set : (set : List ℕ) (p : ℕ) → IsSet set → has_member set p ≡ true → IsMember MAX_MEMBERS p
within-set set p is h =
    everyone-in p (Lists.IsIn-filter_from (has_member set) p everyone
    (in-has_member (filter (has_member set) everyone) p (ap (λ z. has_member z p) (sym is) ∙ h)))

-- nobody is in the empty set
pub empty-set : IsSet []
empty-set = by everyone
  where
    by : (xs : List ℕ) → [] ≡ filter (has_member []) xs
    by [] = refl
    by (x ∷ xs) = by xs

-- the rising list with the member at its place
abbrev pub inserted : ℕ → List ℕ → List ℕ
inserted p [] = p ∷ []
inserted p (q ∷ set) = if nat_lt p q then p ∷ q ∷ set else if p == q then q ∷ set else (q ∷ inserted p set)

-- a member before all the others comes first
inserted-first : (p : ℕ) (f : ℕ → Bool) (a n : ℕ) → p < a → inserted p (filter f (counting a n)) ≡ p ∷ filter f (counting a n)
inserted-first p f a zero h = refl
inserted-first p f a (suc n) h = grind (arith, nat_tests, inserted-first p f (a + 1) n (omega arith))

-- a test that lets this member through besides is the old one on the others
others : (p : ℕ) (f : ℕ → Bool) (a n : ℕ) → p < a → filter (λ q. f q || (q == p)) (counting a n) ≡ filter f (counting a n)
others p f a zero h = refl
others p f a (suc n) h = grind (arith, nat_tests, others p f (a + 1) n (omega arith))

-- the member joins those that pass
inserted-filter : (p : ℕ) (f : ℕ → Bool) (a n : ℕ) → a ≤ p → p < a + n →
    inserted p (filter f (counting a n)) ≡ filter (λ q. f q || (q == p)) (counting a n)
inserted-filter p f a zero lo hi = absurd (omega arith)
inserted-filter p f a (suc n) lo hi =
    let later : a + 1 ≤ p → inserted p (filter f (counting (a + 1) n)) ≡ filter (λ q. f q || (q == p)) (counting (a + 1) n) =
    λ above. inserted-filter p f (a + 1) n above (omega arith) in
    grind (arith, nat_tests, later, inserted-first p f (a + 1) n, others p f (a + 1) n)

-- one member more, in its place
swapped : (set : List ℕ) (p : ℕ) → with_member set p ≡ filter (λ q. has_member set q || (q == p)) everyone
swapped set p = filter-agree (λ q. (q == p) || has_member set q) (λ q. has_member set q || (q == p)) everyone
    (λ q i. or_comm (q == p) (has_member set q))

placed : (f : ℕ → Bool) (p : ℕ) → IsMember MAX_MEMBERS p → inserted p (filter f everyone) ≡ filter (λ q. f q || (q == p)) everyone
unfolding members
placed f p h = inserted-filter p f 1 16 h.0 (let high = h.1 in omega arith)

pub same-insert : (set : List ℕ) (p : ℕ) → IsSet set → IsMember MAX_MEMBERS p → with_member set p ≡ inserted p set
same-insert set p is h = grind (arith, nat_tests, swapped set p, placed (has_member set) p h, inserted p)

pub set-insert : (set : List ℕ) (p : ℕ) → IsSet (with_member set p)
set-insert set p = filter-has_member (λ q. (q == p) || has_member set q)
