-- Loops over the members 1 to 16 that write some of them.
use Rattle.std.proofs.Common.{◌≡◌, ℕ, suc, ◌+◌, ◌-◌, ◌<◌, ◌==◌, Bool, true, false, cond, List, [], ◌∷◌, ◌++◌, map, filter, refl, sym, ap}
use Rattle.std.proofs.Common.{◌∙◌, arith, append_assoc, append-nil}
use Rattle.std.specs.Prelude.{codes}
use Rattle.std.specs.List.{join_with_byte}
use Rattle.std.proofs.lemmas.Bool.Decides.{nat_tests}
use Rattle.ct_names.specs.Group.{counting, members, everyone}
use Rattle.ct_names.specs.declared.limit.TheConstants.{MAX_MEMBERS}
use Rattle.ct_grammar.specs.Words.{Word}
use Rattle.ct_print.specs.Cuts.{barred}

-- the texts, with this one between each two, and before the first where one stands before
abbrev pub listed : List ℕ → Bool → List Word → List ℕ
listed between later [] = []
listed between later (text ∷ texts) = cond later between [] ++ (text ++ listed between true texts)

-- the texts of the members behind the first i that pass the test
abbrev pub left : (ℕ → Bool) → (ℕ → Word) → ℕ → List Word
left test f i = map f (filter test (counting (i + 1) (MAX_MEMBERS - i)))

pub left_all : (test : ℕ → Bool) (f : ℕ → Word) → left test f 0 ≡ map f (filter test everyone)
unfolding members
left_all test f = refl

left_next : (test : ℕ → Bool) (f : ℕ → Word) (i : ℕ) → i < MAX_MEMBERS →
    left test f i ≡ map f (filter test ((i + 1) ∷ counting (i + 1 + 1) (MAX_MEMBERS - (i + 1))))
left_next test f i h =
    let one : MAX_MEMBERS - i ≡ suc (MAX_MEMBERS - (i + 1)) = omega arith in
    ap (λ (n : ℕ). map f (filter test (counting (i + 1) n))) one

left_taken : (test : ℕ → Bool) (f : ℕ → Word) (i : ℕ) → i < MAX_MEMBERS → test (i + 1) ≡ true →
    left test f i ≡ f (i + 1) ∷ left test f (i + 1)
left_taken test f i h is = left_next test f i h ∙ rw is refl

left_passed : (test : ℕ → Bool) (f : ℕ → Word) (i : ℕ) → i < MAX_MEMBERS → test (i + 1) ≡ false → left test f i ≡ left test f (i + 1)
left_passed test f i h is = left_next test f i h ∙ rw is refl

-- with commas the whole is joined, and with bars it is barred
pub listed_joined : (text : Word) (texts : List Word) → text ++ listed (codes ",") true texts ≡ join_with_byte 44 (text ∷ texts)
listed_joined text [] = append-nil text
listed_joined text (next ∷ texts) = ap (λ (t : List ℕ). text ++ (44 ∷ t)) (listed_joined next texts)

pub all_joined : (texts : List Word) → listed (codes ",") false texts ≡ join_with_byte 44 texts
all_joined [] = refl
all_joined (text ∷ texts) = listed_joined text texts

listed_barred : (text : Word) (texts : List Word) → text ++ listed (codes " | ") true texts ≡ barred (text ∷ texts)
listed_barred text [] = append-nil text
listed_barred text (next ∷ texts) =
    ap (λ (t : List ℕ). text ++ (codes " | " ++ t)) (listed_barred next texts ∙ sym (append-nil (barred (next ∷ texts))))

pub all_barred : (texts : List Word) → listed (codes " | ") false texts ≡ barred texts
all_barred [] = refl
all_barred (text ∷ texts) = listed_barred text texts

-- the test of a number that a call gave
pub is_the_number : (r s p : ℕ) → r ≡ s → r ≡ p → (s == p) ≡ true
is_the_number r s p e same = grind (arith, nat_tests)

pub is_another : (r s p : ℕ) → r ≡ s → (r ≡ p → ⊥) → (s == p) ≡ false
is_another r s p e other = grind (arith, nat_tests)

-- what stands there so far, and what is left of it
module _ (between : List ℕ) (test : ℕ → Bool) (f : ℕ → Word) (i : ℕ) (later : Bool) (old whole : List ℕ) where
  -- one more is written
  pub one_written : (mid end : List ℕ) → old ++ listed between later (left test f i) ≡ whole → i < MAX_MEMBERS → test (i + 1) ≡ true →
      mid ≡ old ++ cond later between [] → end ≡ mid ++ f (i + 1) → end ++ listed between true (left test f (i + 1)) ≡ whole
  one_written mid end h lt is first second =
      let rest = listed between true (left test f (i + 1)) in
      rw (
        second,
        first,
        append_assoc (old ++ cond later between []) (f (i + 1)) rest,
        append_assoc old (cond later between []) (f (i + 1) ++ rest),
      )
      (ap (λ (ts : List Word). old ++ listed between later ts) (sym (left_taken test f i lt is)) ∙ h)

  -- one is passed over
  pub none_written : old ++ listed between later (left test f i) ≡ whole → i < MAX_MEMBERS → test (i + 1) ≡ false →
      old ++ listed between later (left test f (i + 1)) ≡ whole
  none_written h lt is = ap (λ (ts : List Word). old ++ listed between later ts) (sym (left_passed test f i lt is)) ∙ h

  -- all are written
  pub all_written : old ++ listed between later (left test f i) ≡ whole → i ≡ MAX_MEMBERS → old ≡ whole
  all_written h e = sym (append-nil old) ∙ (ap (λ (n : ℕ). old ++ listed between later (left test f n)) (sym e) ∙ h)
