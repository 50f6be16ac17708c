-- Words that are parted at a byte: lists of members, messages, places.
use Rattle.std.proofs.Common.{◌≡◌, ℕ, ◌<◌, ◌≤◌, ◌^◌, ◌==◌, Bool, true, false, not, ltb, ◌||◌, List, [], ◌∷◌, ◌++◌, length, map, filter}
use Rattle.std.proofs.Common.{refl, sym, ap, ◌∙◌, arith, inl, inr, append-nil, length-append}
use Rattle.std.specs.Prelude.{decimal, Some, None}
use Rattle.std.specs.Char.{is_ascii_digit}
use Rattle.std.specs.List.{list_all, join_with_byte, slice_split, position_or_len}
use Rattle.std.proofs.lemmas.Bool.Decides.{nat_tests}
use Rattle.std.proofs.Math.Seq.{take-append_seam, drop-append-add}
use Rattle.ct_names.specs.Group.{everyone, members, IsMember}
use Rattle.ct_names.specs.MemberSet.{has_member}
use Rattle.ct_names.specs.Membership.{IsIn}
use Rattle.ct_names.specs.declared.limit.TheConstants.{MAX_MEMBERS}
use Rattle.ct_names.proofs.Lists.{both-left, both-right, not-true}
use Rattle.ct_names.proofs.MemberSets.{filter-agree, with_member-filter}
use Rattle.ct_grammar.specs.Words.{Word}
use Rattle.ct_grammar.specs.Numbers.{parted, two_numbers, with_members, members_of, has_comma}
use Rattle.ct_print.proofs.Numerals.{number_back, number_in_back}
use Rattle.ct_print.proofs.Numeric.{decimal_digits}
use Rattle.ct_print.proofs.TextWords.{joined_parts}

-- ---- before and behind a byte

-- no digit is such a byte
not_at : (at c : ℕ) → is_ascii_digit at ≡ false → is_ascii_digit c ≡ true → (c == at) ≡ false
not_at at c e h = grind (arith, nat_tests)

-- the byte stands nowhere in the word
abbrev pub Lacks : ℕ → Word → Type 0
Lacks at word = list_all (λ c. not (c == at)) word ≡ true

pub digits_lack : (at : ℕ) (digits : Word) → is_ascii_digit at ≡ false → list_all is_ascii_digit digits ≡ true → Lacks at digits
digits_lack at [] e h = refl
digits_lack at (c ∷ cs) e h =
    rw (not_at at c e (both-left (is_ascii_digit c) (list_all is_ascii_digit cs) h))
    (digits_lack at cs e (both-right (is_ascii_digit c) (list_all is_ascii_digit cs) h))

place_behind : (at : ℕ) (word behind : Word) → Lacks at word → position_or_len (λ c. c == at) (word ++ at ∷ behind) ≡ length word
place_behind at [] behind h =
    let same : (at == at) ≡ true = grind (arith, nat_tests) in
    rw same refl
place_behind at (c ∷ cs) behind h =
    rw (
      not-true (c == at) (both-left (not (c == at)) (list_all (λ d. not (d == at)) cs) h),
      place_behind at cs behind (both-right (not (c == at)) (list_all (λ d. not (d == at)) cs) h),
    )
    (omega arith)

-- and where it stands nowhere
no_place : (at : ℕ) (word : Word) → Lacks at word → position_or_len (λ c. c == at) word ≡ length word
no_place at [] h = refl
no_place at (c ∷ cs) h =
    rw (
      not-true (c == at) (both-left (not (c == at)) (list_all (λ d. not (d == at)) cs) h),
      no_place at cs (both-right (not (c == at)) (list_all (λ d. not (d == at)) cs) h),
    )
    (omega arith)

pub lacks_parted : (at : ℕ) (word : Word) → Lacks at word → parted at word ≡ None
unfolding parted
lacks_parted at word h =
    let past : ltb (length word) (length word) ≡ false = grind (arith, nat_tests) in
    rw (no_place at word h, past) refl

pub parted_behind : (at : ℕ) (word behind : Word) → Lacks at word → parted at (word ++ at ∷ behind) ≡ Some (word, behind)
unfolding parted
parted_behind at word behind h =
    let within : ltb (length word) (length (word ++ at ∷ behind)) ≡ true =
    grind (arith, nat_tests, length-append word (at ∷ behind)) in
    rw (place_behind at word behind h, within, take-append_seam word (at ∷ behind), drop-append-add word (at ∷ behind) 1) refl

pub two_back : (at high higher m n : ℕ) → is_ascii_digit at ≡ false → high < 2 ^ 64 → higher < 2 ^ 64 → m ≤ high → n ≤ higher →
    two_numbers at high higher (decimal m ++ at ∷ (decimal n ++ [])) ≡ Some (m, n)
unfolding two_numbers
two_back at high higher m n e h k l o =
    rw (
      append-nil (decimal n),
      parted_behind at (decimal m) (decimal n) (digits_lack at (decimal m) e (decimal_digits m (omega arith))),
      number_back high m h l,
      number_back higher n k o,
    ) refl

-- ---- lists of members

abbrev pub AreSmall : List ℕ → Type 0
AreSmall ps = (q : ℕ) → IsIn q ps → IsMember MAX_MEMBERS q

abbrev pub numbers_text : List ℕ → Word
numbers_text ps = join_with_byte 44 (map decimal ps)

numbers_lack : (ps : List ℕ) → AreSmall ps → list_all (list_all (λ c. not (c == 44))) (map decimal ps) ≡ true
numbers_lack [] h = refl
numbers_lack (p ∷ ps) h =
    rw (digits_lack 44 (decimal p) refl (decimal_digits p (omega (arith, (h p (inl refl)).1)))) (numbers_lack ps (λ q i. h q (inr i)))

pub parts_of : (p : ℕ) (ps : List ℕ) → AreSmall (p ∷ ps) →
    slice_split (λ c. c == 44) (numbers_text (p ∷ ps)) ≡ map decimal (p ∷ ps)
parts_of p ps h = joined_parts (λ c. c == 44) 44 refl (decimal p) (map decimal ps) (numbers_lack (p ∷ ps) h)

-- a member or more that join those that pass a test
either_way : (a b c : Bool) → ((b || a) || c) ≡ (a || (b || c))
either_way true true c = refl
either_way true false c = refl
either_way false true c = refl
either_way false false c = refl

same_sides : (p q : ℕ) → (p == q) ≡ (q == p)
same_sides p q = grind (arith, nat_tests)

joined_by : (test : ℕ → Bool) (ps : List ℕ) → AreSmall ps →
    with_members (filter test everyone) (map decimal ps) ≡ Some (filter (λ q. test q || has_member ps q) everyone)
joined_by test [] h = ap Some (filter-agree test (λ q. test q || false) everyone (λ q i. sym (none (test q))))
  where
    none : (b : Bool) → (b || false) ≡ b
    none true = refl
    none false = refl
joined_by test (p ∷ ps) h =
    let good : IsMember MAX_MEMBERS p = h p (inl refl) in
    rw (number_in_back 1 MAX_MEMBERS p (omega arith) good.0 good.1, with_member-filter test p)
    (joined_by (λ q. (q == p) || test q) ps (λ q i. h q (inr i))
    ∙ ap Some (filter-agree (λ q. ((q == p) || test q) || has_member ps q) (λ q. test q || ((p == q) || has_member ps q)) everyone
    (λ q i. either_way (test q) (q == p) (has_member ps q) ∙ ap (λ b. test q || (b || has_member ps q)) (same_sides q p))))

no_members : filter (λ q. false) everyone ≡ []
unfolding members
no_members = refl

pub members_back : (p : ℕ) (ps : List ℕ) → AreSmall (p ∷ ps) →
    members_of (numbers_text (p ∷ ps)) ≡ Some (filter (has_member (p ∷ ps)) everyone)
unfolding members_of
members_back p ps h =
    rw (parts_of p ps h)
    (ap (λ (set : List ℕ). with_members set (map decimal (p ∷ ps))) (sym no_members) ∙ joined_by (λ q. false) (p ∷ ps) h)

-- ---- commas

pub alone_no_comma : (digits : Word) → list_all is_ascii_digit digits ≡ true → has_comma digits ≡ false
alone_no_comma digits h =
    let past : ltb (length digits) (length digits) ≡ false = grind (arith, nat_tests) in
    rw (no_place 44 digits (digits_lack 44 digits refl h), past) refl

pub list_has_comma : (digits behind : Word) → list_all is_ascii_digit digits ≡ true → has_comma (digits ++ 44 ∷ behind) ≡ true
list_has_comma digits behind h =
    let within : ltb (length digits) (length (digits ++ 44 ∷ behind)) ≡ true =
    grind (arith, nat_tests, length-append digits (44 ∷ behind)) in
    rw (place_behind 44 digits behind (digits_lack 44 digits refl h), within) refl

pub alone_parted : (digits : Word) → list_all is_ascii_digit digits ≡ true → parted 44 digits ≡ None
alone_parted digits h = lacks_parted 44 digits (digits_lack 44 digits refl h)
