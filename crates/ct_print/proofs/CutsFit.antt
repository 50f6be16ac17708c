-- Cuts that are read can be written.
use Rattle.std.proofs.Common.{◌≡◌, ◌≢◌, ℕ, ◌+◌, ◌-◌, ◌==◌, Bool, true, false, cond, ltb, List, [], ◌∷◌, length, take, drop, refl, sym, ap}
use Rattle.std.proofs.Common.{◌∙◌, arith, subst, inl, inr, eqb-true, length-set, ltb-true, ltb-false}
use Rattle.std.specs.Prelude.{codes, Option, Some, None, IfOk, IfSome, slice_set, option_and_then}
use Rattle.std.specs.List.{slice_split, position_or_len}
use Rattle.std.specs.Option.{ok_or}
use Rattle.std.specs.Str.{bytes_eq}
use Rattle.std.proofs.lemmas.Bool.{eqb-false}
use Rattle.std.proofs.lemmas.List.Splits.{slice_split_first, slice_split_none}
use Rattle.std.proofs.lemmas.List.Sums.{fails_before_first}
use Rattle.ct_names.specs.Group.{IsMember}
use Rattle.ct_names.specs.declared.limit.TheConstants.{MAX_MEMBERS}
use Rattle.ct_names.proofs.Lists.{true_or_false}
use Rattle.ct_grammar.specs.Cuts.{with_sets, cut_of}
use Rattle.ct_grammar.specs.Numbers.{number_in, parted}
use Rattle.ct_grammar.specs.Sides.{whole, side_of, with_member_on, with_parts, part_before, with_set}
use Rattle.ct_grammar.specs.Words.{Word}
use Rattle.ct_print.specs.Writable.{IsCut}
use Rattle.ct_print.proofs.CutsRead.{outside, moved_here, not_moved, none_whole}
use Rattle.ct_print.proofs.Readable.{either, some_if, some_bound, bound, found, ok_weaker, May, Gives, number_between}

-- each side has the number of a member on it, or 0
pub record IsNamed (sides : List ℕ) : Type 0 where
  pub sixteen : length sides ≡ MAX_MEMBERS
  pub named : (p : ℕ) → IsMember MAX_MEMBERS p → side_of sides (side_of sides p) ≡ side_of sides p

-- the side has its own number
pub record IsOn (side : ℕ) (sides : List ℕ) : Type 0 where
  pub named : IsNamed sides
  pub own : side_of sides side ≡ side

-- the same, and one is not 0
abbrev IsSplit : List ℕ → Type 0
IsSplit sides = IsNamed sides × (sides ≢ whole)

one_moved : (now : List ℕ) (p side : ℕ) → IsNamed now → IsMember MAX_MEMBERS p → side_of now p ≡ 0 →
    side_of (slice_set now (p - 1) side) side ≡ side → IsOn side (slice_set now (p - 1) side)
one_moved now p side h k free own = record {
  own = own;
  named = record {
    sixteen = length-set now (p - 1) side ∙ h.sixteen;
    named = λ q l. elim (true_or_false (q == p)) [
      | inl is ↦ here q (eqb-true q p is)
      | inr is ↦ there q l (eqb-false q p is)
    ];
  };
}
  where
    next : List ℕ
    next = slice_set now (p - 1) side

    here : (q : ℕ) → q ≡ p → side_of next (side_of next q) ≡ side_of next q
    here q e =
        let on : side_of next q ≡ side = ap (side_of next) e ∙ moved_here now p side h.sixteen k in
        ap (side_of next) on ∙ (own ∙ sym on)

    stays : (t : ℕ) → side_of now t ≡ t → side_of next t ≡ t
    stays t e = elim (true_or_false (t == 0)) [
      | inl is ↦ ap (side_of next) (eqb-true t 0 is) ∙ sym (eqb-true t 0 is)
      | inr is ↦
          let some : t ≢ 0 = eqb-false t 0 is in
          let member : IsMember MAX_MEMBERS t = outside now t (λ z. some (sym e ∙ z)) in
          not_moved now p side t k member (λ same. some (sym e ∙ (ap (side_of now) same ∙ free))) ∙ e
    ]

    there : (q : ℕ) → IsMember MAX_MEMBERS q → q ≢ p → side_of next (side_of next q) ≡ side_of next q
    there q l other =
        let same : side_of next q ≡ side_of now q = not_moved now p side q k l other in
        ap (side_of next) same ∙ (stays (side_of now q) (h.named q l) ∙ sym same)

member_on : (now : List ℕ) (p side : ℕ) → IsNamed now → IsMember MAX_MEMBERS p →
    (side_of now p ≡ 0 → side_of (slice_set now (p - 1) side) side ≡ side) → May (with_member_on side now p) (IsOn side)
member_on now p side h k own Q f =
    some_if Q (side_of now p == 0) _ (λ e.
    let free : side_of now p ≡ 0 = eqb-true (side_of now p) 0 e in
    f _ (one_moved now p side h k free (own free)))

more_parts : (side : ℕ) (parts : List Word) (now : List ℕ) → IsMember MAX_MEMBERS side → IsOn side now →
    May (with_parts side now parts) (IsOn side)
more_parts side [] now m h Q f = f now h
more_parts side (part ∷ parts) now m h Q f =
    some_bound Q _ (number_in 1 MAX_MEMBERS part) (number_between 1 MAX_MEMBERS part _
    (λ p k. some_bound Q _ (with_member_on side now p) (member_on now p side h.named k
    (λ free. not_moved now p side side k m (λ same. absurd (apart p free same)) ∙ h.own)
    _ (λ next l. more_parts side parts next m l Q f))))
  where
    apart : (p : ℕ) → side_of now p ≡ 0 → side ≡ p → ⊥
    apart p free same =
        let none : side ≡ 0 = sym h.own ∙ (ap (side_of now) same ∙ free) in
        absurd (omega arith)

-- the first of the parts
pub record IsFirst (word : Word) : Type 0 where
  pub rest : List Word
  pub parts : slice_split (λ c. c == 44) word ≡ part_before word (parted 44 word) ∷ rest

first_part : (word : Word) → IsFirst word
unfolding parted
first_part word = go (ltb n (length word)) refl
  where
    n : ℕ
    n = position_or_len (λ c. c == 44) word

    front : (b : Bool) → Word
    front b = part_before word (option_and_then (λ i. Some (take i word, drop (i + 1) word)) (cond b (Some n) None))

    found : (b : Bool) → ltb n (length word) ≡ b → (rest : List Word) → slice_split (λ c. c == 44) word ≡ front b ∷ rest → IsFirst word
    found b e rest h = record {
      rest = rest;
      parts = h ∙ ap (λ (b : Bool). front b ∷ rest) (sym e);
    }

    go : (b : Bool) → ltb n (length word) ≡ b → IsFirst word
    go true e = found true e _ (slice_split_first (λ c. c == 44) word 0 (ltb-true n (length word) e))
    go false e =
        found false e []
        (slice_split_none (λ c. c == 44) word (λ k d l. fails_before_first (λ c. c == 44) word k d
        (omega (arith, ltb-false n (length word) e))))

set_on : (now : List ℕ) (set : Word) → IsNamed now → May (with_set now set) IsSplit
unfolding with_set
set_on now set h Q f =
    some_bound Q _ (number_in 1 MAX_MEMBERS first)
    (each (number_in 1 MAX_MEMBERS first) (λ P. number_between 1 MAX_MEMBERS first P)
    (λ side k e. subst (λ (parts : List Word). IfSome (with_parts side now parts) Q) (sym (first_part set).parts)
    (rw e
    (some_bound Q _ (with_member_on side now side) (member_on now side side h k (λ free. moved_here now side side h.sixteen k)
    _ (λ next l. more_parts side (first_part set).rest next k l Q (λ end m. f end (m.named, not_whole side end k m.own))))))))
  where
    first : Word
    first = part_before set (parted 44 set)

    not_whole : (side : ℕ) (end : List ℕ) → IsMember MAX_MEMBERS side → side_of end side ≡ side → end ≢ whole
    not_whole side end k own same =
        let none : side ≡ 0 = sym own ∙ (ap (λ (s : List ℕ). side_of s side) same ∙ none_whole side k) in
        absurd (omega (arith, k.0))

    each : {P : ℕ → Type 0} (o : Option ℕ) → May o (IsMember MAX_MEMBERS) →
        ((side : ℕ) → IsMember MAX_MEMBERS side → o ≡ Some side → P side) → IfSome o P
    each None h f = tt
    each (Some side) h f = f side (h (IsMember MAX_MEMBERS) (λ p k. k)) refl

sets_on : (words : List Word) (now : List ℕ) → IsNamed now → IfOk (with_sets now words) IsSplit
sets_on [] now h = tt
sets_on (set ∷ []) now h = found IsSplit (with_set now set) _ (set_on now set h IsSplit (λ next k. k))
sets_on (set ∷ bar ∷ words) now h =
    bound IsSplit (ok_or (with_set now set) _) _ (found _ (with_set now set) _ (set_on now set h _
    (λ next k. either IsSplit (bytes_eq bar (codes "|")) _ _ (sets_on words next k.0) tt)))

whole_named : IsNamed whole
whole_named = record {
  sixteen = refl;
  named = λ p h. ap (side_of whole) (none_whole p h) ∙ sym (none_whole p h);
}

pub cut_fits : (words : List Word) → Gives (cut_of words) IsCut
unfolding cut_of
cut_fits words Q k =
    ok_weaker _ _ (with_sets whole words) (sets_on words whole whole_named)
    (λ sides h. k sides (record { sixteen = h.0.sixteen; named = h.0.named; some = h.1 }))
