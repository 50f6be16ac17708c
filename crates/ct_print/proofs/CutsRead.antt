-- Cuts, written and read.
use Rattle.std.proofs.Common.{◌≡◌, ◌≢◌, ℕ, ◌+◌, ◌-◌, ◌==◌, Bool, true, false, not, cond, List, [], ◌∷◌, ◌++◌, length, map, filter, get_or}
use Rattle.std.proofs.Common.{refl, sym, ap, ◌∙◌, arith, append-nil, inl, inr, eqb-true, eq-eqb, get_or-set_same, get_or-set_other}
use Rattle.std.proofs.Common.{ext_get_or, length-set}
use Rattle.std.specs.Prelude.{codes, decimal, Some, Ok, slice_set}
use Rattle.std.proofs.lemmas.Bool.{eqb-false}
use Rattle.std.proofs.lemmas.Bool.Decides.{nat_tests}
use Rattle.std.proofs.lemmas.List.{get_or-replicate}
use Rattle.ct_names.specs.Group.{everyone, IsMember, is_member}
use Rattle.ct_names.specs.Membership.{IsIn, IsWithoutRepeats}
use Rattle.ct_names.specs.declared.limit.TheConstants.{MAX_MEMBERS}
use Rattle.ct_names.proofs.Groups.{once-everyone, member_from_one, member_to_n}
use Rattle.ct_names.proofs.Lists.{IsIn-filter, IsIn-filter_from, IsIn-filter_passes, IsWithoutRepeats-filter, both-left, both-right}
use Rattle.ct_names.proofs.Lists.{contrary, true_or_false, not-true}
use Rattle.ct_names.proofs.MemberSets.{in-everyone, everyone-in}
use Rattle.ct_grammar.specs.Cuts.{with_sets, cut_of}
use Rattle.ct_grammar.specs.Sides.{whole, side_of, with_parts, with_set}
use Rattle.ct_grammar.specs.Words.{Word}
use Rattle.ct_print.specs.Cuts.{is_own, is_other, side_text, barred, sides_text}
use Rattle.ct_print.specs.Members.{set_text}
use Rattle.ct_print.specs.Writable.{IsCut}
use Rattle.ct_print.proofs.Numerals.{number_in_back}
use Rattle.ct_print.proofs.Numeric.{IsNumeric, numeric_reads, decimal_digits}
use Rattle.ct_print.proofs.Parts.{AreSmall, numbers_text, parts_of, parted_behind, digits_lack, alone_parted}
use Rattle.ct_print.proofs.TextWords.{Reads, beside, word_before}
use Rattle.ct_print.proofs.Spoken.{set_numeric}

-- ---- sides

pub inside : (sides : List ℕ) (p : ℕ) → IsMember MAX_MEMBERS p → side_of sides p ≡ get_or sides (p - 1) 0
inside sides p h =
    let test : is_member MAX_MEMBERS p ≡ true = grind (arith, nat_tests, h.0, h.1) in
    rw test refl

pub outside : (sides : List ℕ) (p : ℕ) → side_of sides p ≢ 0 → IsMember MAX_MEMBERS p
outside sides p h = go (is_member MAX_MEMBERS p) refl
  where
    go : (b : Bool) → is_member MAX_MEMBERS p ≡ b → IsMember MAX_MEMBERS p
    go true e = (member_from_one MAX_MEMBERS p e, member_to_n MAX_MEMBERS p e)
    go false e = absurd (h (ap (λ (b : Bool). cond b (get_or sides (p - 1) 0) 0) e))

-- sixteen sides are those of the members
same_sides : (one other : List ℕ) → length one ≡ MAX_MEMBERS → length other ≡ MAX_MEMBERS →
    ((p : ℕ) → IsMember MAX_MEMBERS p → side_of one p ≡ side_of other p) → one ≡ other
same_sides one other h k same =
    ext_get_or 0 one other (h ∙ sym k)
    (λ i l.
    let member : IsMember MAX_MEMBERS (i + 1) = (omega arith, omega arith) in
    let place : i + 1 - 1 ≡ i = omega arith in
    ap (λ (j : ℕ). get_or one j 0) (sym place)
    ∙ (sym (inside one (i + 1) member) ∙ (same (i + 1) member ∙ (inside other (i + 1) member ∙ ap (λ (j : ℕ). get_or other j 0) place))))

pub moved_here : (now : List ℕ) (p side : ℕ) → length now ≡ MAX_MEMBERS → IsMember MAX_MEMBERS p →
    side_of (slice_set now (p - 1) side) p ≡ side
moved_here now p side l h =
    inside (slice_set now (p - 1) side) p h ∙ get_or-set_same now (p - 1) side 0 (omega (arith, h.0, h.1))

pub not_moved : (now : List ℕ) (p side q : ℕ) → IsMember MAX_MEMBERS p → IsMember MAX_MEMBERS q → q ≢ p →
    side_of (slice_set now (p - 1) side) q ≡ side_of now q
not_moved now p side q h k other =
    let apart : q - 1 ≢ p - 1 = λ same. other (omega (arith, h.0, k.0)) in
    inside (slice_set now (p - 1) side) q k ∙ (get_or-set_other now (p - 1) (q - 1) side 0 apart ∙ sym (inside now q k))

-- ---- one side

-- the members are put on the side, and no others
pub record IsPut (side : ℕ) (ps now : List ℕ) : Type 0 where
  pub next : List ℕ
  pub parts : with_parts side now (map decimal ps) ≡ Some next
  pub sixteen : length next ≡ MAX_MEMBERS
  pub on : (q : ℕ) → IsMember MAX_MEMBERS q → IsIn q ps → side_of next q ≡ side
  pub off : (q : ℕ) → IsMember MAX_MEMBERS q → (IsIn q ps → ⊥) → side_of next q ≡ side_of now q

put : (side : ℕ) (ps now : List ℕ) → AreSmall ps → IsWithoutRepeats ps → length now ≡ MAX_MEMBERS →
    ((q : ℕ) → IsIn q ps → side_of now q ≡ 0) → IsPut side ps now
put side [] now small once l free = record { next = now; parts = refl; sixteen = l; on = λ q k i. absurd i; off = λ q k i. refl }
put side (p ∷ ps) now small once l free =
    let here : IsMember MAX_MEMBERS p = small p (inl refl) in
    let moved : List ℕ = slice_set now (p - 1) side in
    let apart : (q : ℕ) → IsIn q ps → q ≢ p = λ q i same. once.0 (rw same at i) in
    let rest : IsPut side ps moved =
    put side ps moved (λ q i. small q (inr i)) once.1 (length-set now (p - 1) side ∙ l)
    (λ q i. not_moved now p side q here (small q (inr i)) (apart q i) ∙ free q (inr i)) in
    let test : (side_of now p == 0) ≡ true = eq-eqb (side_of now p) 0 (free p (inl refl)) in
    record {
      next = rest.next;
      parts = rw (number_in_back 1 MAX_MEMBERS p (omega arith) here.0 here.1, test) rest.parts;
      sixteen = rest.sixteen;
      on = λ q k i. elim i [
        | inl e ↦ rest.off q k (λ i. once.0 (rw e at i)) ∙ (ap (side_of moved) e ∙ moved_here now p side l here)
        | inr i ↦ rest.on q k i
      ];
      off = λ q k i. rest.off q k (λ j. i (inr j)) ∙ not_moved now p side q here k (λ e. i (inl e));
    }

-- a set is put on the side of its first member
set_parts : (s : ℕ) (others now : List ℕ) → AreSmall (s ∷ others) →
    with_set now (numbers_text (s ∷ others)) ≡ with_parts s now (map decimal (s ∷ others))
unfolding with_set
set_parts s [] now small =
    let here : IsMember MAX_MEMBERS s = small s (inl refl) in
    rw (
      parts_of s [] small,
      alone_parted (decimal s) (decimal_digits s (omega (arith, here.1))),
      number_in_back 1 MAX_MEMBERS s (omega arith) here.0 here.1,
    ) refl
set_parts s (next ∷ others) now small =
    let here : IsMember MAX_MEMBERS s = small s (inl refl) in
    rw (
      parts_of s (next ∷ others) small,
      parted_behind 44 (decimal s) (numbers_text (next ∷ others))
          (digits_lack 44 (decimal s) refl (decimal_digits s (omega (arith, here.1)))),
      number_in_back 1 MAX_MEMBERS s (omega arith) here.0 here.1,
    ) refl

-- ---- the members of a side

others_of : List ℕ → ℕ → List ℕ
others_of sides s = filter (is_other sides s) everyone

small_side : (sides : List ℕ) (s : ℕ) → IsMember MAX_MEMBERS s → AreSmall (s ∷ others_of sides s)
unfolding others_of
small_side sides s h q (inl e) = rw e h
small_side sides s h q (inr i) = everyone-in q (IsIn-filter_from (is_other sides s) q everyone i)

on_side : (sides : List ℕ) (s q : ℕ) → side_of sides s ≡ s → IsIn q (s ∷ others_of sides s) → side_of sides q ≡ s
unfolding others_of
on_side sides s q own (inl e) = ap (side_of sides) e ∙ own
on_side sides s q own (inr i) =
    eqb-true (side_of sides q) s (both-right (not (q == s)) (side_of sides q == s) (IsIn-filter_passes (is_other sides s) q everyone i))

from_side : (sides : List ℕ) (s q : ℕ) → IsMember MAX_MEMBERS q → side_of sides q ≡ s → IsIn q (s ∷ others_of sides s)
unfolding others_of
from_side sides s q h e = elim (true_or_false (q == s)) [
  | inl is ↦ inl (eqb-true q s is)
  | inr is ↦
      let test : is_other sides s q ≡ true = rw (is, eq-eqb (side_of sides q) s e) refl in
      inr (IsIn-filter (is_other sides s) q everyone test (in-everyone q h))
]

once_side : (sides : List ℕ) (s : ℕ) → IsWithoutRepeats (s ∷ others_of sides s)
unfolding others_of
once_side sides s = (
  λ i.
      let other : (s == s) ≡ false =
      not-true (s == s) (both-left (not (s == s)) (side_of sides s == s) (IsIn-filter_passes (is_other sides s) s everyone i)) in
      contrary (s == s) (eq-eqb s s refl) other,
  IsWithoutRepeats-filter (is_other sides s) everyone once-everyone,
)

-- ---- all sides

-- the members of these sides are on none so far, and the others where they are to be
pub record IsBefore (sides ss now : List ℕ) : Type 0 where
  pub sixteen : length now ≡ MAX_MEMBERS
  pub free : (q : ℕ) → IsMember MAX_MEMBERS q → IsIn (side_of sides q) ss → side_of now q ≡ 0
  pub done : (q : ℕ) → IsMember MAX_MEMBERS q → (IsIn (side_of sides q) ss → ⊥) → side_of now q ≡ side_of sides q

-- the numbers of sides of their own
pub record AreOwn (sides ss : List ℕ) : Type 0 where
  pub once : IsWithoutRepeats ss
  pub own : (s : ℕ) → IsIn s ss → side_of sides s ≡ s
  pub small : (s : ℕ) → IsIn s ss → IsMember MAX_MEMBERS s

own_rest : (sides : List ℕ) (s : ℕ) (ss : List ℕ) → AreOwn sides (s ∷ ss) → AreOwn sides ss
own_rest sides s ss h = record { once = h.once.1; own = λ q i. h.own q (inr i); small = λ q i. h.small q (inr i) }

side_put : (sides : List ℕ) (s : ℕ) (ss now : List ℕ) → AreOwn sides (s ∷ ss) → IsBefore sides (s ∷ ss) now →
    IsPut s (s ∷ others_of sides s) now
side_put sides s ss now h b =
    let small : AreSmall (s ∷ others_of sides s) = small_side sides s (h.small s (inl refl)) in
    put s (s ∷ others_of sides s) now small (once_side sides s) b.sixteen (free small)
  where
    free : AreSmall (s ∷ others_of sides s) → (q : ℕ) → IsIn q (s ∷ others_of sides s) → side_of now q ≡ 0
    free small q i = b.free q (small q i) (inl (on_side sides s q (h.own s (inl refl)) i))

set_put : (sides : List ℕ) (s : ℕ) (ss now : List ℕ) (h : AreOwn sides (s ∷ ss)) (b : IsBefore sides (s ∷ ss) now) →
    with_set now (side_text sides s) ≡ Some (side_put sides s ss now h b).next
unfolding side_text set_text others_of
set_put sides s ss now h b =
    set_parts s (others_of sides s) now (small_side sides s (h.small s (inl refl))) ∙ (side_put sides s ss now h b).parts

before_next : (sides : List ℕ) (s : ℕ) (ss now : List ℕ) (h : AreOwn sides (s ∷ ss)) (b : IsBefore sides (s ∷ ss) now) →
    IsBefore sides ss (side_put sides s ss now h b).next
before_next sides s ss now h b = record {
  sixteen = (side_put sides s ss now h b).sixteen;
  free = λ q k i.
      let other : IsIn q (s ∷ others_of sides s) → ⊥ =
      λ j. h.once.0 (rw (on_side sides s q (h.own s (inl refl)) j) at i) in
      (side_put sides s ss now h b).off q k other ∙ b.free q k (inr i);
  done = λ q k i. elim (true_or_false (side_of sides q == s)) [
    | inl is ↦
        let e : side_of sides q ≡ s = eqb-true (side_of sides q) s is in
        (side_put sides s ss now h b).on q k (from_side sides s q k e) ∙ sym e
    | inr is ↦
        let e : side_of sides q ≢ s = eqb-false (side_of sides q) s is in
        (side_put sides s ss now h b).off q k (λ j. e (on_side sides s q (h.own s (inl refl)) j))
        ∙ b.done q k (λ j. elim j [ inl same ↦ e same | inr l ↦ i l ])
  ];
}

-- a bar between each two
abbrev pub bar_words : List Word → List Word
bar_words [] = []
bar_words (word ∷ []) = word ∷ []
bar_words (word ∷ next ∷ words) = word ∷ codes "|" ∷ bar_words (next ∷ words)

sets_back : (sides : List ℕ) (s : ℕ) (ss now : List ℕ) → length sides ≡ MAX_MEMBERS → AreOwn sides (s ∷ ss) → IsBefore sides (s ∷ ss) now →
    with_sets now (bar_words (map (side_text sides) (s ∷ ss))) ≡ Ok sides
sets_back sides s [] now l h b =
    let after : IsBefore sides [] (side_put sides s [] now h b).next = before_next sides s [] now h b in
    rw (set_put sides s [] now h b)
    (ap Ok (same_sides (side_put sides s [] now h b).next sides after.sixteen l (λ q k. after.done q k (λ i. i))))
sets_back sides s (next ∷ ss) now l h b =
    rw (set_put sides s (next ∷ ss) now h b)
    (sets_back sides next ss (side_put sides s (next ∷ ss) now h b).next l (own_rest sides s (next ∷ ss) h)
    (before_next sides s (next ∷ ss) now h b))

-- ---- the cut

pub numbers_of : List ℕ → List ℕ
numbers_of sides = filter (is_own sides) everyone

own_numbers : (sides : List ℕ) → AreOwn sides (numbers_of sides)
unfolding numbers_of
own_numbers sides = record {
  once = IsWithoutRepeats-filter (is_own sides) everyone once-everyone;
  own = λ s i. eqb-true (side_of sides s) s (IsIn-filter_passes (is_own sides) s everyone i);
  small = λ s i. everyone-in s (IsIn-filter_from (is_own sides) s everyone i);
}

-- who is on no side of its own is on side 0
on_none : (sides : List ℕ) → IsCut sides → (q : ℕ) → IsMember MAX_MEMBERS q → (IsIn (side_of sides q) (numbers_of sides) → ⊥) →
    side_of sides q ≡ 0
unfolding numbers_of
on_none sides h q k out = elim (true_or_false (side_of sides q == 0)) [
  | inl is ↦ eqb-true (side_of sides q) 0 is
  | inr is ↦
      let some : side_of sides q ≢ 0 = eqb-false (side_of sides q) 0 is in
      let s : ℕ = side_of sides q in
      let own : side_of sides s ≡ s = h.named q k in
      let member : IsMember MAX_MEMBERS s = outside sides s (λ e. some (sym own ∙ e)) in
      absurd (out (IsIn-filter (is_own sides) s everyone (eq-eqb (side_of sides s) s own) (in-everyone s member)))
]

pub none_whole : (q : ℕ) → IsMember MAX_MEMBERS q → side_of whole q ≡ 0
none_whole q h = inside whole q h ∙ get_or-replicate 16 (q - 1) 0 0 (omega (arith, h.0, h.1))

before_all : (sides : List ℕ) → IsCut sides → IsBefore sides (numbers_of sides) whole
before_all sides h = record {
  sixteen = refl;
  free = λ q k i. none_whole q k;
  done = λ q k out. none_whole q k ∙ sym (on_none sides h q k out);
}

pub cut_words : List ℕ → List Word
cut_words sides = bar_words (map (side_text sides) (numbers_of sides))

pub cut_back : (sides : List ℕ) → IsCut sides → cut_of (cut_words sides) ≡ Ok sides
unfolding cut_of cut_words
cut_back sides h = go (numbers_of sides) (own_numbers sides) (before_all sides h)
  where
    go : (ss : List ℕ) → AreOwn sides ss → IsBefore sides ss whole → with_sets whole (bar_words (map (side_text sides) ss)) ≡ Ok sides
    go [] own b = absurd (h.some (same_sides sides whole h.sixteen refl (λ q k. sym (b.done q k (λ i. i)))))
    go (s ∷ ss) own b = sets_back sides s ss whole h.sixteen own b

side_numeric : (sides : List ℕ) (s : ℕ) → IsMember MAX_MEMBERS s → IsNumeric (side_text sides s)
unfolding side_text others_of
side_numeric sides s h = set_numeric (s ∷ others_of sides s) (omega arith) (small_side sides s h)

barred_reads : (sides : List ℕ) (s : ℕ) (ss : List ℕ) → AreSmall (s ∷ ss) →
    Reads (barred (map (side_text sides) (s ∷ ss))) (bar_words (map (side_text sides) (s ∷ ss)))
barred_reads sides s [] h = numeric_reads (side_text sides s) (side_numeric sides s (h s (inl refl)))
barred_reads sides s (next ∷ ss) h =
    rw (append-nil (barred (map (side_text sides) (next ∷ ss))))
    (beside (side_text sides s) (codes "|" ++ 32 ∷ barred (map (side_text sides) (next ∷ ss)))
    (side_text sides s ∷ []) (codes "|" ∷ bar_words (map (side_text sides) (next ∷ ss)))
    (numeric_reads (side_text sides s) (side_numeric sides s (h s (inl refl))))
    (word_before (codes "|") _ _ refl (barred_reads sides next ss (λ q i. h q (inr i)))))

pub cut_reads : (sides : List ℕ) → IsCut sides → Reads (sides_text sides) (cut_words sides)
unfolding sides_text cut_words numbers_of
cut_reads sides h = go (numbers_of sides) (own_numbers sides) (before_all sides h)
  where
    go : (ss : List ℕ) → AreOwn sides ss → IsBefore sides ss whole →
        Reads (barred (map (side_text sides) ss)) (bar_words (map (side_text sides) ss))
    go [] own b = absurd (h.some (same_sides sides whole h.sixteen refl (λ q k. sym (b.done q k (λ i. i)))))
    go (s ∷ ss) own b = barred_reads sides s ss own.small
