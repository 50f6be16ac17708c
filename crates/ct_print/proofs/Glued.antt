-- Words that do not go on behind a blank, since no comma ends them.
use Rattle.std.proofs.Common.{◌≡◌, ℕ, ◌-◌, ◌<◌, ◌==◌, true, false, List, [], ◌∷◌, ◌++◌, length, map, refl, sym, ap, ◌∙◌, arith, append-nil}
use Rattle.std.proofs.Common.{append_assoc, length-append}
use Rattle.std.specs.Prelude.{codes, decimal, nat_eq}
use Rattle.std.specs.List.{ends_with, join_with_byte, list_all}
use Rattle.std.specs.Char.{is_ascii_digit}
use Rattle.std.proofs.lemmas.Bool.Decides.{nat_tests}
use Rattle.std.proofs.Math.Seq.{drop-append_seam}
use Rattle.ct_names.proofs.Lists.{both-left, both-right}
use Rattle.ct_grammar.specs.declared.claim.Name.{Name}
use Rattle.ct_grammar.specs.Names.{glued}
use Rattle.ct_grammar.specs.Words.{Word}
use Rattle.ct_print.specs.Reports.{name_text, value_text}
use Rattle.ct_print.specs.Writable.{NameFits, NamesFit}
use Rattle.ct_print.proofs.Numerals.{IsNumber, decimal_is_number}

stays : (word : Word) (words : List Word) → ends_with nat_eq word (codes ",") ≡ false → glued word words ≡ (word, words)
stays word [] h = refl
stays word (next ∷ words) h = rw h refl

other_last : (front : Word) (c : ℕ) → (44 == c) ≡ false → ends_with nat_eq (front ++ c ∷ []) (codes ",") ≡ false
other_last front c h =
    let place : length (front ++ c ∷ []) - 1 ≡ length front = omega (arith, length-append front (c ∷ [])) in
    rw (place, drop-append_seam front (c ∷ []), h) refl

-- ---- values

pub value_stays : (names : List Name) (words : List Word) → glued (value_text names) words ≡ (value_text names, words)
unfolding value_text
value_stays names words =
    stays (value_text names) words (other_last (123 ∷ join_with_byte 44 (map name_text names)) 125 refl)

-- ---- names

-- a digit ends the word
record EndsInDigit (word : Word) : Type 0 where
  front : Word
  digit : ℕ
  whole : word ≡ front ++ digit ∷ []
  is : is_ascii_digit digit ≡ true

digit_no_comma : (digit : ℕ) → is_ascii_digit digit ≡ true → (44 == digit) ≡ false
digit_no_comma digit h = grind (arith, nat_tests)

digit_stays : (word : Word) (words : List Word) → EndsInDigit word → glued word words ≡ (word, words)
digit_stays word words h =
    stays word words (ap (λ (w : Word). ends_with nat_eq w (codes ",")) h.whole ∙ other_last h.front h.digit (digit_no_comma h.digit h.is))

behind : (front word : Word) → EndsInDigit word → EndsInDigit (front ++ word)
behind front word h = record {
  front = front ++ h.front;
  digit = h.digit;
  whole = ap (λ (w : Word). front ++ w) h.whole ∙ sym (append_assoc front h.front (h.digit ∷ []));
  is = h.is;
}

digits_end : (word : Word) → 0 < length word → list_all is_ascii_digit word ≡ true → EndsInDigit word
digits_end [] some h = absurd (omega (arith, some))
digits_end (c ∷ []) some h = record { front = []; digit = c; whole = refl; is = both-left (is_ascii_digit c) true h }
digits_end (c ∷ next ∷ cs) some h =
    behind (c ∷ []) (next ∷ cs)
    (digits_end (next ∷ cs) (omega arith) (both-right (is_ascii_digit c) (list_all is_ascii_digit (next ∷ cs)) h))

name_ends : (name : Name) → NameFits name → EndsInDigit (name_text name)
unfolding name_text
name_ends name h =
    let is : IsNumber name.number (decimal name.number) = decimal_is_number name.number (omega (arith, h.1)) in
    behind (decimal name.origin) (46 ∷ (decimal name.number ++ []))
    (behind (46 ∷ []) (decimal name.number ++ [])
    (rw (append-nil (decimal name.number)) (digits_end (decimal name.number) is.some is.digits)))

names_end : (name : Name) (names : List Name) → NamesFit (name ∷ names) → EndsInDigit (join_with_byte 44 (map name_text (name ∷ names)))
names_end name [] h = name_ends name h.0
names_end name (next ∷ names) h =
    behind (name_text name) _ (behind (44 ∷ []) (join_with_byte 44 (map name_text (next ∷ names))) (names_end next names h.1))

pub names_stay : (name : Name) (names : List Name) (words : List Word) → NamesFit (name ∷ names) →
    glued (123 ∷ join_with_byte 44 (map name_text (name ∷ names))) words
    ≡ (123 ∷ join_with_byte 44 (map name_text (name ∷ names)), words)
names_stay name names words h = digit_stays _ words (behind (123 ∷ []) _ (names_end name names h))
