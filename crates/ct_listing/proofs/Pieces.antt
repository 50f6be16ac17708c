-- Words of digits and marks between them, with spaces between the words.
use Rattle.std.proofs.Common.{◌≡◌, ◌<◌, ◌/◌, ◌%◌, ℕ, zero, suc, Bool, true, false, not, List, [], ◌∷◌, ◌++◌, refl, ◌∙◌, arith, length, eqb}
use Rattle.std.proofs.Common.{cond}
use Rattle.std.specs.Prelude.{decimal, nat_le, ◌&&◌}
use Rattle.std.specs.List.{join_with_byte, list_all, concat}
use Rattle.std.specs.Fmt.{digits, digits_onto, digit_glyph}
use Rattle.std.proofs.lemmas.Bool.Decides.{nat_tests}
use Rattle.std.proofs.lemmas.List.Folds.{list_all-append}
use Rattle.ct_grammar.specs.Words.{Word}
use Rattle.ct_judging.specs.Reading.{begins_record}
use Rattle.ct_grammar.specs.Texts.{is_feed}
use Rattle.ct_listing.specs.Leading.{one_line}
use Rattle.ct_names.proofs.Lists.{both-left, both-right}

-- a byte that is no letter, and neither ends a line nor begins a record
abbrev pub is_mark : ℕ → Bool
is_mark c = nat_le 36 c && nat_le c 61

pub record IsPiece (word : Word) : Type 0 where
  pub some : 0 < length word
  pub marks : list_all is_mark word ≡ true

abbrev pub Pieces : List Word → Type 0
Pieces [] = Unit {0}
Pieces (word ∷ words) = IsPiece word × Pieces words

-- ---- numbers

digit_mark : (n : ℕ) → is_mark (digit_glyph false (n % 10)) ≡ true
digit_mark n = grind (arith, nat_tests)

either : (first : Bool) (word other : Word) → IsPiece word → IsPiece other → IsPiece (cond first word other)
either true word other h k = h
either false word other h k = k

digit_first : (n : ℕ) (acc : List ℕ) → list_all is_mark acc ≡ true → IsPiece (digit_glyph false (n % 10) ∷ acc)
digit_first n acc h = record { some = omega arith; marks = rw (digit_mark n, h) refl }

piece_onto : (k n : ℕ) (acc : List ℕ) → list_all is_mark acc ≡ true → IsPiece (digits_onto (suc k) 10 false n acc)
piece_onto zero n acc h = either (eqb (n / 10) 0) _ _ (digit_first n acc h) (digit_first n acc h)
piece_onto (suc k) n acc h =
    let first = digit_first n acc h in
    either (eqb (n / 10) 0) _ _ first (piece_onto k (n / 10) (digit_glyph false (n % 10) ∷ acc) first.marks)

pub decimal_piece : (n : ℕ) → IsPiece (decimal n)
unfolding digits
decimal_piece n = piece_onto 63 n [] refl

-- two numbers with such a byte between them
pub pair_piece : (m c n : ℕ) → is_mark c ≡ true → IsPiece (concat (decimal m ∷ (c ∷ []) ∷ decimal n ∷ []))
pair_piece m c n e =
    let first = decimal_piece m in
    let second = decimal_piece n in
    record {
      some = longer (decimal m) (c ∷ decimal n ++ []) first.some;
      marks =
          list_all-append is_mark (decimal m) (c ∷ decimal n ++ [])
          ∙ rw (first.marks, e) (list_all-append is_mark (decimal n) [] ∙ rw second.marks refl);
    }
  where
    longer : (xs ys : List ℕ) → 0 < length xs → 0 < length (xs ++ ys)
    longer [] ys h = absurd (omega arith)
    longer (x ∷ xs) ys h = omega arith

-- ---- words

marks_are : (test : ℕ → Bool) → ((c : ℕ) → is_mark c ≡ true → test c ≡ true) → (word : Word) → list_all is_mark word ≡ true →
    list_all test word ≡ true
marks_are test each [] h = refl
marks_are test each (c ∷ cs) h =
    rw (each c (both-left (is_mark c) (list_all is_mark cs) h)) (marks_are test each cs (both-right (is_mark c) (list_all is_mark cs) h))

-- ---- one line

pub marks_line : (word : Word) → list_all is_mark word ≡ true → one_line word ≡ true
marks_line word h = marks_are (λ c. not (is_feed c)) (λ c e. grind (arith, nat_tests)) word h

pub line_append : (xs ys : List ℕ) → one_line xs ≡ true → one_line ys ≡ true → one_line (xs ++ ys) ≡ true
line_append xs ys h k = list_all-append (λ c. not (is_feed c)) xs ys ∙ rw (h, k) refl

pub joined_line : (words : List Word) → Pieces words → one_line (join_with_byte 32 words) ≡ true
joined_line [] h = refl
joined_line (word ∷ []) h = marks_line word h.0.marks
joined_line (word ∷ next ∷ words) h =
    line_append word (32 ∷ join_with_byte 32 (next ∷ words)) (marks_line word h.0.marks) (joined_line (next ∷ words) h.1)

-- ---- no record

pub no_brace : (word rest : Word) → IsPiece word → begins_record (word ++ rest) ≡ false
no_brace [] rest h = absurd (omega (arith, h.some))
no_brace (c ∷ cs) rest h =
    let mark : is_mark c ≡ true = both-left (is_mark c) (list_all is_mark cs) h.marks in
    grind (arith, nat_tests)
