-- Bytes that stand for themselves in a string, and values whose text has no line feed.
use Rattle.ct_json.proofs.Common.{◌≡◌, ℕ, zero, suc, ◌+◌, ◌%◌, ◌/◌, ◌≤◌, ◌==◌, Bool, true, false, cond, List, [], ◌∷◌, ◌++◌, decimal, refl}
use Rattle.ct_json.proofs.Common.{ap, arith, escape, quoted}
use Rattle.std.proofs.lemmas.Bool.{lt-ltb}
use Rattle.std.specs.Prelude.{⊤}
use Rattle.std.specs.Fmt.{digits, digits_onto, digit_glyph}
use Rattle.json.proofs.Printed.Strings.{escape_byte_plain}

-- neither a quotation mark nor a backslash nor a control byte
pub record IsSelf (x : ℕ) : Type 0 where
  pub no_quote : x ≡ 34 → ⊥
  pub no_backslash : x ≡ 92 → ⊥
  pub no_control : 32 ≤ x

abbrev pub AreSelf : List ℕ → Type 0
AreSelf [] = ⊤
AreSelf (x ∷ xs) = IsSelf x × AreSelf xs

pub both_self : (xs ys : List ℕ) → AreSelf xs → AreSelf ys → AreSelf (xs ++ ys)
both_self [] ys h k = k
both_self (x ∷ xs) ys h k = (h.0, both_self xs ys h.1 k)

-- nothing is escaped
escaped_self : (xs : List ℕ) → AreSelf xs → escape xs ≡ xs
escaped_self [] h = refl
escaped_self (x ∷ xs) h = rw (escape_byte_plain x h.0.no_quote h.0.no_backslash h.0.no_control, escaped_self xs h.1) refl

pub quoted_self : (xs : List ℕ) → AreSelf xs → quoted xs ≡ 34 ∷ (xs ++ 34 ∷ [])
quoted_self xs h = ap (λ t. 34 ∷ (t ++ 34 ∷ [])) (escaped_self xs h)

-- ---- digits

digit_self : (n : ℕ) → IsSelf (digit_glyph false (n % 10))
digit_self n =
    let is : digit_glyph false (n % 10) ≡ 48 + n % 10 = rw (lt-ltb (n % 10) 10 (omega arith)) refl in
    record { no_quote = λ e. omega (arith, is); no_backslash = λ e. omega (arith, is); no_control = omega (arith, is) }

either_self : (c : Bool) (xs ys : List ℕ) → AreSelf xs → AreSelf ys → AreSelf (cond c xs ys)
either_self true xs ys h k = h
either_self false xs ys h k = k

onto_self : (k n : ℕ) (xs : List ℕ) → AreSelf xs → AreSelf (digits_onto k 10 false n xs)
onto_self zero n xs h = h
onto_self (suc k) n xs h =
    let d = digit_glyph false (n % 10) in
    either_self (n / 10 == 0) (d ∷ xs) _ (digit_self n, h) (onto_self k (n / 10) (d ∷ xs) (digit_self n, h))

pub decimal_self : (n : ℕ) → AreSelf (decimal n)
unfolding digits
decimal_self n = onto_self 64 n [] tt
