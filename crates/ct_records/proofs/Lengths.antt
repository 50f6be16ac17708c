-- Texts in ASCII of bounded length.
use Rattle.ct_records.proofs.Common.{◌≡◌, ℕ, ◌+◌, ◌^◌, ◌<◌, ◌≤◌, true, List, ◌++◌, length, decimal, arith, length-append, IsUtf8}
use Rattle.ct_records.proofs.Common.{IsAscii-decimal, length-decimal-le, IsUtf8-append, IsUtf8-from_ascii, are_ascii, IsUtf8-are_ascii}

pub record Text (t : List ℕ) (k : ℕ) : Type 0 where
  pub utf8 : IsUtf8 t
  pub short : length t ≤ k

pub plain : (t : List ℕ) → are_ascii t ≡ true → Text t (length t)
plain t h = record { utf8 = IsUtf8-are_ascii t h; short = omega arith }

digits : (k n : ℕ) → 0 < k → n < 10 ^ k → n < 2 ^ 64 → Text (decimal n) k
digits k n some few h = record { utf8 = IsUtf8-from_ascii (decimal n) (IsAscii-decimal n h); short = length-decimal-le k n some few h }

pub byte : (n : ℕ) → n ≤ 255 → Text (decimal n) 3
byte n h = digits 3 n (omega arith) (omega arith) (omega arith)

pub value : (n : ℕ) → n ≤ 18446744073709551615 → Text (decimal n) 20
value n h = digits 20 n (omega arith) (omega arith) (omega arith)

pub then : (s t : List ℕ) (j k : ℕ) → Text s j → Text t k → Text (s ++ t) (j + k)
then s t j k h i = record { utf8 = IsUtf8-append s t h.utf8 i.utf8; short = omega (arith, length-append s t, h.short, i.short) }

pub weaker : (t : List ℕ) (j k : ℕ) → Text t j → j ≤ k → Text t k
weaker t j k h le = record { utf8 = h.utf8; short = omega (arith, h.short) }
