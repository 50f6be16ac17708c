-- ASCII in front of a text changes nothing of whether it is UTF-8.
use Rattle.ct_records.proofs.Common.{◌≡◌, ℕ, ◌^◌, ◌<◌, true, List, [], ◌∷◌, ◌++◌, decimal, refl, sym, ap, ◌∙◌, arith}
use Rattle.ct_records.proofs.Common.{append_assoc, is_utf8, and_parts, ltb-true, nat_tests, decimal_is_IsNumeral, All-cons, All-head}
use Rattle.ct_records.proofs.Common.{All-nil, All-tail, IsUtf8-append, IsUtf8-past_char, IsUtf8-from_is_utf8, is_utf8-from_IsUtf8}
use Rattle.ct_records.proofs.Common.{encode_ascii, are_ascii, IsUtf8-are_ascii, is_space, IsAscii, IsValid, IsWhite}
use Rattle.std.specs.Str.Parse.{AllDigits}
use Rattle.std.proofs.lemmas.Bool.{lt-ltb}
use Rattle.std.proofs.lemmas.Str.Parse.{digit_from_value}
use Rattle.ct_names.proofs.Sets.{same_test}

-- ---- bytes

ascii_one : (x : ℕ) → x < 128 → are_ascii (x ∷ []) ≡ true
ascii_one x small = rw (lt-ltb x 128 small) refl

byte_front : (x : ℕ) (next : List ℕ) → x < 128 → is_utf8 (x ∷ next) ≡ is_utf8 next
byte_front x next small =
    same_test (is_utf8 (x ∷ next)) (is_utf8 next)
    (λ h.
    is_utf8-from_IsUtf8 next (IsUtf8-past_char (x ∷ next) next x (IsUtf8-from_is_utf8 (x ∷ next) h)
    (ap (λ t. t ++ next) (sym (encode_ascii x small)))))
    (λ h.
    is_utf8-from_IsUtf8 (x ∷ next) (IsUtf8-append (x ∷ []) next (IsUtf8-are_ascii (x ∷ []) (ascii_one x small))
    (IsUtf8-from_is_utf8 next h)))

pub ascii_valid : (xs : List ℕ) → IsAscii xs → IsValid xs
ascii_valid [] h next = refl
ascii_valid (x ∷ xs) h next =
    byte_front x (xs ++ next) (All-head (λ b. b < 128) x xs h) ∙ ascii_valid xs (All-tail (λ b. b < 128) x xs h) next

pub ascii_are : (xs : List ℕ) → are_ascii xs ≡ true → IsAscii xs
ascii_are [] e = All-nil (λ b. b < 128)
ascii_are (x ∷ xs) e =
    let p = and_parts _ _ e in
    All-cons (λ b. b < 128) x xs (ltb-true _ _ p.0) (ascii_are xs p.1)

digits_ascii : (ds : List ℕ) → AllDigits 10 ds → IsAscii ds
digits_ascii [] h = All-nil (λ b. b < 128)
digits_ascii (d ∷ ds) h = All-cons (λ b. b < 128) d ds (omega (arith, digit_from_value d h.0)) (digits_ascii ds h.1)

pub decimal_valid : (n : ℕ) → n < 2 ^ 64 → IsValid (decimal n)
decimal_valid n h = ascii_valid (decimal n) (digits_ascii (decimal n) (decimal_is_IsNumeral n h).0.1)

space_small : (x : ℕ) → is_space x ≡ true → x < 128
space_small x h = grind (arith, nat_tests)

white_ascii : (xs : List ℕ) → IsWhite xs → IsAscii xs
white_ascii [] h = All-nil (λ b. b < 128)
white_ascii (x ∷ xs) h =
    All-cons (λ b. b < 128) x xs (space_small x (All-head (λ b. is_space b ≡ true) x xs h))
    (white_ascii xs (All-tail (λ b. is_space b ≡ true) x xs h))

pub white_valid : (xs : List ℕ) → IsWhite xs → IsValid xs
white_valid xs h = ascii_valid xs (white_ascii xs h)

-- one text behind another
pub valid_then : (s t : List ℕ) → IsValid s → IsValid t → IsValid (s ++ t)
valid_then s t h k next = ap is_utf8 (append_assoc s t next) ∙ h (t ++ next) ∙ k next
