-- Whole numbers of a range, as std's `parse` reads them.
use Rattle.std.proofs.Common.{◌≡◌, ◌≤◌, ◌<◌, ◌^◌, ℕ, Bool, true, false, List, [], ◌∷◌, length, Some, None, Result, Ok, Err, refl, sym, ap}
use Rattle.std.proofs.Common.{subst, ◌∙◌, arith, nat_le, nat_lt}
use Rattle.std.specs.Char.{digit_value}
use Rattle.std.specs.List.{list_all}
use Rattle.std.specs.Result.{OkIff}
use Rattle.std.specs.Str.Parse.{AllDigits, IsNumeral, ParsesUnsigned, digits_value, without_leading_plus}
use Rattle.std.proofs.Math.Bool.{and-false}
use Rattle.std.proofs.Math.Nat.{lt_of_not-le}
use Rattle.std.proofs.lemmas.Bool.{le-leb, lt-leb, lt-ltb, ltb-true}
use Rattle.clap.specs.Words.{Text}
use Rattle.clap.specs.ValueTests.{is_numeral}
use Rattle.clap.proofs.WalkLemmas.{both}
use Rattle.ct_streams.specs.Arguments.{number_of, whole_in}

digits_pass : (ds : List ℕ) → AllDigits 10 ds → list_all (λ d. nat_lt (digit_value d) 10) ds ≡ true
digits_pass [] h = refl
digits_pass (d ∷ ds) h = rw (lt-ltb (digit_value d) 10 h.0) (digits_pass ds h.1)

digits_from : (ds : List ℕ) → list_all (λ d. nat_lt (digit_value d) 10) ds ≡ true → AllDigits 10 ds
digits_from [] e = tt
digits_from (d ∷ ds) e = let parts = both _ _ e in (ltb-true _ _ parts.0, digits_from ds parts.1)

numeral_passes : (ds : List ℕ) → IsNumeral 10 ds → is_numeral ds ≡ true
numeral_passes ds h = rw (lt-ltb 0 (length ds) h.0) (digits_pass ds h.1)

numeral_from : (ds : List ℕ) → is_numeral ds ≡ true → IsNumeral 10 ds
numeral_from ds e = let parts = both _ _ e in (ltb-true _ _ parts.0, digits_from ds parts.1)

-- the number of a text that was parsed
parsed_number : {E : Type 0} (r : Result ℕ E) (text : Text) (n : ℕ) → r ≡ Ok n → ParsesUnsigned 32 10 text r → number_of text ≡ Some n
parsed_number {E} r text n e h =
    let read : OkIff {E = E} (Ok n) (IsNumeral 10 (without_leading_plus text) × (digits_value 10 (without_leading_plus text) < 2 ^ 32))
    (digits_value 10 (without_leading_plus text)) = subst (ParsesUnsigned 32 10 text) e h in
    rw (numeral_passes (without_leading_plus text) read.0.0) (ap Some (sym read.1))

pub whole_within : {E : Type 0} (r : Result ℕ E) (low high : ℕ) (text : Text) (n : ℕ) → r ≡ Ok n → ParsesUnsigned 32 10 text r → low ≤ n →
    n ≤ high → Some n ≡ whole_in low high text
unfolding whole_in
whole_within r low high text n e h above below = rw (parsed_number r text n e h, le-leb low n above, le-leb n high below) refl

pub whole_above : {E : Type 0} (r : Result ℕ E) (low high : ℕ) (text : Text) (n : ℕ) → r ≡ Ok n → ParsesUnsigned 32 10 text r → high < n →
    None ≡ whole_in low high text
unfolding whole_in
whole_above r low high text n e h over = rw (parsed_number r text n e h, lt-leb n high over, and-false (nat_le low n)) refl

pub whole_below : {E : Type 0} (r : Result ℕ E) (low high : ℕ) (text : Text) (n : ℕ) → r ≡ Ok n → ParsesUnsigned 32 10 text r → n < low →
    None ≡ whole_in low high text
unfolding whole_in
whole_below r low high text n e h under = rw (parsed_number r text n e h, lt-leb low n under) refl

-- a text that isn't parsed is no numeral, or its number is past the type's end
pub whole_none : {E : Type 0} (low high : ℕ) (text : Text) (e : E) → ParsesUnsigned 32 10 text (Err e) → high < 2 ^ 32 →
    None ≡ whole_in low high text
unfolding whole_in
whole_none low high text e h small = go (is_numeral (without_leading_plus text)) refl
  where
    go : (b : Bool) → is_numeral (without_leading_plus text) ≡ b → None ≡ whole_in low high text
    go false t = rw t refl
    go true t =
        let n = digits_value 10 (without_leading_plus text) in
        let past : high < n = lt_of_not-le (λ (below : n ≤ high). h (numeral_from _ t, omega arith)) in
        rw (t, lt-leb n high past, and-false (nat_le low n)) refl
