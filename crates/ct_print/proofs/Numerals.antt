-- Numbers, as they are written and read.
use Rattle.std.proofs.Common.{◌≡◌, ℕ, ◌+◌, ◌-◌, ◌*◌, ◌/◌, ◌%◌, ◌<◌, ◌≤◌, ◌^◌, true, false, cond, leb, [], ◌∷◌, ◌++◌, length, refl, sym, ap}
use Rattle.std.proofs.Common.{◌∙◌, arith, append_assoc, append-nil, length-append}
use Rattle.std.specs.Prelude.{decimal, Some, None}
use Rattle.std.specs.Char.{is_ascii_digit}
use Rattle.std.specs.List.{list_all}
use Rattle.std.proofs.lemmas.Bool.Decides.{nat_tests}
use Rattle.std.proofs.lemmas.Fmt.{decimal_by_steps}
use Rattle.std.proofs.lemmas.List.Folds.{list_all-append}
use Rattle.ct_grammar.specs.Numbers.{number_behind, number_of, number_in}
use Rattle.ct_grammar.specs.Words.{Word}

digit_is : (k : ℕ) → k < 10 → is_ascii_digit (48 + k) ≡ true
digit_is k h = grind (arith, nat_tests)

-- digits, one at least, that are read on as the number
pub record IsNumber (n : ℕ) (word : Word) : Type 0 where
  pub some : 0 < length word
  pub digits : list_all is_ascii_digit word ≡ true
  pub reads : (high : ℕ) (behind : Word) → number_behind high 0 (word ++ behind) ≡ number_behind high n behind

-- one more digit
one_digit : (high m k n : ℕ) (behind : Word) → k < 10 → m * 10 + k ≡ n →
    number_behind high m ((48 + k) ∷ behind) ≡ number_behind high n behind
one_digit high m k n behind h e =
    let value : m * 10 + (48 + k - 48) ≡ n = omega arith in
    ap (λ b. cond b (number_behind high (m * 10 + (48 + k - 48)) behind) None) (digit_is k h) ∙ ap (λ v. number_behind high v behind) value

last_digit : (n : ℕ) (digits : Word) → IsNumber (n / 10) digits → IsNumber n (digits ++ ((48 + n % 10) ∷ []))
last_digit n digits h = record {
  some = omega (arith, h.some, length-append digits ((48 + n % 10) ∷ []));
  digits = list_all-append is_ascii_digit digits ((48 + n % 10) ∷ []) ∙ rw (h.digits, digit_is (n % 10) (omega arith)) refl;
  reads = λ high behind.
      ap (number_behind high 0) (append_assoc digits ((48 + n % 10) ∷ []) behind)
      ∙ (h.reads high ((48 + n % 10) ∷ behind) ∙ one_digit high (n / 10) (n % 10) n behind (omega arith) (omega arith));
}

pub decimal_is_number : (n : ℕ) → n < 2 ^ 64 → IsNumber n (decimal n)
decimal_is_number = decimal_by_steps IsNumber
    (λ n h. record {
      some = omega arith;
      digits = rw (digit_is n h) refl;
      reads = λ high behind. one_digit high 0 n n behind h
          (omega arith);
    })
    (λ n digits h rest. last_digit n digits rest)

-- what is written of a number is read as that number
from_number : (high n : ℕ) (digits : Word) → IsNumber n digits → n ≤ high → number_of high digits ≡ Some n
unfolding number_of
from_number high n [] h l = absurd (omega (arith, h.some))
from_number high n (c ∷ cs) h l =
    let within : leb n high ≡ true = grind (arith, nat_tests) in
    ap (number_behind high 0) (sym (append-nil (c ∷ cs))) ∙ (h.reads high [] ∙ rw within refl)

pub number_back : (high n : ℕ) → high < 2 ^ 64 → n ≤ high → number_of high (decimal n) ≡ Some n
number_back high n small l = from_number high n (decimal n) (decimal_is_number n (omega arith)) l

pub number_in_back : (low high n : ℕ) → high < 2 ^ 64 → low ≤ n → n ≤ high → number_in low high (decimal n) ≡ Some n
unfolding number_in
number_in_back low high n small l m =
    let within : leb low n ≡ true = grind (arith, nat_tests) in
    rw (number_back high n small m, within) refl

-- digits with another byte behind them are no number
pub no_number : (high n c : ℕ) (cs : Word) → n < 2 ^ 64 → is_ascii_digit c ≡ false → number_of high (decimal n ++ c ∷ cs) ≡ None
unfolding number_of
no_number high n c cs h e = go (decimal n) (decimal_is_number n h)
  where
    go : (digits : Word) → IsNumber n digits → number_of high (digits ++ c ∷ cs) ≡ None
    go [] k = absurd (omega (arith, k.some))
    go (d ∷ ds) k = k.reads high (c ∷ cs) ∙ rw e refl
