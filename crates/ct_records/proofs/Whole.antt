-- From bytes to a value.
use Rattle.ct_records.proofs.Common.{nat_tests, ◌≡◌, ℕ, ◌≤◌, ◌<◌, Bool, true, false, cond, List, length, Option, Some, None, Err, refl}
use Rattle.ct_records.proofs.Common.{arith, le-ltb, lt-ltb, inl, inr, take, cases_lt, take_all, length-take, IsUtf8, is_utf8}
use Rattle.ct_records.proofs.Common.{IsUtf8-from_is_utf8, is_utf8-from_IsUtf8, Data, read, NotJson, data_of, of_value, max_len}
use Rattle.ct_records.specs.Script.{script}

none_if : (b : Bool) (o : Option Data) → (b ≡ true → o ≡ None) → cond b o None ≡ None
none_if true o h = h refl
none_if false o h = refl

pub script_bad : (bytes : List ℕ) → length bytes ≤ max_len → (IsUtf8 bytes → read bytes ≡ None) → script bytes ≡ Err NotJson
unfolding script
script_bad bytes short h =
    let none : data_of bytes ≡ None = none_if (is_utf8 bytes) (read bytes) (λ e. h (IsUtf8-from_is_utf8 bytes e)) in
    rw (le-ltb _ _ short, none) refl

pub script_read : (bytes : List ℕ) (d : Data) → length bytes ≤ max_len → IsUtf8 bytes → read bytes ≡ Some d → script bytes ≡ of_value d
unfolding script
script_read bytes d short text h = grind (arith, nat_tests, is_utf8-from_IsUtf8 bytes text, le-ltb _ _ short)

pub not_true : false ≡ true → ⊥
not_true e = cc

-- the first bytes say the same, where they are more than a record may have
pub script_part : (limit : ℕ) (input : List ℕ) → max_len < limit → script (take limit input) ≡ script input
unfolding script
script_part limit input h =
    elim (cases_lt max_len (length input)) [
      | inl long ↦
          let much : max_len < length (take limit input) = omega (arith, length-take limit input) in
          rw (lt-ltb _ _ much, lt-ltb _ _ long) refl
      | inr short ↦
          let same : take limit input ≡ input = take_all limit input (omega arith) in
          rw same refl
    ]
