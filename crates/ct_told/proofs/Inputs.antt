-- The value of an input.
use Rattle.std.proofs.Common.{◌≡◌, ℕ, Bool, true, false, List, Option, Some, None, refl, sym}
use Rattle.std.specs.Prelude.{if◌then◌else◌}
use Rattle.std.specs.Str.{IsUtf8, is_utf8}
use Rattle.std.proofs.lemmas.Str.{IsUtf8-from_is_utf8, is_utf8-from_IsUtf8}
use Rattle.serde_json.specs.Data.{Data}
use Rattle.serde_json.specs.Read.{read}
use Rattle.ct_records.specs.Script.{data_of}

none_if : (b : Bool) (o : Option Data) → (b ≡ true → o ≡ None) → None ≡ (if b then o else None)
none_if true o h = sym (h refl)
none_if false o h = refl

pub value_read : (bytes : List ℕ) (d : Data) → IsUtf8 bytes → read bytes ≡ Some d → Some d ≡ data_of bytes
value_read bytes d text h = rw (is_utf8-from_IsUtf8 bytes text) (sym h)

pub value_none : (bytes : List ℕ) → (IsUtf8 bytes → read bytes ≡ None) → None ≡ data_of bytes
value_none bytes h = none_if (is_utf8 bytes) (read bytes) (λ e. h (IsUtf8-from_is_utf8 bytes e))
