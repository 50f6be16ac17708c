-- Clauses on results.
use Rattle.std.proofs.Common.{◌≡◌, true}
use Rattle.std.specs.Prelude.{OnErr, OnOk, Result, Ok, Err, is_ok}

pub on_err : {T E : Type 0} {P : Type 0} (r : Result T E) → P → OnErr r P
on_err (Ok x) h = tt
on_err (Err e) h = h

pub from_ok : {T E : Type 0} {P : Type 0} (r : Result T E) → is_ok r ≡ true → OnOk r P → P
from_ok (Ok x) e h = h
from_ok (Err fault) e h = absurd (cc)
