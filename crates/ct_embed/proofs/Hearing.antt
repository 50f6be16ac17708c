-- Bytes that a session hears one after another.
use Rattle.std.proofs.Common.{◌≡◌, ◌+◌, ◌<◌, ℕ, List, ◌++◌, refl, append_assoc, length, drop, get_or}
use Rattle.std.proofs.lemmas.List.{at_drop_more}
use Rattle.ct_judge.specs.Sessions.{Hearing, after_byte, said_at, said_by}

-- all that is said once all are heard: the same before a byte and behind it
pub says_as : (t next : Hearing) (text more bytes : List ℕ) (i : ℕ) → i < length bytes → next ≡ after_byte t (get_or bytes i 0) →
    more ≡ text ++ said_at t (get_or bytes i 0) → text ++ said_by t (drop i bytes) ≡ more ++ said_by next (drop (i + 1) bytes)
says_as t next text more bytes i within is adds = rw (at_drop_more (said_by t) bytes i 0 within, adds, is, append_assoc) refl
