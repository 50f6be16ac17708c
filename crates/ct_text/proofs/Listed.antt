-- One more member of those that a text goes through.
use Rattle.std.proofs.Common.{◌≡◌, ℕ, ◌+◌, Bool, true, false, cond, List, [], ◌∷◌, ◌++◌, refl, add-one, append-nil}
use Rattle.std.specs.Prelude.{decimal}
use Rattle.ct_names.specs.MemberSet.{has_member}
use Rattle.ct_text.proofs.Pieces.{HasWritten, written_more}
use Rattle.ct_text.specs.Lists.{first_in}

members-more : (set : List ℕ) (i : ℕ) (b : Bool) → has_member set (i + 1) ≡ b →
    first_in set (i + 1) ≡ first_in set i ++ cond b (decimal (i + 1) ∷ []) []
members-more set i b e = rw (← e, add-one) refl

pub in_set_written : (byte : ℕ) (set : List ℕ) (i : ℕ) (old mid new end : List ℕ) (later : Bool) →
    HasWritten byte (first_in set i) old new later → has_member set (i + 1) ≡ true
    → mid ≡ new ++ cond later (byte ∷ []) [] → end ≡ mid ++ decimal (i + 1) → HasWritten byte (first_in set (i + 1)) old end true
in_set_written byte set i old mid new end later h is first second =
    rw (members-more set i true is) (written_more byte (first_in set i) (decimal (i + 1)) old mid new end later h first second)

pub in_set_passed : (byte : ℕ) (set : List ℕ) (i : ℕ) (old new : List ℕ) (later : Bool) → HasWritten byte (first_in set i) old new later →
    has_member set (i + 1) ≡ false → HasWritten byte (first_in set (i + 1)) old new later
in_set_passed byte set i old new later h is = rw (members-more set i false is, append-nil) h
