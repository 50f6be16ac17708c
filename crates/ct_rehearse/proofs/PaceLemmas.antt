-- The least of marks.
use Rattle.std.proofs.Common.{◌≡◌, ℕ, List, [], ◌∷◌, ◌++◌, arith}
use Rattle.std.specs.Prelude.{min}
use Rattle.ct_rehearse.specs.Pace.{least_of}

-- one mark more
pub least_of-snoc : (marks : List ℕ) (mark : ℕ) → least_of (marks ++ mark ∷ []) ≡ min (least_of marks) mark
unfolding least_of
least_of-snoc [] mark = omega arith
least_of-snoc (m ∷ marks) mark = let more = least_of-snoc marks mark in omega (arith, more)
