use Rattle.std.proofs.Common.{◌≡◌, ◌≤◌, ◌-◌, drop, length}
use Rattle.ct_grammar.specs.Near.{behind_common}
use Rattle.ct_grammar.proofs.near.behind_common.Given as goal

-- the two begin alike so far
abbrev pub invariant-loop-i : goal.invariant-loop-i
invariant-loop-i l =
    (l.i ≤ length l.word) × (l.i ≤ length l.name) × (behind_common (drop l.i l.word) (drop l.i l.name) ≡ behind_common l.word l.name)

abbrev pub decreases-loop-i : goal.decreases-loop-i
decreases-loop-i l = length l.word - l.i
