use Rattle.std.proofs.Common.{◌≡◌, ◌+◌, sum_by, vec_len}
use Rattle.ct_rehearse.specs.Plans.{turns_made}
use Rattle.ct_rehearse.proofs.starting.join_all.Given as goal

abbrev pub invariant-loop-running : goal.invariant-loop-running
invariant-loop-running g l =
    (turns_made l.made + sum_by (λ (r : _). r.turns) l.all.items ≡ sum_by (λ (r : _). r.turns) l.initial.all.items)
    × (l.pool.parts + vec_len l.all ≡ l.initial.pool.parts + vec_len l.initial.all)
    × (l.pool.steps ≡ l.initial.pool.steps + l.made.steps)

abbrev pub decreases-loop-running : goal.decreases-loop-running
decreases-loop-running g l = vec_len l.all
