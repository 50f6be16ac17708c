use Rattle.std.proofs.Common.{◌≡◌, ◌+◌, ◌*◌, ◌≤◌, sum_by, vec_len, vec_capacity}
use Rattle.ct_names.specs.declared.limit.TheConstants.{MAX_MEMBERS}
use Rattle.ct_rehearse.proofs.starting.start_drivers.Given as goal

abbrev pub invariant-loop-detector : goal.invariant-loop-detector
invariant-loop-detector g l =
    (vec_len l.all + vec_len l.detectors ≡ vec_len l.initial.all + vec_len l.initial.detectors)
    × (sum_by (λ (r : _). r.turns) l.all.items + vec_len l.detectors * l.turns ≡ sum_by (λ (r : _). r.turns) l.initial.all.items
    + vec_len l.initial.detectors * l.turns)
    × (l.pool.parts + vec_len l.all ≡ l.initial.pool.parts + vec_len l.initial.all)
    × (l.pool.steps ≡ l.initial.pool.steps)
    × (vec_capacity l.initial.all ≤ vec_capacity l.all)
    × (vec_len l.detectors ≤ MAX_MEMBERS)

abbrev pub decreases-loop-detector : goal.decreases-loop-detector
decreases-loop-detector g l = vec_len l.detectors
