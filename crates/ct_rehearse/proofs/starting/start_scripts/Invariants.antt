use Rattle.std.proofs.Common.{◌≡◌, ◌+◌, ◌≤◌, sum_by, take, vec_len, vec_capacity}
use Rattle.ct_rehearse.proofs.starting.start_scripts.Given as goal

abbrev pub invariant-loop-script : goal.invariant-loop-script
invariant-loop-script g l =
    (vec_len l.all ≡ vec_len l.initial.all + l.script-index)
    × (sum_by (λ (r : _). r.turns) l.all.items ≡ sum_by (λ (r : _). r.turns) l.initial.all.items
    + sum_by (λ s. vec_len s) (take l.script-index l.scripts))
    × (l.pool.parts + l.script-index ≡ l.initial.pool.parts)
    × (l.pool.steps ≡ l.initial.pool.steps)
    × (vec_capacity l.initial.all ≤ vec_capacity l.all)
    × (l.worker ≡ l.initial.worker + l.script-index)
