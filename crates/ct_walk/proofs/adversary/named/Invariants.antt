use Rattle.std.specs.Prelude.{◌≡◌, ◌-◌, ◌++◌, vec_len}
use Rattle.ct_walk.specs.Adversary.{crashes_by}
use Rattle.ct_walk.proofs.adversary.named.Given as goal

abbrev pub invariant-loop : goal.invariant-loop
invariant-loop l =
    (l.script.items ++ crashes_by l.members (l.count - l.counter) l.draws ≡ crashes_by l.members l.count l.fn.draws)
    × (vec_len l.script ≡ l.counter)
