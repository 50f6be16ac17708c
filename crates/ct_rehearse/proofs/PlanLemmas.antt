-- What a plan within its limits comes to at most.
use Rattle.std.proofs.Common.{◌≡◌, ◌+◌, ◌*◌, ◌^◌, ◌<◌, ◌≤◌, ℕ, arith, length, vec_len}
use Rattle.std.proofs.Math.Nat.{mul-le-mul_left}
use Rattle.std.proofs.lemmas.List.Sums.{sum_by-le}
use Rattle.ct_names.specs.declared.limit.TheConstants.{MAX_MEMBERS, MAX_STEPS}
use Rattle.ct_rehearse.specs.declared.plan.Plan.{Plan}
use Rattle.ct_rehearse.specs.declared.plan.TheConstants.{MAX_ENTRIES, MAX_TURNS}
use Rattle.ct_rehearse.specs.Plans.{entries, turns_planned, IsWithin}

-- the entries of the scripts, together
entries_few : (plan : Plan) → IsWithin plan → entries plan ≤ 800000
entries_few plan within =
    let all : entries plan ≤ length plan.scripts.items * MAX_ENTRIES =
    sum_by-le (λ script. vec_len script) MAX_ENTRIES plan.scripts.items within.entries in
    let same : vec_len plan.scripts ≡ length plan.scripts.items = plan.scripts.ok.0 in
    omega (arith, all, same, within.scripts)

-- a world's steps, and the turns of its group of at most 16
pub run_fits : (n steps : ℕ) (plan : Plan) → n ≤ MAX_MEMBERS → steps ≤ MAX_STEPS → IsWithin plan → steps + turns_planned n plan < 2 ^ 64
run_fits n steps plan few short within =
    let scripts = entries_few plan within in
    let turns : n * plan.turns ≤ n * MAX_TURNS = mul-le-mul_left n within.turns in
    omega (arith, scripts, turns, few, short)
