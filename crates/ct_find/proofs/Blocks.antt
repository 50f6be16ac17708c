-- Blocks of parts, each of e seeds.
use Rattle.std.proofs.Common.{◌≡◌, ◌≤◌, ◌<◌, ◌+◌, ◌-◌, ◌*◌, ◌^◌, ℕ, suc, arith}
use Rattle.std.proofs.Math.Nat.{mul-le-mul_right, one-le-mul, suc-mul}
use Rattle.std.proofs.lemmas.Nat.{mul-le}
use Rattle.ct_find.specs.declared.searching.TheConstants.{TURNS_EACH}

-- some seeds, and few enough
pub block_some : (parts e : ℕ) → 0 < parts → 0 < e → 0 < parts * e
block_some parts e some each =
    let most = one-le-mul {a = parts} {b = e} (omega (arith, some)) (omega (arith, each)) in
    omega (arith, most)

pub block_few : (parts e : ℕ) → parts < 2 ^ 8 → e ≤ TURNS_EACH → parts * e < 2 ^ 32
block_few parts e few each =
    let most = mul-le parts e 255 1048576 (omega (arith, few)) (omega (arith, each)) in
    omega (arith, most)

-- the place of each part is inside
pub part_fits : (i parts e n : ℕ) → i < parts → parts * e < n → i * e < n
part_fits i parts e n inside fits =
    let most = mul-le-mul_right {m = i} {n = parts} e (omega (arith, inside)) in
    omega (arith, most, fits)

-- where the next part begins
pub part_next : (first i e : ℕ) → first + (i + 1) * e ≡ first + i * e + e
part_next first i e =
    let one : i + 1 ≡ suc i = omega arith in
    rw (one, suc-mul i e) (omega arith)

-- behind the last part nothing is left
pub parts_past : (first i parts e end : ℕ) → end ≤ first + parts * e → parts ≤ i → end - (first + i * e) ≡ 0
parts_past first i parts e end all past =
    let most = mul-le-mul_right {m = parts} {n = i} e past in
    omega (arith, most, all)
