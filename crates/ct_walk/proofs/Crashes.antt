-- The crashes, one more at a time.
use Rattle.std.proofs.Common.{◌≡◌, ◌+◌, ◌-◌, ◌<◌, ◌++◌, ◌∷◌, [], ℕ, suc, ◌≤◌, List, append-nil, append_assoc, arith, sym}
use Rattle.std.specs.Prelude.{◌%◌}
use Rattle.rand_pcg.specs.Lcg.{Lcg}
use Rattle.ct_detect.specs.Seeded.{after_word, next_word}
use Rattle.ct_rehearse.specs.declared.disturbance.Disturbance.{Disturbance}
use Rattle.ct_rehearse.specs.declared.disturbance.Disturbance.TheVariants.{Crash}
use Rattle.ct_walk.specs.Adversary.{crashes_by}

pub one_crash : (n count k : ℕ) (draws next : Lcg) (old new : List Disturbance) (crash : Disturbance) → k < count →
    next ≡ after_word draws → crash ≡ Crash (next_word draws % n + 1) → new ≡ old ++ crash ∷ [] →
    new ++ crashes_by n (count - (k + 1)) next ≡ old ++ crashes_by n (count - k) draws
one_crash n count k draws next old new crash low after is more =
    let left : count - k ≡ suc (count - (k + 1)) = omega (arith, low) in
    rw (more, is, after, left) (append_assoc old (Crash (next_word draws % n + 1) ∷ []) (crashes_by n (count - (k + 1)) (after_word draws)))

pub last_crash : (n count k : ℕ) (draws : Lcg) (items : List Disturbance) → count ≤ k →
    items ≡ items ++ crashes_by n (count - k) draws
last_crash n count k draws items high =
    let left : count - k ≡ 0 = omega (arith, high) in
    rw left (sym (append-nil items))
