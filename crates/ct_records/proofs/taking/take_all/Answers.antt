use Rattle.std.proofs.Common.{Ok, ap, arith, refl}
use Rattle.ct_records.proofs.Texts.{taken_at, taken_first, taken_then}
use Rattle.ct_records.proofs.taking.take_all.Goals as goal

pub loop-init : goal.loop-init
loop-init g c = record {
  taken = taken_first (g.K.Keeper.has c.args.keeper.now) c.is_empty-later.result c.args.bytes.now c.is_empty-later.ensures;
  shorter = omega arith;
}

pub loop-preserved : goal.loop-preserved
loop-preserved g c =
    let v = c.loop.invariant in
    record {
      taken = taken_then _ _ _ c.args.bytes.now c.loop.rest.now c.in-Some.end.now v.taken (rw c.in-Some.is at c.in_ok-end.ensures.taken);
      shorter = omega (arith, v.shorter, rw c.in-Some.is at c.in_ok-end.ensures.shorter);
    }

pub returns-in_default-clause-taken : goal.returns-in_default-clause-taken
returns-in_default-clause-taken g c =
    rw (c.in_ok-end.ensures.none (ap (λ o. Ok o) c.in_default.is))
    (taken_at _ _ c.loop.later c.args.bytes.now c.loop.rest.now _ c.loop.invariant.taken c.loop.invariant.shorter refl)

pub returns-clause-taken : goal.returns-clause-taken
returns-clause-taken g c = taken_at _ _ c.loop.later c.args.bytes.now c.loop.rest.now _ c.loop.invariant.taken c.loop.invariant.shorter refl
