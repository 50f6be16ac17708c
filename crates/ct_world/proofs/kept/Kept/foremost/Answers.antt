use Rattle.std.proofs.Common.{◌≡◌, ◌+◌, ◌<◌, ◌≤◌, length, ap, sym, ◌∙◌, subst, arith}
use Rattle.std.proofs.lemmas.List.{get_or_read}
use Rattle.ct_names.specs.declared.limit.TheConstants.{MAX_CELLS}
use Rattle.ct_world.specs.declared.seat.Seat.{Seat}
use Rattle.ct_world.specs.Kept.{no_seat, fields_of, rehearsal_of}
use Rattle.ct_world.proofs.Reading.Foremost.{IsForemost, batches_at, batches_read, foremost-few, foremost-first, foremost-more}
use Rattle.ct_world.proofs.Reading.Foremost.{foremost-order, foremost-same}
use Rattle.ct_world.proofs.kept.Kept.foremost.Goals as goal
use Rattle.ct_world.proofs.kept.Kept.foremost.Goals.{Joined-batches, After-index-2, then-batches, else-batches}

pub loop-i-init : goal.loop-i-init
loop-i-init c = foremost-first c.args.self.now.seats.items (let seated = c.requires.seated in
    omega (arith, c.n.ensures.at_least_one, c.n.ensures.value))

within : (c : Joined-batches) → c.loop-i.i < length c.args.self.now.seats.items
within c = let seated = c.requires.seated in omega (arith, c.loop-i-test.true, c.from-i-end.ensures, c.n.ensures.value)

old : (c : Joined-batches) → c.batches.result ≡ length (batches_at c.args.self.now.seats.items c.loop-i.best)
old c = c.batches.ensures ∙ batches_read c.args.self.now.seats.items c.loop-i.best c.index.result.now
    (omega (arith, within c, c.loop-i.invariant.before)) c.index.ensures

new : (c : Joined-batches) → c.batches-in-loop-i.result ≡ length (batches_at c.args.self.now.seats.items c.loop-i.i)
new c = c.batches-in-loop-i.ensures ∙ batches_read c.args.self.now.seats.items c.loop-i.i c.index-in-loop-i.result.now (within c)
    c.index-in-loop-i.ensures

pub loop-i-preserved : goal.loop-i-preserved
loop-i-preserved c = elim c.if-batches.branch [
  | then-batches w ↦ subst (λ k. IsForemost c.args.self.now.seats.items (c.loop-i.i + 1) k) (sym w.best-is)
      (foremost-more c.args.self.now.seats.items c.loop-i.i c.loop-i.best c.loop-i.invariant (within c)
      (omega (arith, old c, new c, w.if-batches)))
  | else-batches w ↦ subst (λ k. IsForemost c.args.self.now.seats.items (c.loop-i.i + 1) k) (sym w.best-is)
      (foremost-same c.args.self.now.seats.items c.loop-i.i c.loop-i.best c.loop-i.invariant (within c)
      (omega (arith, old c, new c, w.if-batches)))
]

foremost : (c : After-index-2) → IsForemost c.args.self.now.seats.items c.args.self.now.group c.loop-i.best
foremost c =
    let all : c.loop-i.i ≡ c.args.self.now.group = omega (
      arith,
      c.loop-i-test.false,
      c.loop-i.auto.i-end (omega (arith, c.from-i-end.ensures, c.n.ensures.at_least_one)),
      c.from-i-end.ensures,
      c.n.ensures.value,
    ) in
    subst (λ k. IsForemost c.args.self.now.seats.items k c.loop-i.best) all c.loop-i.invariant

is : (c : After-index-2) → c.index-2.result.now.caster.batches ≡ batches_at c.args.self.now.seats.items c.loop-i.best
is c =
    let seated = c.requires.seated in
    let f = foremost c in
    ap (λ (s : Seat). s.caster.batches) (get_or_read c.args.self.now.seats.items c.loop-i.best c.index-2.result.now
    (omega (arith, f.before))
    c.index-2.ensures no_seat)

pub returns-clause-value : goal.returns-clause-value
returns-clause-value c =
    is c
    ∙ foremost-order (rehearsal_of c.args.self.now) (fields_of c.args.self.now) c.requires c.loop-i.best (foremost c)

pub returns-clause-few : goal.returns-clause-few
returns-clause-few c =
    let few : length (batches_at c.args.self.now.seats.items c.loop-i.best) ≤ MAX_CELLS =
    foremost-few (rehearsal_of c.args.self.now) (fields_of c.args.self.now) c.requires c.loop-i.best (foremost c) in
    let e : length c.index-2.result.now.caster.batches ≡ length (batches_at c.args.self.now.seats.items c.loop-i.best) = ap length (is c) in
    omega arith
