use Rattle.std.proofs.Common.{rules, ◌≡◌, None, Some, arith, length, refl}
use Rattle.std.proofs.lemmas.Option.{slice_get_past, slice_get_read}
use Rattle.std.specs.Prelude.{slice_get}
use Rattle.ct_merge.specs.Expected.{IsMet}
use Rattle.ct_merge.proofs.Walking.{from_end, met_more, none_told}
use Rattle.ct_merge.proofs.testing.hold.Goals as goal

pub loop-expectation-preserved : goal.loop-expectation-preserved
loop-expectation-preserved c =
    let e = c.in-Some.expectation.now in
    let next = c.loop-expectation.next in
    let there : slice_get c.args.list.now next ≡ Some e =
    slice_get_read c.args.list.now (length c.args.list.now) next e refl c.in-Some.ensures.lookup.3.0 c.in-Some.ensures.lookup.1 in
    let here : e.place ≡ c.args.place = search rules in
    let met : IsMet e.goal c.args.stage.now =
    none_told (λ term. term.now) c.in_ok-unmet.field-0 _ c.in_ok-unmet.ensures (search rules) in
    record {
      met = met_more c.args.list.now c.args.next.now next c.args.place c.args.stage.now e there here met c.loop-expectation.invariant.met;
      more = omega (arith, c.loop-expectation.invariant.more);
    }

pub returns-clause-ahead : goal.returns-clause-ahead
returns-clause-ahead c =
    let none : slice_get c.args.list.now c.loop-expectation.next ≡ None =
    slice_get_past c.args.list.now c.loop-expectation.next c.in_default.ensures.lookup.3 in
    λ ok ahead. from_end c.args.list.now c.args.next.now c.loop-expectation.next c.args.place none
