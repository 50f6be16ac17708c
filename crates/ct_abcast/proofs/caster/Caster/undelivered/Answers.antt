use Rattle.std.proofs.Common.{◌≡◌, ◌≤◌, length, take, ◌∙◌, sym, ap, subst, arith, IfOk}
use Rattle.ct_names.specs.Value.{minus, ordered}
use Rattle.ct_abcast.specs.Batches.{joined}
use Rattle.ct_abcast.specs.Cast.{undelivered}
use Rattle.ct_abcast.proofs.Feeding.{fed-set, take-few}
use Rattle.ct_abcast.proofs.Pending.{pending-set}
use Rattle.ct_abcast.proofs.caster.Caster.undelivered.Goals as goal

pub returns-then-len-bound-clause-first : goal.returns-then-len-bound-clause-first
returns-then-len-bound-clause-first c =
    let pending = c.self.inside.pending.keys in
    let few : length pending ≤ c.args.bound = omega (arith, c.len.ensures.len) in
    let all = pending-set pending c.self.inside.received.items (joined c.self.inside.delivered.batches) c.self.invariant.0 in
    subst (λ list. IfOk c.of.result (λ set. set ≡ list))
    (ap ordered c.as_slice.ensures.keys
    ∙ (sym (take-few pending c.args.bound few) ∙ ap (take c.args.bound) (all ∙ ap undelivered c.self.view_is)))
    c.of.ensures

pub returns-clause-first : goal.returns-clause-first
returns-clause-first c =
    let fed = c.feed.new.self in
    let received = c.deref.result.now in
    let delivered = joined c.self.inside.delivered.batches in
    let all = fed-set fed received delivered c.in_ok-feed.ensures.kept c.in_ok-feed.ensures.all
    ∙ (ap (λ list. ordered (minus list delivered)) c.deref.ensures.value ∙ ap undelivered c.self.view_is) in
    subst (λ list. IfOk c.first.result (λ set. set ≡ list)) (ap (take c.args.bound) all) c.first.ensures
