use Rattle.std.proofs.Common.{◌∙◌, ap, take}
use Rattle.std.proofs.lemmas.Iterator.{YieldsList-from_take}
use Rattle.std.proofs.lemmas.Iterator.Consumers.{YieldsList-at, YieldsList-from_rest, YieldsList-end}
use Rattle.ct_names.specs.Value.{ordered}
use Rattle.ct_abcast.proofs.Feeding.{set-more, set-first, tree-set}
use Rattle.ct_abcast.proofs.ordered.Ordered.first.Goals as goal

pub loop-message-preserved : goal.loop-message-preserved
loop-message-preserved c =
    c.in_ok-add.ensures.ok
    ∙ set-more (λ message. message.now) c.loop-message.set c.loop-message.yielded c.in-Some.message c.loop-message.invariant

pub returns : goal.returns
returns c =
    let keys = c.self.inside.messages.keys in
    let road = YieldsList-from_take c.args.bound
    (YieldsList-at c.take-message-items.ensures.source (YieldsList-from_rest keys c.iter.ensures.rest))
    c.take-message-items.ensures.count in
    let all = YieldsList-end (YieldsList-at c.into_iter-message-iterator.ensures.into_iter_gives road)
    c.loop-message.yielded _ c.loop-message.yielded_by _ _ c.in-None.is c.next.ensures.steps in
    set-first c.loop-message.set _ keys c.args.bound (tree-set keys c.iter.ensures.ordered) c.loop-message.invariant all.0
    ∙ ap (λ fed. take c.args.bound (ordered fed.messages)) c.self.view_is
