use Rattle.std.proofs.Common.{◌==◌, ◌++◌, sym, ap, ◌∙◌, subst}
use Rattle.std.specs.List.{IsDistinct}
use Rattle.std.specs.Map.{keys_of}
use Rattle.indexmap.specs.IndexMap.{insert_entry}
use Rattle.ct_rounds.proofs.Copies.{copied-next}
use Rattle.ct_instances.proofs.instances.Instances.copy.Goals as goal

pub loop-instance-preserved-in_ok-insert : goal.loop-instance-preserved-in_ok-insert
loop-instance-preserved-in_ok-insert c =
    let done = c.loop-instance.entries.entries in
    let inserted = c.in_ok-insert.ensures.entries ∙ ap (insert_entry (λ a b. a == b) done c.in-Some.instance.now) c.in_ok-copy.ensures in
    let whole = ap (λ es. done ++ es) (sym c.in-Some.ensures.steps) ∙ c.loop-instance.invariant in
    let distinct = subst (λ kept. IsDistinct (λ a b. a == b) (keys_of kept.entries)) c.self.view_is
    c.into_iter-instance-iterator.ensures.into_iter_gives.4 in
    copied-next done _ _ c.next.new.self c.args.self.now.entries c.insert.new.self.entries inserted whole distinct

pub loop-instance-preserved : goal.loop-instance-preserved
loop-instance-preserved c =
    let done = c.loop-instance.entries.entries in
    let inserted = c.in_ok-insert.ensures.entries ∙ ap (insert_entry (λ a b. a == b) done c.in-Some.instance.now) c.in_ok-copy.ensures in
    let whole = ap (λ es. done ++ es) (sym c.in-Some.ensures.steps) ∙ c.loop-instance.invariant in
    let distinct = subst (λ kept. IsDistinct (λ a b. a == b) (keys_of kept.entries)) c.self.view_is
    c.into_iter-instance-iterator.ensures.into_iter_gives.4 in
    copied-next done _ _ c.next.new.self c.args.self.now.entries c.insert.new.self.entries inserted whole distinct
