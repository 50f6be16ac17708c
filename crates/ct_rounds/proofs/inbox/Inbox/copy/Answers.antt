use Rattle.std.proofs.Common.{◌==◌, ◌++◌, sym, ap, ◌∙◌, subst}
use Rattle.std.specs.List.{IsDistinct}
use Rattle.std.specs.Map.{keys_of}
use Rattle.indexmap.specs.IndexMap.{insert_entry}
use Rattle.ct_rounds.proofs.Copies.{copied-next}
use Rattle.ct_rounds.proofs.inbox.Inbox.copy.Goals as goal

pub loop-round-preserved : goal.loop-round-preserved
loop-round-preserved c =
    let done = c.loop-round.tallies.entries in
    let inserted = c.in_ok-insert.ensures.entries ∙ ap (insert_entry (λ a b. a == b) done c.in-Some.round.now) c.copy.ensures in
    let whole = ap (λ es. done ++ es) (sym c.in-Some.ensures.steps) ∙ c.loop-round.invariant in
    let distinct = subst (λ es. IsDistinct (λ a b. a == b) (keys_of es)) c.self.view_is
    c.into_iter-round-iterator.ensures.into_iter_gives.4 in
    copied-next done _ _ c.next.new.self c.args.self.now c.insert.new.self.entries inserted whole distinct
