use Rattle.std.proofs.Common.{refl, sym, ◌∙◌}
use Rattle.ct_rounds.proofs.Places.{value-at, written-at}
use Rattle.ct_rounds.proofs.lookup.find_mut.Goals as goal

pub returns-then-is_at : goal.returns-then-is_at
returns-then-is_at g c =
    let laws = g.met.K.Eq.laws in
    let m = c.args.map.now in
    let unique = c.get_index_mut.ensures.unique in
    let found = sym c.is_at.ensures ∙ c.if-is_at.true in
    let value = value-at _ laws m c.args.index c.args.key.now unique found in
    let written = written-at _ laws m c.args.index c.args.key.now unique found in
    ((refl, written, refl), record { writes_back = tt; value = c.get_index_mut.ensures.value ∙ value })
