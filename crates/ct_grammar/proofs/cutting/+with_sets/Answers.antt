use Rattle.std.proofs.Common.{◌≡◌, [], get_or, Some, Bor, ◌∙◌, ap, sym}
use Rattle.ct_grammar.specs.Words.{Word}
use Rattle.ct_grammar.specs.Sides.{with_set}
use Rattle.ct_grammar.proofs.SetsCut.{one_more_set}
use Rattle.ct_grammar.proofs.cutting.+with_sets.Goals as goal

pub returns-then-eq : goal.returns-then-eq
returns-then-eq t c =
    let ws = c.args.words.now in
    let none : Bor Word = record { ref_ptr = (0, 0); now = [] } in
    let set : with_set c.args.sides (get_or ws 0 none).now ≡ Some c.in-Some.sides =
    ap (λ (word : Word). with_set c.args.sides word) (sym c.as_bytes.ensures.value) ∙ sym c.with_set.ensures ∙ c.in-Some.is in
    c.with_sets.ensures
    ∙ one_more_set ws c.args.sides c.in-Some.sides none c.in-len1-up.len_at_least c.in-len1-up-rest.len_at_least set (sym c.if-eq.ensures)
