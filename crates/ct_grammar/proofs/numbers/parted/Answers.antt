use Rattle.std.proofs.Common.{◌==◌, refl, sym, ◌∙◌}
use Rattle.ct_grammar.specs.Numbers.{parted}
use Rattle.ct_grammar.proofs.LineFeeds.{parted_nowhere}
use Rattle.ct_grammar.proofs.PartsRead.{all_behind, two_parts}
use Rattle.ct_grammar.proofs.numbers.parted.Goals as goal

pub returns-in_err-i-clause-one : goal.returns-in_err-i-clause-one
returns-in_err-i-clause-one c =
    let none = sym c.first.ensures.place ∙ c.in_err-i.was in
    rw c.from_residual.ensures (parted_nowhere (λ x. x == c.args.at) c.args.word.now none)

pub returns-clause-value : goal.returns-clause-value
unfolding parted
returns-clause-value c =
    let found = sym c.first.ensures.place ∙ c.in_ok-i.was in
    rw (all_behind c.args.word.now c.in_ok-i.i, found) refl

pub returns-clause-two : goal.returns-clause-two
returns-clause-two c =
    let found = sym c.first.ensures.place ∙ c.in_ok-i.was in
    rw (all_behind c.args.word.now c.in_ok-i.i) (two_parts c.args.at c.args.word.now c.in_ok-i.i found)
