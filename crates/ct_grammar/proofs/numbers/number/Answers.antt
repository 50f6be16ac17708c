use Rattle.std.proofs.Common.{sym, ◌∙◌, arith}
use Rattle.ct_grammar.proofs.DigitsRead.{next_too_high}
use Rattle.ct_grammar.proofs.numbers.number.Goals as goal

pub returns-in_err-checked_mul-clause-value : goal.returns-in_err-checked_mul-clause-value
returns-in_err-checked_mul-clause-value c =
    let none = next_too_high c.args.high c.loop-c.n c.loop-c.c-index c.args.word.now c.loop-c-test.true
    (omega (arith, c.in_err-checked_mul.ensures)) in
    c.from_residual.ensures ∙ sym (c.loop-c.invariant ∙ none)

pub returns-in_err-n-clause-value : goal.returns-in_err-n-clause-value
returns-in_err-n-clause-value c =
    let none = next_too_high c.args.high c.loop-c.n c.loop-c.c-index c.args.word.now c.loop-c-test.true
    (omega (arith, c.in_ok-checked_mul.ensures, c.in_ok-digit.ensures.some, c.in_err-n.ensures)) in
    c.from_residual-in_err-n.ensures ∙ sym (c.loop-c.invariant ∙ none)
