use Rattle.std.proofs.Common.{sym, ◌∙◌, arith}
use Rattle.std.proofs.lemmas.List.Sums.{position_or_len_is}
use Rattle.ct_grammar.specs.Words.{is_blank}
use Rattle.ct_grammar.proofs.words.letters.Goals as goal

pub returns-then-is_blank : goal.returns-then-is_blank
returns-then-is_blank c = sym (position_or_len_is is_blank c.args.text.now c.loop-i.i 0 (omega arith) c.loop-i.invariant
    (λ _. sym c.is_blank.ensures ∙ c.if-is_blank.true))

pub returns : goal.returns
returns c =
    omega (arith, position_or_len_is is_blank c.args.text.now c.loop-i.i 0 (omega arith) c.loop-i.invariant (λ l. absurd (omega arith)))
