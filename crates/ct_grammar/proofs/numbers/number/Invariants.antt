use Rattle.std.proofs.Common.{◌≡◌, drop}
use Rattle.ct_grammar.specs.Numbers.{number_of, number_behind}
use Rattle.ct_grammar.proofs.numbers.number.Given as goal

abbrev pub invariant-loop-c : goal.invariant-loop-c
invariant-loop-c l = number_of l.high l.word ≡ number_behind l.high l.n (drop l.c-index l.word)
