use Rattle.std.proofs.Common.{◌≡◌, ℕ, ◌<◌, false, get_or, [], Bor}
use Rattle.ct_grammar.specs.Words.{Word}
use Rattle.ct_grammar.specs.Goals.{is_and}
use Rattle.ct_grammar.proofs.goals.first_and.Given as goal

abbrev pub nowhere : Bor Word
nowhere = record { ref_ptr = (0, 0); now = [] }

-- no `and` stands before this place
abbrev pub invariant-loop-i : goal.invariant-loop-i
invariant-loop-i l = (k : ℕ) → k < l.i → is_and (get_or l.words k nowhere).now ≡ false
