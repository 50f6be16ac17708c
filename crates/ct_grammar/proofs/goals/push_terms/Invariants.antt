use Rattle.std.proofs.Common.{◌≡◌, length}
use Rattle.ct_grammar.specs.Goals.{parts_of, terms_of}
use Rattle.ct_grammar.proofs.WordsCut.{read}
use Rattle.ct_grammar.proofs.TermsRead.{behind_terms}
use Rattle.ct_grammar.proofs.goals.push_terms.Given as goal

-- the terms of the rest are still to come
abbrev pub invariant-loop-i : goal.invariant-loop-i
invariant-loop-i l = behind_terms l.terms.items (terms_of (parts_of (read l.rest))) ≡ terms_of (parts_of (read l.fn.words))

abbrev pub decreases-loop-i : goal.decreases-loop-i
decreases-loop-i l = length l.rest
