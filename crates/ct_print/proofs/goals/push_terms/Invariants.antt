use Rattle.std.proofs.Common.{◌≡◌, ◌++◌, drop}
use Rattle.std.specs.Prelude.{string_bytes}
use Rattle.ct_print.specs.Goals.{terms_text, more_terms}
use Rattle.ct_print.proofs.goals.push_terms.Given as goal

-- the terms that are left still stand behind the text
abbrev pub invariant-loop-term : goal.invariant-loop-term
invariant-loop-term l =
    string_bytes l.text ++ more_terms (drop l.term-index l.others) ≡ string_bytes l.fn.text ++ terms_text l.fn.terms
