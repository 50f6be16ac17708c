use Rattle.std.proofs.Common.{◌≡◌, ◌++◌, map, drop}
use Rattle.std.specs.Prelude.{string_bytes}
use Rattle.ct_grammar.specs.Misfits.{names_text, more_names}
use Rattle.ct_grammar.proofs.misfit.push_names.Given as goal

-- the names that are left still stand behind the text
abbrev pub invariant-loop-name : goal.invariant-loop-name
invariant-loop-name l =
    string_bytes l.text ++ more_names (map (λ name. name.now) (drop l.name-index l.others))
    ≡ string_bytes l.fn.text ++ names_text (map (λ name. name.now) l.fn.names)
