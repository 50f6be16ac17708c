use Rattle.std.proofs.Common.{ap, is_some, sym, true≢false, ◌∙◌}
use Rattle.ct_program.proofs.Lines.{file_named, file_other, same_name}
use Rattle.ct_program.proofs.words.file_in.Goals as goal

pub returns-in-None : goal.returns-in-None
returns-in-None c =
    let none = ap is_some c.in-None.is in
    sym (file_other _ (λ named. true≢false (sym (c.subcommand_matches.ensures.found.1 (sym (same_name _) ∙ named)) ∙ none)))

pub returns-in-Some : goal.returns-in-Some
returns-in-Some c =
    c.named_file.ensures
    ∙ sym (file_named _ _ (same_name _ ∙ c.subcommand_matches.ensures.found.0 (ap is_some c.in-Some.is)) c.in-Some.ensures.rows)
