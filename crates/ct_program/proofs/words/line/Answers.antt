use Rattle.std.proofs.Common.{ap, is_some, sym, true≢false, false, ◌∙◌, ◌≡◌, Result, Some}
use Rattle.clap.specs.Words.{Text}
use Rattle.ct_program.specs.Line.{freely}
use Rattle.ct_program.specs.declared.free_options.FreeOptions.{FreeOptions}
use Rattle.ct_program.proofs.Lines.{exact_app, file_found, free_called, free_file, has_kind, no_faults, replay_called, replay_only}
use Rattle.ct_program.proofs.Lines.{replay_passes, told_kind, told_range}
use Rattle.ct_program.proofs.words.line.Goals as goal

pub returns-in-Err-clause-err : goal.returns-in-Err-clause-err
returns-in-Err-clause-err c =
    has_kind _ _ c.in-Err.error c.in_ok-command.ensures (c.in-Err.ensures.kinds (exact_app _ c.in_ok-command.ensures))

pub returns-in-Err-clause-replay : goal.returns-in-Err-clause-replay
returns-in-Err-clause-replay c = λ name e.
    replay_passes _ name c.in-Err.error (has_kind _ _ c.in-Err.error c.in_ok-command.ensures
    (c.in-Err.ensures.kinds (exact_app _ c.in_ok-command.ensures))) e

pub returns-in-None-clause-ok : goal.returns-in-None-clause-ok
returns-in-None-clause-ok c = no_faults _ _ c.in_ok-command.ensures (c.in-Ok.ensures.kinds (exact_app _ c.in_ok-command.ensures))

pub returns-in-None-clause-call : goal.returns-in-None-clause-call
returns-in-None-clause-call c =
    let none : is_some c.subcommand_matches.result ≡ false = ap is_some c.in-None.is in
    replay_called _ _ _ c.in_ok-command.ensures c.in-Ok.ensures.matches (c.in-Ok.ensures.kinds (exact_app _ c.in_ok-command.ensures))
    (λ named. true≢false (sym (c.subcommand_matches.ensures.found.1 named) ∙ none))

pub returns-in-None-clause-file : goal.returns-in-None-clause-file
returns-in-None-clause-file c = c.file_in.ensures ∙ file_found _ _ _ c.in_ok-command.ensures c.in-Ok.ensures.matches

pub returns-in-Ok-found_options-clause-ok : goal.returns-in-Ok-found_options-clause-ok
returns-in-Ok-found_options-clause-ok c = no_faults _ _ c.in_ok-command.ensures
    (c.in-Ok.ensures.kinds (exact_app _ c.in_ok-command.ensures))

pub returns-in-Ok-found_options-clause-call : goal.returns-in-Ok-found_options-clause-call
returns-in-Ok-found_options-clause-call c =
    free_called _ _ _ _ c.in_ok-command.ensures c.in-Ok.ensures.matches (c.subcommand_matches.ensures.found.0 (ap is_some c.in-Some.is))
    c.in-Some.ensures.rows
    ∙ ap (λ (r : Result FreeOptions Text). Some (freely r)) (sym c.found_options.ensures.exact ∙ c.in-Ok-found_options.is)

pub returns-in-Ok-found_options-clause-file : goal.returns-in-Ok-found_options-clause-file
returns-in-Ok-found_options-clause-file c =
    free_file _ _ _ c.in_ok-command.ensures c.in-Ok.ensures.matches (c.subcommand_matches.ensures.found.0 (ap is_some c.in-Some.is))

pub returns-in-Ok-found_options-clause-in_range : goal.returns-in-Ok-found_options-clause-in_range
returns-in-Ok-found_options-clause-in_range c = c.in-Ok-found_options.ensures.range

pub returns-clause-err : goal.returns-clause-err
returns-clause-err c =
    told_kind _ _ _ (no_faults _ _ c.in_ok-command.ensures (c.in-Ok.ensures.kinds (exact_app _ c.in_ok-command.ensures)))
    c.out_of_range.ensures

pub returns-clause-range : goal.returns-clause-range
returns-clause-range c =
    told_range _ _ _ (free_called _ _ _ _ c.in_ok-command.ensures c.in-Ok.ensures.matches
    (c.subcommand_matches.ensures.found.0 (ap is_some c.in-Some.is)) c.in-Some.ensures.rows
    ∙ ap (λ (r : Result FreeOptions Text). Some (freely r)) (sym c.found_options.ensures.exact ∙ c.in-Err-found_options.is))
    c.out_of_range.ensures

pub returns-clause-replay : goal.returns-clause-replay
returns-clause-replay c = λ name e.
    absurd (replay_only _ _ _ name c.in_ok-command.ensures c.in-Ok.ensures.matches e
    (c.subcommand_matches.ensures.found.0 (ap is_some c.in-Some.is)))
