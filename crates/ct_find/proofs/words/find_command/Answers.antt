use Rattle.std.proofs.Common.{ap, ◌∙◌}
use Rattle.std.proofs.lemmas.Result.{IfOk-weaker}
use Rattle.ct_streams.proofs.Options.{with_option}
use Rattle.ct_walk.specs.Line.{with_search_rules}
use Rattle.ct_find.specs.Line.{with_best_rules}
use Rattle.ct_find.proofs.words.find_command.Goals as goal

pub returns : goal.returns
returns c =
    let walk = c.in_ok-with_search_options.ensures ∙ ap with_search_rules c.subcommand-command.ensures in
    let target = with_option _ _ _ _ _ c.in_ok-arg.ensures c.goal_arg.ensures.local walk c.goal_arg.ensures.rule in
    let seeds = with_option _ _ _ _ _ c.in_ok-arg-2.ensures c.seeds_arg.ensures.local target c.seeds_arg.ensures.rule in
    let jobs = with_option _ _ _ _ _ c.in_ok-arg-3.ensures c.jobs_arg.ensures.local seeds c.jobs_arg.ensures.rule in
    let quiet = with_option _ _ _ _ _ c.in_ok-arg-4.ensures c.flag.ensures.local jobs c.flag.ensures.rule in
    let count = with_option _ _ _ _ _ c.in_ok-arg-5.ensures c.flag-2.ensures.local quiet c.flag-2.ensures.rule in
    let json = with_option _ _ _ _ _ c.in_ok-command.ensures c.in_ok-asking_flag.ensures.local count c.in_ok-asking_flag.ensures.rule in
    IfOk-weaker c.with_best_options.result _ _ (λ r adds. adds ∙ ap with_best_rules json) c.with_best_options.ensures
