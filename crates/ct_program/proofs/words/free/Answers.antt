use Rattle.std.proofs.Common.{codes, ap, ◌≡◌, ◌∙◌}
use Rattle.std.specs.Prelude.{fold}
use Rattle.std.proofs.lemmas.Result.{IfOk-weaker}
use Rattle.clap.specs.Words.{app_of, new_app, with_rule}
use Rattle.clap.specs.Simple.{app_of_fields}
use Rattle.ct_program.specs.Line.{free_rules}
use Rattle.ct_program.proofs.words.free.Goals as goal

pub returns : goal.returns
returns c =
    let start : app_of c.about-command.result ≡ new_app (codes "free") = ap app_of_fields c.about-command.ensures ∙ c.new.ensures.app in
    IfOk-weaker c.with_free_options.result _ _ (λ r longer. longer ∙ ap (λ app. fold with_rule app free_rules) start)
    c.with_free_options.ensures
