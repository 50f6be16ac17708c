use Rattle.std.proofs.Common.{true, codes, ap, refl, ◌≡◌, ◌∙◌}
use Rattle.std.proofs.lemmas.Result.{IfOk-weaker}
use Rattle.clap.specs.Words.{app_of, new_app}
use Rattle.clap.specs.Simple.{Shape, app_of_fields, on_top}
use Rattle.ct_program.proofs.Lines.{with_command}
use Rattle.ct_program.proofs.words.command.Goals as goal

pub returns : goal.returns
returns c =
    let version_is : app_of c.version.result ≡ on_top (λ (s : Shape). record s { has_version = true }) (new_app (codes "ct")) =
    ap app_of_fields c.version.ensures ∙ ap (on_top (λ (s : Shape). record s { has_version = true })) c.new.ensures.app in
    let about_is : app_of c.about.result ≡ app_of c.version.result = ap app_of_fields c.about.ensures in
    let required_is : app_of c.subcommand_required.result ≡ on_top (λ (s : Shape). record s { subcommand_required = true })
    (app_of c.about.result) = ap app_of_fields c.subcommand_required.ensures in
    let top_is : app_of c.subcommand_required.result ≡ on_top (λ (s : Shape). record s { has_version = true; subcommand_required = true })
    (new_app (codes "ct")) =
    required_is ∙ ap (on_top (λ (s : Shape). record s { subcommand_required = true })) (about_is ∙ version_is) in
    let first_is = with_command _ _ _ _ _ c.in_ok-subcommand.ensures refl top_is c.in_ok-replay.ensures in
    IfOk-weaker c.subcommand-2.result _ _ (λ r adds. with_command _ _ _ _ _ adds refl first_is c.in_ok-free.ensures) c.subcommand-2.ensures
