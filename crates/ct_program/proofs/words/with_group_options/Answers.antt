use Rattle.std.proofs.Common.{refl}
use Rattle.std.proofs.lemmas.Result.{IfOk-weaker}
use Rattle.ct_streams.proofs.Options.{with_option}
use Rattle.ct_program.proofs.words.with_group_options.Goals as goal

pub returns : goal.returns
returns c =
    let members = with_option _ _ _ _ _ c.in_ok-arg.ensures c.members_arg-members.ensures.local refl
    c.members_arg-members.ensures.rule in
    IfOk-weaker c.arg-2.result _ _
    (λ r adds. with_option _ _ _ _ _ adds c.default_option-turns.ensures.local members c.default_option-turns.ensures.rule) c.arg-2.ensures
