use Rattle.std.specs.Prelude.{[], ◌∷◌, codes, string_bytes}
use Rattle.ct_grammar.specs.Misfits.{act_hint}
use Rattle.ct_told.specs.GivenNames.{given_text}
use Rattle.ct_told.specs.OddSteps.{no_step_text}
use Rattle.ct_text.proofs.Pushed.{pushed_first, pushed_last, pushed_more}
use Rattle.ct_told.proofs.odd_step.push_no_step.Goals as goal

pub returns : goal.returns
unfolding no_step_text
returns c =
    let name = c.args.name.now in
    let old = string_bytes c.args.line.now in
    let given = given_text [] (codes "name") name in
    pushed_last c.push_act_hint.result (given ∷ codes " is no step" ∷ []) (act_hint name) old _ _
    (pushed_more (given ∷ []) (codes " is no step") old _ _
    (pushed_first given old _ c.in_ok-push_given.ensures) c.in_ok-push_str.ensures.bytes) c.push_act_hint.ensures
