use Rattle.std.proofs.Common.{◌∙◌, ap}
use Rattle.std.specs.Prelude.{is_some}
use Rattle.ct_model.specs.Rehearsal.{Rehearsal}
use Rattle.ct_play.proofs.Looking.{shown_of_any}
use Rattle.ct_play.proofs.goals.shown_by_any.Goals as goal

pub returns : goal.returns
returns c =
    c.is_some.ensures ∙ (ap is_some c.first_such.ensures
    ∙ shown_of_any c.args.stage.now c.args.claim.now c.n-count.result
    (c.n-count.ensures.value ∙ (c.group.ensures ∙ ap (λ (w : Rehearsal). w.setting.members) c.world.ensures)))
