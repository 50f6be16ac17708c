use Rattle.std.proofs.Common.{◌≡◌, ◌<◌, length, Some, get_or, ap, sym, ◌∙◌, subst}
use Rattle.std.specs.Prelude.{slice_get}
use Rattle.std.proofs.lemmas.Option.{slice_get-get_or}
use Rattle.ct_model.specs.declared.step.Step.{Step}
use Rattle.ct_world.specs.Stage.{ReplayView}
use Rattle.ct_world.specs.World.{WorldView}
use Rattle.ct_world.proofs.Reading.Replaying.{no_step, one_more}
use Rattle.ct_world.proofs.replay.Replay.step.Goals as goal

pub invariant_of-self-2 : goal.invariant_of-self-2
invariant_of-self-2 c =
    let w = c.self.inside.stage.rehearsal in
    let steps = c.self.inside.steps.now in
    let n : length c.record-done.result.now ≡ length w.steps =
    ap length (c.record-done.ensures.value ∙ ap (λ (v : WorldView). v.rehearsal.steps) c.world.ensures) in
    let left : length w.steps < length steps =
    subst (λ (v : ReplayView). v.done < length v.whole.steps) (sym c.self.view_is) c.requires in
    let here : Step = get_or steps (length c.record-done.result.now) no_step in
    let there : slice_get steps (length w.steps) ≡ Some here =
    slice_get-get_or steps (length w.steps) no_step left ∙ ap (λ k. Some (get_or steps k no_step)) (sym n) in
    one_more w c.step.new.self.rehearsal steps here c.self.invariant left there c.in-Ok.ensures.ok.joined c.in-Ok.ensures.allowed

pub returns-clause-step : goal.returns-clause-step
returns-clause-step c =
    let w = c.self.inside.stage.rehearsal in
    let steps = c.self.inside.steps.now in
    let n : length c.record-done.result.now ≡ length w.steps =
    ap length (c.record-done.ensures.value ∙ ap (λ (v : WorldView). v.rehearsal.steps) c.world.ensures) in
    let left : length w.steps < length steps =
    subst (λ (v : ReplayView). v.done < length v.whole.steps) (sym c.self.view_is) c.requires in
    let there : slice_get steps (length w.steps) ≡ Some (get_or steps (length c.record-done.result.now) no_step) =
    slice_get-get_or steps (length w.steps) no_step left ∙ ap (λ k. Some (get_or steps k no_step)) (sym n) in
    rw (← c.self.view_is) there
