use Rattle.std.proofs.Common.{rules, ◌≡◌, ◌∙◌, ap, sym, subst, option_map}
use Rattle.ct_model.specs.declared.step.Step.TheVariants.{Choose}
use Rattle.ct_world.specs.World.{WorldView}
use Rattle.ct_world.proofs.Reading.Driving.{IsLookUp, best_heard-is, actor-of, nothing_next, next_local-is}
use Rattle.ct_world.proofs.world.World.next_local.Goals as goal

pub returns-in_err-seat : goal.returns-in_err-seat
returns-in_err-seat c =
    let p = c.args.member in
    let looked = subst (λ (v : WorldView). IsLookUp v.rehearsal p c.actor.result) c.self.view_is c.actor.ensures in
    c.from_residual.ensures ∙ sym (nothing_next c.args.self.now.rehearsal p c.actor.result looked
    (sym c.ok.ensures.value ∙ c.in_err-seat.was))

pub returns : goal.returns
returns c =
    let w = c.args.self.now.rehearsal in
    let p = c.args.member in
    let looked = subst (λ (v : WorldView). IsLookUp v.rehearsal p c.actor.result) c.self.view_is c.actor.ensures in
    let actor = actor-of w p c.actor.result c.in_ok-seat.seat looked (sym c.ok.ensures.value ∙ c.in_ok-seat.was) in
    let choice : c.map-choice.result ≡ option_map (Choose p) c.best_heard.result = search rules in
    c.first_allowed.ensures
    ∙ next_local-is w p c.map-choice.result (choice ∙ ap (option_map (Choose p))
    (c.best_heard.ensures ∙ best_heard-is actor))
