use Rattle.std.proofs.Common.{◌∙◌, ap}
use Rattle.std.specs.Prelude.{option_map}
use Rattle.ct_play.specs.Goals.{terms}
use Rattle.ct_play.proofs.Seeing.{looks_stepped}
use Rattle.ct_play.proofs.watch.Watch.step.Goals as goal

pub invariant_of-self-2 : goal.invariant_of-self-2
invariant_of-self-2 c = (
  looks_stepped c.self.inside.stage c.step.new.self c.args.step (terms (option_map (λ goal. goal.now) c.self.inside.goal))
      c.terms.result.now c.self.inside.looks.items c.look_again.new.looks.items c.terms.ensures c.in_ok-step.ensures.joined
      c.self.invariant.0 c.look_again.ensures,
  ap (λ s. s.sides) c.in_ok-step.ensures.joined ∙ c.self.invariant.1,
)
