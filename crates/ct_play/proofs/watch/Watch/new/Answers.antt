use Rattle.std.proofs.Common.{◌∙◌, ap}
use Rattle.ct_play.specs.Goals.{looks_of}
use Rattle.ct_play.proofs.watch.Watch.new.Goals as goal

pub invariant_of-result : goal.invariant_of-result
invariant_of-result c = (
  c.in_ok-looks.ensures ∙ ap (looks_of c.in_ok-stage.stage) c.terms.ensures,
  ap (λ s. s.sides) c.in_ok-stage.ensures.ok,
)
