use Rattle.std.proofs.Common.{◌-◌, set, refl, ap, ◌∙◌}
use Rattle.ct_model.specs.Waiting.{without}
use Rattle.ct_model.proofs.Steps.LineSteps.{lose_taken}
use Rattle.ct_world.specs.Kept.{rehearsal_of}
use Rattle.ct_world.proofs.Steps.Doing.{does_in, ready_in}
use Rattle.ct_world.proofs.Steps.LineSteps.{line_mail, line_steps}
use Rattle.ct_world.proofs.Basics.Places.{placed_in}
use Rattle.ct_world.proofs.kept.Kept.lose.Goals as goal

pub leave-requires : goal.leave-requires
leave-requires c =
    let p = ready_in c.requires.sound c.requires.ready in
    record {
      member = p.lined;
      there = (placed_in c.args.member c.args.serial p.world p.in_group c.requires.ready.for_itself).within;
    }

pub returns : goal.returns
returns c =
    let p = ready_in c.requires.sound c.requires.ready in
    let taken = lose_taken _ _ _ p.world.lawful p.allowed in
    does_in refl p tt c.join.ensures taken (line_mail (rehearsal_of c.args.self.now) c.args.member)
    (line_steps p taken (without c.args.serial) (λ q line. refl) refl c.leave.ensures.sent
    (c.leave.ensures.lines ∙ ap (set c.args.self.now.network.lines (c.args.member - 1))
    (placed_in c.args.member c.args.serial p.world p.in_group c.requires.ready.for_itself).rest)
    refl)
