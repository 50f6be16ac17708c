use Rattle.std.proofs.Common.{◌++◌, ◌∷◌, [], refl}
use Rattle.ct_model.proofs.Steps.LineSteps.{repeat_taken}
use Rattle.ct_world.specs.Kept.{rehearsal_of}
use Rattle.ct_world.proofs.Steps.Doing.{does_in, ready_in}
use Rattle.ct_world.proofs.Steps.LineSteps.{line_mail, line_steps}
use Rattle.ct_world.proofs.kept.Kept.repeat.Goals as goal

pub put_back-requires : goal.put_back-requires
put_back-requires c = record {
  room = c.requires.ready.for_sending;
  member = (ready_in c.requires.sound c.requires.ready).lined;
}

pub returns : goal.returns
returns c =
    let p = ready_in c.requires.sound c.requires.ready in
    let taken = repeat_taken _ _ _ p.world.lawful p.allowed in
    does_in refl p tt c.join.ensures taken (line_mail (rehearsal_of c.args.self.now) c.args.member)
    (line_steps p taken (λ line. line ++ c.args.serial ∷ []) (λ q line. refl) refl c.put_back.ensures.sent c.put_back.ensures.lines refl)
