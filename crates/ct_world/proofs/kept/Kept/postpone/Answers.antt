use Rattle.std.proofs.Common.{◌-◌, ◌++◌, set, refl, ap, sym, ◌∙◌}
use Rattle.ct_model.specs.Waiting.{alone, without}
use Rattle.ct_model.proofs.Steps.LineSteps.{postpone_taken}
use Rattle.ct_network.specs.Network.{line_at}
use Rattle.ct_world.specs.Kept.{rehearsal_of}
use Rattle.ct_world.proofs.Steps.Doing.{does_in, ready_in}
use Rattle.ct_world.proofs.Steps.LineSteps.{line_mail, line_steps, waits_once}
use Rattle.ct_world.proofs.Basics.Places.{placed_in, put-is}
use Rattle.ct_world.proofs.kept.Kept.postpone.Goals as goal

pub postpone-requires : goal.postpone-requires
postpone-requires c =
    let p = ready_in c.requires.sound c.requires.ready in
    record {
      room = c.requires.ready.for_sending;
      member = p.lined;
      there = (placed_in c.args.member c.args.serial p.world p.in_group c.requires.ready.for_itself).within;
    }

pub returns : goal.returns
returns c =
    let p = ready_in c.requires.sound c.requires.ready in
    let k = c.args.serial in
    let taken = postpone_taken _ _ _ p.world.lawful p.allowed in
    does_in refl p tt c.join.ensures taken (line_mail (rehearsal_of c.args.self.now) c.args.member)
    (line_steps p taken (λ line. without k line ++ alone k line) (λ q line. refl) refl c.postpone.ensures.sent
    (c.postpone.ensures.lines ∙ ap (set c.args.self.now.network.lines (c.args.member - 1))
    (put-is k c.args.place _ (placed_in c.args.member c.args.serial p.world p.in_group c.requires.ready.for_itself)
    ∙ ap (λ ks. without k (line_at c.args.self.now.network.lines c.args.member) ++ ks) (sym (waits_once p))))
    refl)
