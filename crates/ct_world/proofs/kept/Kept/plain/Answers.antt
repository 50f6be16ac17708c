use Rattle.std.proofs.Common.{refl}
use Rattle.ct_world.specs.Kept.{rehearsal_of}
use Rattle.ct_world.proofs.Steps.Preparing.{has_room, plain_allowed, plain_room, reserved}
use Rattle.ct_world.proofs.kept.Kept.plain.Goals as goal

pub returns : goal.returns
returns c =
    has_room c.requires.sound (reserved refl c.reserve.ensures.record refl c.reserve.ensures.sent c.reserve.ensures.lines refl)
    (plain_allowed (rehearsal_of c.args.self.now) c.args.room c.requires.plain) refl
    c.in_ok-reserve.ensures.for_step c.in_ok-reserve.ensures.for_sending
    (plain_room (rehearsal_of c.args.self.now) _ c.args.room c.requires.plain)
