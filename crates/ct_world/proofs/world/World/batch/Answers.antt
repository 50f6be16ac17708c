use Rattle.ct_model.specs.Cause.{order}
use Rattle.ct_model.specs.Rehearsal.{state_of}
use Rattle.ct_world.proofs.Reading.Shown.{serial_at}
use Rattle.ct_world.proofs.world.World.batch.Goals as goal

pub returns : goal.returns
returns c =
    serial_at (λ b. b.messages) (order (state_of c.args.self.now.rehearsal)) c.args.instance c.in_ok-place.place _
    c.foremost.result.now.caster.batches c.in_ok-place.ensures.0 c.in_ok-place.ensures.1 c.foremost.ensures.value c.batch_at.ensures
