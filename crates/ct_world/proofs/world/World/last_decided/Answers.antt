use Rattle.std.proofs.Common.{◌∙◌}
use Rattle.ct_model.specs.Rehearsal.{state_of}
use Rattle.ct_world.specs.Kept.{values_of}
use Rattle.ct_world.specs.World.{member_of}
use Rattle.ct_world.proofs.Reading.Decisions.{last_decided-is, if_this}
use Rattle.ct_world.proofs.world.World.last_decided.Goals as goal

pub returns : goal.returns
returns c =
    let w = c.args.self.now.rehearsal in
    let sits = c.in_ok-seat.ensures.seat in
    c.last_decided.ensures
    ∙ last_decided-is (values_of (state_of w)) c.in_ok-seat.seat.now.instances (member_of w c.args.member).got
    sits.keeps.instances.decisions
    ∙ if_this w c.args.member _ sits.in_group
