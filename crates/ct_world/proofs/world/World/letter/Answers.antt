use Rattle.std.proofs.Common.{ap, ◌∙◌, Some, option_map}
use Rattle.ct_model.specs.Mapped.{without_value}
use Rattle.ct_model.specs.Rehearsal.{state_of}
use Rattle.ct_world.proofs.Reading.Shown.{without_value_at}
use Rattle.ct_world.proofs.Basics.Waits.{world_seen}
use Rattle.ct_world.proofs.world.World.letter.Goals as goal

pub returns-in-Some : goal.returns-in-Some
returns-in-Some c =
    ap Some c.without_value.ensures
    ∙ ap (option_map without_value) c.in-Some.ensures
    ∙ without_value_at c.self.inside.kept.book.values c.self.inside.kept.network.sent (state_of c.args.self.now.rehearsal).sent
    c.args.serial
    (world_seen c.self.inside c.self.view_is c.self.invariant).sent

pub returns-in-None : goal.returns-in-None
returns-in-None c =
    ap (option_map without_value) c.in-None.ensures
    ∙ without_value_at c.self.inside.kept.book.values c.self.inside.kept.network.sent (state_of c.args.self.now.rehearsal).sent
    c.args.serial
    (world_seen c.self.inside c.self.view_is c.self.invariant).sent
