use Rattle.std.proofs.Common.{arith}
use Rattle.ct_model.proofs.Basics.Options.{some-none}
use Rattle.ct_world.proofs.Basics.Starts.{world-empty}
use Rattle.ct_world.proofs.world.World.new.Goals as goal

pub invariant_of-result : goal.invariant_of-result
invariant_of-result c = record {
  sound = rw c.new-2.ensures.items (world-empty (record { members = c.args.group; bound = c.args.bound }) c.args.cells _
      c.in-Ok-new_seats.ensures
      (record {
        few_members = omega (arith, c.n.ensures.at_most, c.n.ensures.value);
        few_cells = c.requires.few;
        some_bound = c.requires.some;
        few_bound = c.requires.bounded;
      })
      c.in-Ok.ensures.sent (rw c.n.ensures.value at c.in-Ok.ensures.lines) c.new-3.ensures);
  ready = λ room e. some-none room e;
}
