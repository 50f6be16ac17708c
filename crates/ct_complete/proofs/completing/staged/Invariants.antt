use Rattle.std.proofs.Common.{◌≡◌, take}
use Rattle.ct_world.specs.Setup.{record_of}
use Rattle.ct_play.specs.Goals.{uncut}
use Rattle.ct_complete.proofs.completing.staged.Given as goal

abbrev pub invariant-loop-i : goal.invariant-loop-i
invariant-loop-i l = l.stage ≡ uncut (record_of l.fn.setup (take l.i l.steps))
