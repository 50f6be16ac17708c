use Rattle.ct_world.proofs.Reading.Foremost.{IsForemost}
use Rattle.ct_world.proofs.kept.Kept.foremost.Given as goal

abbrev pub invariant-loop-i : goal.invariant-loop-i
invariant-loop-i l = IsForemost l.self.seats.items l.i l.best
