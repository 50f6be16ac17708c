use Rattle.std.specs.Prelude.{All}
use Rattle.ct_world.specs.Setup.{setting_of}
use Rattle.ct_merge.specs.Standstills.{IsRefusedLine}
use Rattle.ct_merge.proofs.furthest.furthest.Given as goal

abbrev pub invariant-loop-pass : goal.invariant-loop-pass
invariant-loop-pass l = All (IsRefusedLine (setting_of l.setup) l.setup.cells l.logs) l.refused.items
