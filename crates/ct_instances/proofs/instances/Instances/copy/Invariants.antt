use Rattle.std.proofs.Common.{◌≡◌, ◌++◌}
use Rattle.ct_instances.proofs.instances.Instances.copy.Given as goal

abbrev pub invariant-loop-instance : goal.invariant-loop-instance
invariant-loop-instance l = l.entries.entries ++ l.instance-iterator ≡ l.self.entries
