use Rattle.std.proofs.Common.{◌≡◌, take}
use Rattle.ct_names.specs.Value.{minus}
use Rattle.ct_abcast.specs.Batches.{joined}
use Rattle.ct_abcast.proofs.delivered.Delivered.rest.Given as goal

abbrev pub invariant-loop-message : goal.invariant-loop-message
invariant-loop-message l = l.rest.items ≡ minus (take l.message-index l.message-items) (joined l.self.batches)
