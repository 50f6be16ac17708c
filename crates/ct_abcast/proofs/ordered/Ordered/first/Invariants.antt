use Rattle.std.proofs.Common.{◌≡◌, map}
use Rattle.ct_names.specs.Value.{ordered}
use Rattle.ct_abcast.proofs.ordered.Ordered.first.Given as goal

abbrev pub invariant-loop-message : goal.invariant-loop-message
invariant-loop-message l = l.set ≡ ordered (map (λ message. message.now) l.yielded)
