use Rattle.std.proofs.Common.{◌≡◌, ◌&&◌, not, take}
use Rattle.ct_names.specs.Message.{Message}
use Rattle.ct_names.specs.Value.{has}
use Rattle.ct_abcast.proofs.ordered.Ordered.take_out.Given as goal

abbrev pub invariant-loop-message : goal.invariant-loop-message
invariant-loop-message l = record {
  left : (m : Message) → has l.self-inside.messages.keys m ≡ (has l.fn.self.messages m && not (has (take l.message-index l.messages) m));
  fed : l.self-inside.fed ≡ l.fn.self.fed;
}
