use Rattle.std.proofs.Common.{◌≡◌, ◌≤◌, ◌&&◌, not, take}
use Rattle.indexmap.specs.IndexSet.{spare}
use Rattle.ct_names.specs.Message.{Message}
use Rattle.ct_names.specs.Value.{has}
use Rattle.ct_abcast.proofs.caster.take_out.Given as goal

abbrev pub invariant-loop-message : goal.invariant-loop-message
invariant-loop-message l = record {
  left : (m : Message) → has l.pending.keys m ≡ (has l.fn.pending.keys m && not (has (take l.message-index l.messages) m));
  room : spare l.fn.pending ≤ spare l.pending;
}
