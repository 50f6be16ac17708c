use Rattle.std.proofs.Common.{◌≡◌, ◌+◌, ◌≤◌, ◌++◌, take}
use Rattle.indexmap.specs.IndexSet.{spare}
use Rattle.ct_names.specs.Value.{minus}
use Rattle.ct_abcast.specs.Last.{AreWithin}
use Rattle.ct_abcast.proofs.delivered.Delivered.deliver.Given as goal

abbrev pub invariant-loop-message : goal.invariant-loop-message
invariant-loop-message l = record {
  keys : l.self-inside.messages.keys ≡ l.initial.self-inside.messages.keys
      ++ minus (take l.message-index l.message-items) l.initial.self-inside.messages.keys;
  ends : l.self-inside.ends ≡ l.initial.self-inside.ends;
  within : AreWithin l.self-inside.last l.self-inside.messages.keys;
  room : spare l.initial.self-inside.messages ≤ spare l.self-inside.messages + l.message-index;
}
