use Rattle.std.proofs.Common.{◌≡◌, ◌≤◌, take}
use Rattle.ct_play.specs.Outcomes.{named_count}
use Rattle.ct_play.proofs.outcomes.named_count.Given as goal

abbrev pub invariant-loop-message : goal.invariant-loop-message
invariant-loop-message l = record {
  so_far : l.count ≡ named_count l.names (take l.message-index l.messages);
  few : l.count ≤ l.message-index;
}
