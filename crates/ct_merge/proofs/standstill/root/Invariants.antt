use Rattle.std.proofs.Common.{◌≡◌, ◌<◌, length, true}
use Rattle.ct_names.specs.Group.{is_member}
use Rattle.ct_merge.specs.Logs.{log_of}
use Rattle.ct_merge.specs.Merging.{count_of}
use Rattle.ct_merge.specs.Stops.{IsLed}
use Rattle.ct_merge.proofs.standstill.root.Given as goal

abbrev pub invariant-loop-step : goal.invariant-loop-step
invariant-loop-step l = record {
  member : is_member l.progress.rehearsal.setting.members l.at ≡ true;
  more : count_of l.progress.counts l.at < length (log_of l.logs l.at);
  led : IsLed l.logs l.progress l.step l.at;
}
