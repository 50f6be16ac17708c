use Rattle.std.proofs.Common.{◌≡◌, ◌≤◌, ◌-◌, length}
use Rattle.ct_play.specs.Goals.{shows}
use Rattle.ct_shrink.specs.Trials.{IsTried}
use Rattle.ct_shrink.proofs.making.make_trials.Given as goal

abbrev pub invariant-loop-trials : goal.invariant-loop-trials
invariant-loop-trials g l = record {
  tried : IsTried (shows l.goal) l.setup l.trials l.world.rehearsal;
  no_more : length l.trials.lines ≤ length l.fn.trials.lines;
  most : l.trials.most ≡ l.fn.trials.most;
}

abbrev pub decreases-loop-trials : goal.decreases-loop-trials
decreases-loop-trials g l = l.trials.most - l.trials.made
