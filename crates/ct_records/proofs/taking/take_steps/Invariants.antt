use Rattle.ct_records.proofs.Common.{◌≡◌, ◌≤◌, vec_len, AreDone}
use Rattle.ct_records.proofs.taking.take_steps.Given as goal

abbrev pub invariant-loop : goal.invariant-loop
invariant-loop g l = record {
  done : AreDone (g.K.Keeper.has l.fn.keeper) (g.K.Keeper.has l.keeper) (g.R.Source.left l.fn.reader) (g.R.Source.left l.reader)
      l.fn.input l.input;
  few : l.input.count ≤ 67108864;
  short : vec_len l.input.bytes ≤ 1024;
  same : g.R.Source.failures l.reader ≡ g.R.Source.failures l.fn.reader;
}
