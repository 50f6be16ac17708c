use Rattle.ct_records.proofs.Common.{◌≤◌, length, AreTaken, IsAfter}
use Rattle.ct_records.proofs.taking.take_all.Given as goal

abbrev pub invariant-loop : goal.invariant-loop
invariant-loop g l = record {
  taken : AreTaken (g.K.Keeper.has l.fn.keeper) (IsAfter (g.K.Keeper.has l.keeper) l.later) l.bytes l.rest;
  shorter : length l.rest ≤ length l.bytes;
}
