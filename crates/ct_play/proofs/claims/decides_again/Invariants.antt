use Rattle.std.proofs.Common.{◌≡◌, Some}
use Rattle.ct_grammar.specs.declared.carried.Carried.TheVariants.{Dec}
use Rattle.ct_play.specs.Claims.{any_to, was_other}
use Rattle.ct_play.specs.Picking.{is_so}
use Rattle.ct_play.proofs.claims.decides_again.Given as goal

abbrev pub invariant-loop-i : goal.invariant-loop-i
invariant-loop-i l = record {
  own : l.own ≡ any_to (is_so l.stage.rehearsal (Dec l.instance l.round) (Some l.member)) l.i;
  other : l.other ≡ any_to (was_other l.stage.rehearsal l.instance l.round) l.i;
}
