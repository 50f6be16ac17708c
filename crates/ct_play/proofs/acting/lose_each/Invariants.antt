use Rattle.std.proofs.Common.{◌≡◌, Ok, take}
use Rattle.ct_play.specs.Acting.{after_losses}
use Rattle.ct_play.specs.Played.{IsLater}
use Rattle.ct_play.proofs.acting.lose_each.Given as goal

abbrev pub invariant-loop-serial : goal.invariant-loop-serial
invariant-loop-serial l = record {
  so_far : after_losses l.member l.fn.stage (take l.serial-index l.serials) ≡ Ok l.stage;
  later : IsLater l.fn.stage l.stage;
}
