use Rattle.ct_play.specs.Picking.{is_so, waiting_at}
use Rattle.ct_play.proofs.Firsts.{IsFound}
use Rattle.ct_play.proofs.picking.first_place.Given as goal

abbrev pub invariant-loop-serial : goal.invariant-loop-serial
invariant-loop-serial l = IsFound (is_so l.stage.rehearsal l.carried l.from) (waiting_at l.stage.rehearsal l.member) l.serial l.first

abbrev pub decreases-loop-serial : goal.decreases-loop-serial
decreases-loop-serial l = l.serial
