use Rattle.std.proofs.Common.{◌≡◌}
use Rattle.std.specs.Option.{option_or}
use Rattle.ct_play.specs.Picking.{is_gone, last_of, last_so, was_sent}
use Rattle.ct_play.proofs.picking.last_so.Given as goal

abbrev pub invariant-loop-serial : goal.invariant-loop-serial
invariant-loop-serial l =
    last_so l.stage.rehearsal l.member l.carried l.from
    ≡ option_or (last_of (is_gone l.stage.rehearsal l.member l.carried l.from) l.serial)
    (option_or l.last (last_of (was_sent l.stage.rehearsal l.member l.carried l.from) l.serial))

abbrev pub decreases-loop-serial : goal.decreases-loop-serial
decreases-loop-serial l = l.serial
