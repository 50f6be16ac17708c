use Rattle.std.proofs.Common.{ap, Some, ◌∙◌}
use Rattle.ct_world.proofs.Reading.Standings.{heard_is}
use Rattle.ct_world.proofs.world.World.heard.Goals as goal

pub returns : goal.returns
returns c =
    let sits = c.in_ok-seat.ensures.seat in
    rw sits.in_group (ap Some c.heard.ensures ∙ heard_is sits c.in_ok-current.ensures.value c.in_ok-inbox.ensures.value
    c.round-round.ensures)
