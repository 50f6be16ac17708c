use Rattle.std.proofs.Common.{ap, ◌∙◌, arith}
use Rattle.ct_model.specs.State.{at_serial}
use Rattle.ct_network.specs.Network.{NetworkView}
use Rattle.ct_network.proofs.Readings.{envelope_at}
use Rattle.ct_network.proofs.network.Network.envelope.Goals as goal

pub returns : goal.returns
returns c =
    envelope_at c.self.inside.envelopes.items c.args.serial c.in_ok-at.at c.get.result
    (omega (arith, c.in_ok-at.ensures.0, c.in_ok-at.ensures.1)) c.get.ensures
    ∙ ap (λ (v : NetworkView). at_serial v.sent c.args.serial) c.self.view_is
