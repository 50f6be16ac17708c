use Rattle.std.proofs.Common.{append-nil}
use Rattle.json.proofs.OnLiterals.{json_on_literals}
use Rattle.ct_json.specs.JsonSteps.{round_fields}
use Rattle.ct_json.proofs.json_steps.push_round.Goals as goal

pub returns : goal.returns
unfolding round_fields json_on_literals
returns c =
    rw (← c.instance_of-instance.ensures, ← c.round_of-round.ensures, ← c.coordinator_of-coordinator.ensures, append-nil)
    c.write.ensures.bytes
