use Rattle.std.proofs.Common.{append-nil}
use Rattle.json.proofs.OnLiterals.{json_on_literals}
use Rattle.ct_json.specs.JsonSteps.{missing_fields}
use Rattle.ct_json.proofs.json_steps.push_missing.Goals as goal

pub returns : goal.returns
unfolding missing_fields json_on_literals
returns c = rw (← c.sent-sent.ensures.value, append-nil) c.write.ensures.bytes
