use Rattle.ct_json.proofs.Common.{string_bytes, array_by, step_data}
use Rattle.ct_json.proofs.Fields.{then_value}
use Rattle.ct_json.proofs.json_state.push_steps_at.Goals as goal

pub returns : goal.returns
returns c =
    then_value c.push_entries.result c.args.key.now (array_by step_data c.args.steps.now) (string_bytes c.args.text.now) _ _ c.requires
    c.in_ok-write.ensures.bytes c.push_entries.ensures
