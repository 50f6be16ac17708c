use Rattle.std.specs.Prelude.{string_bytes}
use Rattle.ct_json.specs.Json.{messages_at, messages_value}
use Rattle.ct_json.proofs.Fields.{then_value}
use Rattle.ct_json.proofs.report.push_messages_at.Goals as goal

pub returns : goal.returns
unfolding messages_at
returns c =
    then_value c.push_messages.result c.args.key.now (messages_value c.args.messages.now) (string_bytes c.args.text.now) _ _ c.requires
    c.in_ok-write.ensures.bytes c.push_messages.ensures
