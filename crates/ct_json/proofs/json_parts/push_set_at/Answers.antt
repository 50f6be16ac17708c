use Rattle.ct_json.proofs.Common.{string_bytes, set_value}
use Rattle.ct_json.proofs.Fields.{then_value}
use Rattle.ct_json.proofs.json_parts.push_set_at.Goals as goal

pub returns-in_ok-write-in-Some : goal.returns-in_ok-write-in-Some
returns-in_ok-write-in-Some c =
    rw c.in-Some.is (then_value c.push_set.result c.args.key.now (set_value c.in-Some.set) (string_bytes c.args.text.now) _ _ c.requires
    c.in_ok-write-in-Some.ensures.bytes c.push_set.ensures)
