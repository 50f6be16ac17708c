use Rattle.std.specs.Prelude.{◌++◌, string_bytes, map}
use Rattle.std.proofs.Common.{ap, ◌∙◌}
use Rattle.ct_names.specs.Message.{Message}
use Rattle.ct_names.specs.MessageText.{message_text}
use Rattle.ct_text.proofs.Joins.{join_starts, join_goes}
use Rattle.ct_text.proofs.lists.push_messages.Goals as goal

pub loop-i-init : goal.loop-i-init
loop-i-init c = join_starts c.args.separator (string_bytes c.args.text.now) (map message_text c.args.messages.now)

pub loop-i-preserved : goal.loop-i-preserved
loop-i-preserved c =
    let before = string_bytes c.push_separator.new.text in
    join_goes message_text c.args.separator c.loop-i.i c.args.messages.now c.index-messages-i.result (string_bytes c.loop-i.text) before _ _
    c.loop-i-test.true c.in_ok-push_separator.ensures
    (c.in_ok-write.ensures.bytes ∙ ap (λ (m : Message). before ++ message_text m) c.index-messages-i.is) c.loop-i.invariant
