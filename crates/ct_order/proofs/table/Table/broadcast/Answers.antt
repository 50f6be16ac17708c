use Rattle.std.proofs.Common.{sym}
use Rattle.std.specs.HashMap.{get_by_text}
use Rattle.ct_order.specs.declared.act.Act.TheVariants.{Broadcast}
use Rattle.ct_order.specs.Knowing.{is_said, known_in}
use Rattle.ct_order.proofs.Learning.{sent_new, sets_text, tells_as}
use Rattle.ct_order.proofs.table.Table.broadcast.Goals as goal

pub returns-in-Some : goal.returns-in-Some
returns-in-Some c =
    tells_as c.args.self.now (is_said c.args.line) Broadcast c.requires (c.in-Some.field-0.now, sym c.in-Some.ensures.value)

pub returns-in_ok-insert-in-None : goal.returns-in_ok-insert-in-None
returns-in_ok-insert-in-None c = λ seen h.
    sent_new (known_in c.args.self.now) seen h (is_said c.args.line) (get_by_text c.insert.new.self) c.requires
    (sym c.in-None.ensures.value)
    (sets_text c.args.self.now.sent c.insert.new.self c.in_ok-word-in-None.word c.args.line.word.now c.args.line.place
    c.in_ok-word-in-None.ensures.ok c.in_ok-insert-in-None.ensures.updates)
