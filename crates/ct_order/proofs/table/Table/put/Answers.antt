use Rattle.std.proofs.Common.{refl, sym, nat_eq}
use Rattle.std.specs.HashMap.{get, get_by_text}
use Rattle.ct_order.specs.declared.told.Told.{Told}
use Rattle.ct_order.specs.Knowing.{is_said, known_in}
use Rattle.ct_order.proofs.Learning.{again, put_new, sets_number, sets_text}
use Rattle.ct_order.proofs.table.Table.put.Goals as goal

pub returns-in-Some : goal.returns-in-Some
returns-in-Some c = λ seen h.
    again (known_in c.args.self.now) seen h (is_said c.args.line) c.requires.act c.requires.free c.in-Some.delivery.now
    (sym c.in-Some.ensures.value)

pub returns-in_ok-insert-in-None-2 : goal.returns-in_ok-insert-in-None-2
returns-in_ok-insert-in-None-2 c = λ seen h.
    let told : Told = record { place = c.args.line.place; word = c.in_ok-word-in-None.word } in
    put_new (known_in c.args.self.now) seen h (is_said c.args.line) (get nat_eq c.insert-in-None.new.self) (get_by_text c.insert.new.self)
    told c.requires.act refl c.in_ok-word-in-None.ensures.ok c.requires.free (sym c.in-None.ensures.value)
    (sets_number c.args.self.now.order c.insert-in-None.new.self c.args.line.at told c.in_ok-insert-in-None-2.ensures.updates)
    (sets_text c.args.self.now.placed c.insert.new.self c.in_ok-key-in-None.key c.args.line.word.now
    (record { at = c.args.line.at; place = c.args.line.place }) c.in_ok-key-in-None.ensures.ok c.in_ok-insert-in-None.ensures.updates)
