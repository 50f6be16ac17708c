use Rattle.std.proofs.Common.{refl, sym, nat_eq}
use Rattle.std.proofs.lemmas.Result.{IfOk-weaker}
use Rattle.std.specs.HashMap.{get}
use Rattle.ct_order.specs.declared.told.Told.{Told}
use Rattle.ct_order.specs.Knowing.{is_said, known_in}
use Rattle.ct_order.proofs.Learning.{sets_number, state_new, tells_kept}
use Rattle.ct_order.proofs.table.Table.state.Goals as goal

pub returns-in-Some : goal.returns-in-Some
returns-in-Some c =
    IfOk-weaker c.differing.result _ _
    (λ r m. (tells_kept c.args.self.now (is_said c.args.line) c.in-Some.told.now r m).1 c.requires (sym c.in-Some.ensures.value))
    c.differing.ensures

pub returns-in_ok-insert-in-None : goal.returns-in_ok-insert-in-None
returns-in_ok-insert-in-None c = λ seen h.
    let told : Told = record { place = c.args.line.place; word = c.in_ok-word-in-None.word } in
    state_new (known_in c.args.self.now) seen h (is_said c.args.line) (get nat_eq c.insert.new.self) told c.requires refl
    c.in_ok-word-in-None.ensures.ok (sym c.in-None.ensures.value)
    (sets_number c.args.self.now.states c.insert.new.self c.args.line.at told c.in_ok-insert-in-None.ensures.updates)
