use Rattle.std.proofs.Common.{refl, sym}
use Rattle.ct_order.proofs.Scanned.{said_clash}
use Rattle.ct_order.proofs.scan.take_said.Goals as goal

pub returns-in-Ok-Some : goal.returns-in-Ok-Some
returns-in-Ok-Some c =
    said_clash c.args.log c.args.standing.now c.args.table.now c.args.act c.args.word.now
    (record {
      place = record { log = c.args.log; line = c.args.standing.now.count };
      at = c.args.standing.now.at;
      act = c.args.act;
      word = c.args.word;
    })
    refl c.in-Ok.next c.take.new.self c.in-Ok-Some.clash (sym c.in-Ok.ensures) (rw c.in-Ok-Some.field-0-is at c.in-Ok-Some.ensures)
    c.args.standing.now c.conflict.result c.conflict.ensures
