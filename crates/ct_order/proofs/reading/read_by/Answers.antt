use Rattle.std.proofs.Common.{◌∙◌, ◌+◌, ◌≤◌, ap, subst, sym, take}
use Rattle.std.proofs.lemmas.List.{take_all}
use Rattle.ct_order.specs.Reading.{IsReadFrom, standings_of}
use Rattle.ct_order.proofs.Files.{as_many, file_halts, file_more, still_halts}
use Rattle.ct_order.proofs.reading.read_by.Goals as goal

pub returns-in-Err : goal.returns-in-Err
returns-in-Err g c = λ texts are.
    still_halts texts c.in-Err.stop c.read.result c.read.ensures
    (file_halts (g.F.Files.bytes c.args.files.now) (λ name. name.now) c.args.names.now texts are c.loop-name.name-index c.len-log.result _
    c.loop-name-test.true (c.len-log.ensures ∙ c.loop-name.invariant.count) c.loop-name.ends.items c.loop-name.table c.in-Err.stop
    (c.loop-name.invariant.read texts are) c.in-Err.ensures)

pub loop-name-preserved : goal.loop-name-preserved
loop-name-preserved g c = record {
  count = c.in-Ok-push.ensures.len ∙ ap (λ n. n + 1) c.loop-name.invariant.count;
  read = λ texts are.
      subst (λ l. IsReadFrom (take (c.loop-name.name-index + 1) texts) (standings_of l) c.read_file.new.table)
      (sym c.in-Ok-push.ensures.items)
      (file_more (g.F.Files.bytes c.args.files.now) (λ name. name.now) c.args.names.now texts are c.loop-name.name-index c.len-log.result _
      c.loop-name-test.true (c.len-log.ensures ∙ c.loop-name.invariant.count) c.loop-name.ends.items c.loop-name.table c.in-Ok.end
      c.read_file.new.table (c.loop-name.invariant.read texts are) c.in-Ok.ensures);
}

pub returns : goal.returns
returns g c = λ texts are.
    let few = sym (as_many (g.F.Files.bytes c.args.files.now) (λ name. name.now) c.args.names.now texts are) in
    subst (λ l. IsReadFrom l (standings_of c.loop-name.ends.items) c.loop-name.table)
    (take_all c.loop-name.name-index texts (subst (λ n. n ≤ c.loop-name.name-index) few c.loop-name-test.false))
    (c.loop-name.invariant.read texts are)
