use Rattle.std.proofs.Common.{◌∙◌, refl, rules, sym, subst}
use Rattle.ct_order.specs.Scanning.{Scanning}
use Rattle.ct_order.proofs.Files.{IsReadOn, reads_none, reads_on, reads_end, reads_stop}
use Rattle.ct_order.proofs.reading.read_log.Goals as goal

pub loop-turn-init : goal.loop-turn-init
loop-turn-init g c = record {
  same = refl;
  read = λ text is.
      subst (λ (s : Scanning). IsReadOn c.args.log c.args.table.now text (g.R.Source.left c.args.reader.now) s c.args.table.now)
      (sym c.new-scan.ensures) (reads_none c.args.log c.args.table.now text (g.R.Source.left c.args.reader.now) is);
}

pub loop-turn-preserved : goal.loop-turn-preserved
loop-turn-preserved g c = record {
  same = c.in-Ok.ensures.ok ∙ c.loop-turn.invariant.same;
  read = λ text is.
      reads_on c.args.log c.args.table.now text (g.R.Source.left c.loop-turn.reader) (g.R.Source.left c.read.new.self) c.loop-turn.scan
      c.loop-turn.table c.in-Ok.count c.read.new.buffer (c.loop-turn.invariant.read text is) c.in-Ok.ensures.bytes c.take.new.self
      c.take.new.table c.in-Ok-take.ensures;
}

pub returns-then-count-eq0 : goal.returns-then-count-eq0
returns-then-count-eq0 g c = λ text is.
    reads_end c.args.log c.args.table.now text (g.R.Source.left c.loop-turn.reader) (g.R.Source.left c.read.new.self) c.loop-turn.scan
    c.loop-turn.table c.in-Ok.count c.read.new.buffer (c.loop-turn.invariant.read text is) c.in-Ok.ensures.bytes c.if-count-eq0.true
    (search rules)

pub returns-in-Err : goal.returns-in-Err
returns-in-Err g c = λ text is.
    reads_stop c.args.log c.args.table.now text (g.R.Source.left c.loop-turn.reader) (g.R.Source.left c.read.new.self) c.loop-turn.scan
    c.loop-turn.table c.in-Ok.count c.read.new.buffer (c.loop-turn.invariant.read text is) c.in-Ok.ensures.bytes c.in-Err.stop
    c.in-Err.ensures
