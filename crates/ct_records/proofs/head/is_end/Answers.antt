use Rattle.ct_records.proofs.Ended.{ascii_utf8}
use Rattle.ct_records.proofs.head.is_end.Goals as goal

pub returns-then-is_ascii : goal.returns-then-is_ascii
returns-then-is_ascii c = λ holds.
    record {
      all = c.in-Some.all;
      are = c.in-Some.ensures;
      says = c.are_of.ensures holds;
      utf8 = ascii_utf8 c.args.bytes.now (c.is_ascii.ensures c.if-is_ascii.true);
    }
