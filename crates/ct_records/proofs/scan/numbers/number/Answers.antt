use Rattle.std.proofs.Common.{arith}
use Rattle.ct_records.proofs.Fronts.{number_behind}
use Rattle.ct_records.proofs.scan.numbers.number.Goals as goal

pub returns-clause-text : goal.returns-clause-text
returns-clause-text c =
    number_behind c.args.bytes.now c.after_white.result.now c.in_ok-n.rest.now c.in_ok-n.n c.after_white.ensures c.in_ok-n.ensures.text
    (omega (arith, c.in_ok-n.ensures.within))
