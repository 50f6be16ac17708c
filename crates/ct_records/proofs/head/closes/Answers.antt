use Rattle.ct_records.proofs.Ended.{closes_ends, closes_object}
use Rattle.ct_records.proofs.head.closes.Goals as goal

pub returns-in-Some-clause-lexemes : goal.returns-in-Some-clause-lexemes
returns-in-Some-clause-lexemes c = λ white.
    closes_object c.args.bytes.now c.in-Some.rest.now c.in-Some.ensures (c.is_white.ensures white)

pub returns-in-Some-clause-ends : goal.returns-in-Some-clause-ends
returns-in-Some-clause-ends c = λ _. closes_ends c.args.bytes.now c.in-Some.rest.now c.in-Some.ensures
