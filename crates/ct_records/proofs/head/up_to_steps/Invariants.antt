use Rattle.ct_records.specs.Members.{IsFound}
use Rattle.ct_records.proofs.head.up_to_steps.Given as goal

abbrev pub invariant-loop : goal.invariant-loop
invariant-loop l = IsFound l.bytes l.numbers l.rest
