use Rattle.ct_records.proofs.Common.{Some, rules, refl, arith, Rehearsal}
use Rattle.ct_records.proofs.Members.{parts_say}
use Rattle.ct_records.proofs.numbers.Numbers.script.Goals as goal

pub returns : goal.returns
returns c =
    let p = c.args.self in
    let steps = c.args.steps.items in
    let w : Rehearsal = record {
      setting = record { members = c.in_ok-n.n; bound = c.in_ok-batch.batch };
      cells = c.in_ok-cells.cells;
      steps = steps;
    } in
    let all = parts_say p.batch p.cells p.n p.version (Some steps) c.in_ok-version.version w c.in_ok-version.was c.in_ok-cells.was
    c.in_ok-n.was refl c.in_ok-batch.ensures (rw c.deref.ensures.value at (c.has_all.ensures c.if-not-has_all.false)) (record {
      some_members = grind arith;
      few_members = grind arith;
      some_bound = c.in_ok-batch.ensures.some;
      few_bound = c.in_ok-batch.ensures.few;
      few_cells = grind arith;
      few_steps = grind arith;
      fit = c.requires;
    }) in
    first_of (search (rules, all), grind (arith, all))
