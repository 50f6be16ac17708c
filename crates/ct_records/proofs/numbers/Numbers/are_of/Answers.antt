use Rattle.ct_records.proofs.Common.{◌≡◌, ◌≤◌, List, Some, refl, ap, subst, ◌∙◌, length, arith, All, MAX_STEPS, Step, IsBound, since}
use Rattle.ct_records.proofs.Members.{parts_say}
use Rattle.ct_records.proofs.numbers.Numbers.are_of.Goals as goal

pub returns-then-batch-bound : goal.returns-then-batch-bound
returns-then-batch-bound c = λ holds.
    let p = c.args.self in
    let w = c.args.world.now.rehearsal in
    let version = c.in-Some.version in
    let cells : c.in-Some-cells.cells ≡ w.cells = cc in
    let n : c.in-Some-n.n ≡ w.setting.members = cc in
    let batch : c.in-Some-bound.batch ≡ w.setting.bound = cc in
    parts_say p.batch p.cells p.n p.version (Some w.steps) version w c.in-Some.is (c.in-Some-cells.is ∙ ap (λ x. Some x) cells)
    (c.in-Some-n.is ∙ ap (λ x. Some x) n) refl (subst (IsBound version p.batch) batch c.in-Some-bound.ensures)
    (subst (All (λ s. since s ≤ version)) c.record.ensures.value (c.has_all.ensures holds)) (record {
      some_members = omega (arith, c.n.ensures.at_least_one);
      few_members = omega (arith, c.n.ensures.at_most);
      some_bound = omega (arith, c.bound-2.ensures.some, c.bound-2.ensures.value);
      few_bound = omega (arith, c.bound-2.ensures.few, c.bound-2.ensures.value);
      few_cells = omega (arith, c.cells.ensures.few, c.cells.ensures.value);
      few_steps = subst (λ (ss : List Step). length ss ≤ MAX_STEPS) c.record.ensures.value c.record.ensures.few;
      fit = c.requires;
    })
