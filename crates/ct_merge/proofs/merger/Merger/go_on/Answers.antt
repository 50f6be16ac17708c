use Rattle.std.proofs.Common.{rules, ◌≡◌, ap, false}
use Rattle.ct_merge.specs.Stops.{IsCulprit}
use Rattle.ct_merge.specs.Waits.{is_wait}
use Rattle.ct_merge.specs.declared.verdict.Culprit.{Culprit}
use Rattle.ct_merge.proofs.Failing.{fault_none}
use Rattle.ct_merge.proofs.Halting.{is_culprit}
use Rattle.ct_merge.proofs.merger.Merger.go_on.Goals as goal

pub returns-clause-own : goal.returns-clause-own
returns-clause-own c =
    let m = c.args.self in
    let it : IsCulprit m.setting m.cells m.logs c.halted.result = search (rules, is_culprit) in
    let calm : is_wait c.halted.result.why ≡ false = ap (λ (k : Culprit). is_wait k.why) c.halted.ensures in
    λ free. fault_none m.setting m.cells m.logs c.halted.result it calm free
