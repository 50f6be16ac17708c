use Rattle.std.proofs.Common.{◌<◌, length, drop, ap, sym, subst, ◌+◌, ◌∙◌, arith}
use Rattle.std.specs.Prelude.{remove}
use Rattle.std.proofs.lemmas.List.{length-drop}
use Rattle.ct_network.specs.WaitingLine.{WaitingLine}
use Rattle.ct_network.proofs.Finding.{drop-remove}
use Rattle.ct_network.proofs.line.Line.leave_far.Goals as goal

pub returns-else-at-len-clause-serials : goal.returns-else-at-len-clause-serials
returns-else-at-len-clause-serials c =
    let kept = c.self.inside.kept in
    let there : c.args.at < length (drop c.self.inside.start kept.items) =
    subst (λ (v : WaitingLine). c.args.at < length v.serials) (sym c.self.view_is) c.requires in
    let within : c.self.inside.start + c.args.at < length kept.items = omega (arith, length-drop c.self.inside.start kept.items) in
    ap (drop c.self.inside.start) c.remove.ensures.items
    ∙ drop-remove kept.items c.self.inside.start c.args.at within
    ∙ ap (λ (v : WaitingLine). remove v.serials c.args.at) c.self.view_is
