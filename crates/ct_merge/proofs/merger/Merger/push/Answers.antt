use Rattle.std.proofs.Common.{◌∙◌}
use Rattle.ct_merge.proofs.Advancing.{grown}
use Rattle.ct_merge.proofs.merger.Merger.push.Goals as goal

pub invariant_of-self : goal.invariant_of-self
invariant_of-self c =
    let pushed = c.push_line.ensures in
    let taken = grown c.push_line.result c.self.inside.logs.items c.push_line.new.logs.items c.self.inside.progress c.args.member
    c.args.line c.self.invariant.0 pushed.here pushed.kept pushed.others in
    (taken, pushed.length ∙ c.self.invariant.1)
