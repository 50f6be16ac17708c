use Rattle.ct_relay.proofs.Kept.{grown-kept}
use Rattle.ct_relay.proofs.known.Known.lengthen.Goals as goal

pub returns-then-messages : goal.returns-then-messages
returns-then-messages c = λ order kept.
    grown-kept order c.args.self.now _ c.add_all.new.self c.args.others.now _ _ kept c.grow-messages.ensures.marks
    c.grow-decisions.ensures.marks c.add_all.ensures
