use Rattle.std.proofs.Common.{◌∙◌}
use Rattle.ct_logs.proofs.Runs.{unmet_in}
use Rattle.ct_logs.proofs.unmet.unmet_text.Goals as goal

pub returns-clause-some : goal.returns-clause-some
returns-clause-some c =
    unmet_in c.setup_of.result c.record.result.now c.args.world.now.rehearsal c.expected-expected.result.now
    c.args.sources.set.now.expected c.n.result c.in_ok-unmet.field-0 c.in-Some.unmet c.setup_of.ensures.setting c.setup_of.ensures.cells
    c.record.ensures.value c.expected-expected.ensures (c.n.ensures.value ∙ c.group.ensures) c.lawful.ensures
    c.in_ok-unmet.ensures.some c.in-Some.is
