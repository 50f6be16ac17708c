use Rattle.std.proofs.Common.{subst, sym}
use Rattle.ct_model.specs.Lawful.{IsLawful}
use Rattle.ct_model.specs.Rehearsal.{Rehearsal}
use Rattle.ct_shrink.specs.Naming.{NamesContent}
use Rattle.ct_shrink.proofs.Contents.{act_content}
use Rattle.ct_shrink.proofs.naming.line_of.Goals as goal

pub returns-clause-named : goal.returns-clause-named
returns-clause-named c =
    let w = c.args.stage.now.rehearsal in
    let law : IsLawful w = subst (λ (v : Rehearsal). IsLawful v) c.world.ensures c.record.ensures.lawful in
    subst NamesContent (sym c.act_of.ensures.is) (act_content w law (c.law_names.ensures w law.runs) c.args.step c.requires)
