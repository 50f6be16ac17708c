use Rattle.std.proofs.Common.{subst}
use Rattle.ct_model.specs.Cause.{cause}
use Rattle.ct_model.specs.Lawful.{IsLawful}
use Rattle.ct_world.specs.Kept.{IsVerdict}
use Rattle.ct_world.specs.World.{WorldView}
use Rattle.ct_world.proofs.Steps.Verdicts.{verdict_allowed, verdict_allows, verdict_is}
use Rattle.ct_world.proofs.world.World.enabled.Goals as goal

pub returns : goal.returns
returns c =
    let r = c.cause.result in
    let tested = subst (λ (v : WorldView). IsVerdict (cause v.rehearsal c.args.step.now) r) c.self.view_is c.cause.ensures in
    record {
      value = verdict_is (cause c.args.self.now.rehearsal c.args.step.now) r tested;
      allowed = verdict_allows c.args.step.now r tested
          (subst (λ (v : WorldView). IsLawful v.rehearsal) c.self.view_is c.self.invariant.sound.lawful);
      all_allowed = verdict_allowed c.args.step.now r tested;
    }
