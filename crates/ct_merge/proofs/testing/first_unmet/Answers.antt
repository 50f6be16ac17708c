use Rattle.std.proofs.Common.{rules, ◌≡◌, ◌∙◌, Ok, Some, true, false, ap, arith, sym, subst, take}
use Rattle.std.proofs.lemmas.List.{take_all}
use Rattle.std.specs.Prelude.{slice_get}
use Rattle.ct_names.specs.Group.{is_member}
use Rattle.ct_model.specs.Actor.{actor}
use Rattle.ct_world.specs.Setup.{record_of}
use Rattle.ct_play.specs.Played.{Played}
use Rattle.ct_merge.specs.Merging.{count_of}
use Rattle.ct_merge.specs.Testing.{AreTested}
use Rattle.ct_merge.proofs.Walking.{failed_on, is_unmet, none_tested, stage_on, tested_on}
use Rattle.ct_merge.proofs.testing.first_unmet.Goals as goal

pub loop-i-init : goal.loop-i-init
loop-i-init c = record {
  stage = c.in_ok-walk.ensures.stage;
  tested =
      none_tested (record_of c.args.setup c.args.steps.now) c.args.expected.now c.in_ok-walk.walk
      (ap (λ (s : Played). s.rehearsal) c.in_ok-walk.ensures.stage) c.in_ok-walk.ensures.taken c.in_ok-walk.ensures.tested;
}

pub returns-then-not-branch-clause-some : goal.returns-then-not-branch-clause-some
returns-then-not-branch-clause-some c =
    let w = record_of c.args.setup c.args.steps.now in
    let there : slice_get c.args.steps.now c.loop-i.i ≡ Some c.step_at-step.result = c.step_at-step.ensures in
    let ok : c.pass.result ≡ Ok false = search rules in
    is_unmet w c.args.expected.now c.pass.new.self (actor c.step_at-step.result) c.unmet.result
    (subst (λ (s : Played). is_member s.rehearsal.setting.members (actor c.step_at-step.result) ≡ true) c.loop-i.invariant.stage
    (c.pass.ensures.member ok))
    (ap (λ (s : Played). s.sides) (c.pass.ensures.here ok ∙ c.loop-i.invariant.stage))
    (failed_on w c.loop-i.i c.step_at-step.result c.loop-i.walk c.pass.new.self c.args.expected.now there c.loop-i.invariant.stage
    (c.pass.ensures.fails ok) c.loop-i.invariant.tested) (c.unmet.ensures.member ∙ c.member.ensures)
    (c.unmet.ensures.index ∙ ap (count_of c.pass.new.self.tested) c.member.ensures) c.unmet.ensures.stage

pub loop-i-preserved : goal.loop-i-preserved
loop-i-preserved c =
    let w = record_of c.args.setup c.args.steps.now in
    let there : slice_get c.args.steps.now c.loop-i.i ≡ Some c.step_at-step.result = c.step_at-step.ensures in
    let ok : c.pass.result ≡ Ok true = search rules in
    record {
      stage =
          stage_on w c.loop-i.i c.step_at-step.result c.loop-i.walk c.pass.new.self c.args.expected.now there c.loop-i.invariant.stage
          (c.pass.ensures.stage ok);
      tested = tested_on w c.loop-i.i c.step_at-step.result c.loop-i.walk c.pass.new.self c.args.expected.now there c.loop-i.invariant.stage
          (c.pass.ensures.tested ok) c.loop-i.invariant.tested;
    }

pub end-requires-clause-tested : goal.end-requires-clause-tested
end-requires-clause-tested c =
    let steps = c.args.steps.now in
    let all : take c.loop-i.i steps ≡ steps = take_all c.loop-i.i steps (omega (arith, c.loop-i-test.false)) in
    subst (λ v. AreTested v c.args.expected.now c.loop-i.walk)
    (sym (ap (λ (s : Played). s.rehearsal) c.loop-i.invariant.stage ∙ ap (record_of c.args.setup) all)) c.loop-i.invariant.tested
