use Rattle.std.proofs.Common.{◌≡◌, ◌∙◌, ◌&&◌, not, true, false, ap, sym, subst}
use Rattle.std.proofs.lemmas.Bool.{and_parts}
use Rattle.ct_names.specs.Group.{is_member}
use Rattle.ct_model.specs.Actor.{actor}
use Rattle.ct_merge.specs.Expected.{expected_of}
use Rattle.ct_merge.specs.Logs.{is_repeat}
use Rattle.ct_merge.specs.Testing.{Walked}
use Rattle.ct_merge.proofs.Walking.{failed_before, nobody, passed_other, passed_own}
use Rattle.ct_merge.proofs.testing.Walk.pass.Goals as goal

pub returns-then-is_of_member-clause-tested : goal.returns-then-is_of_member-clause-tested
returns-then-is_of_member-clause-tested c =
    let old = c.args.self.now in
    let step = c.args.step in
    let own =
    and_parts (not (is_repeat step)) (is_member old.stage.rehearsal.setting.members (actor step))
    (subst (λ (x : Walked). (not (is_repeat step) && is_member x.stage.rehearsal.setting.members (actor step)) ≡ true) c.self.view_is
    (sym c.is_of_member.ensures.value ∙ c.if-is_of_member.true)) in
    let list : c.list_of.result.now ≡ expected_of c.args.expected.now (actor step) =
    c.list_of.ensures.list ∙ ap (expected_of c.args.expected.now) c.member.ensures in
    λ ok. passed_own old c.pass_own.new.self step c.args.expected.now c.list_of.result.now list c.requires (c.pass_own.ensures.stage ok)
    own.0 (c.pass_own.ensures.taken ok) (c.pass_own.ensures.others ok) (c.pass_own.ensures.same ok) (c.pass_own.ensures.met ok)
    (c.pass_own.ensures.ahead ok)

pub returns-then-is_of_member-clause-fails : goal.returns-then-is_of_member-clause-fails
returns-then-is_of_member-clause-fails c =
    let old = c.args.self.now in
    let step = c.args.step in
    let own =
    and_parts (not (is_repeat step)) (is_member old.stage.rehearsal.setting.members (actor step))
    (subst (λ (x : Walked). (not (is_repeat step) && is_member x.stage.rehearsal.setting.members (actor step)) ≡ true) c.self.view_is
    (sym c.is_of_member.ensures.value ∙ c.if-is_of_member.true)) in
    let list : c.list_of.result.now ≡ expected_of c.args.expected.now (actor step) =
    c.list_of.ensures.list ∙ ap (expected_of c.args.expected.now) c.member.ensures in
    λ ok. failed_before old c.pass_own.new.self step c.args.expected.now c.list_of.result.now list (c.pass_own.ensures.here ok)
    own.0 own.1 (c.pass_own.ensures.fails ok)

pub returns-in_ok-take-clause-tested : goal.returns-in_ok-take-clause-tested
returns-in_ok-take-clause-tested c =
    let old = c.args.self.now in
    let step = c.args.step in
    λ ok. passed_other old c.take.new.self step c.args.expected.now c.in_ok-take.ensures.ok
    (nobody old.stage.rehearsal step old.stage.rehearsal.setting.members
    (subst (λ (x : Walked). (not (is_repeat step) && is_member x.stage.rehearsal.setting.members (actor step)) ≡ false) c.self.view_is
    (sym c.is_of_member.ensures.value ∙ c.if-is_of_member.false)))
