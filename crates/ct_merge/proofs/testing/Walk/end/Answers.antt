use Rattle.std.proofs.Common.{rules, ◌≡◌, ◌≢◌, ◌+◌, ◌<◌, ◌∙◌, Ok, true, false, ap, subst, arith}
use Rattle.ct_names.specs.Group.{is_member}
use Rattle.ct_play.specs.Played.{Played}
use Rattle.ct_merge.specs.Expected.{AllHold, expected_of}
use Rattle.ct_merge.specs.Merging.{count_of}
use Rattle.ct_merge.specs.Testing.{AreFrom, AreMet, IsFailing}
use Rattle.ct_merge.proofs.Walking.{all_hold, failed_there, is_unmet, members_more, next_member, stays_there}
use Rattle.ct_merge.proofs.testing.Walk.end.Goals as goal

pub returns-then-not-branch-clause-some : goal.returns-then-not-branch-clause-some
returns-then-not-branch-clause-some c =
    let w = c.args.self.stage.rehearsal in
    let old = c.loop-i.walk in
    let new = c.test.new.self in
    let p = c.loop-i.i + 1 in
    let list = expected_of c.args.expected.now p in
    let low : c.loop-i.i < w.setting.members = search rules in
    let in_group : is_member w.setting.members p ≡ true = next_member c.loop-i.i w.setting.members low in
    let ok : c.test.result ≡ Ok false = search rules in
    let fails : IsFailing list (count_of new.tested p) (count_of old.taken p) old.stage =
    subst (λ l. IsFailing l (count_of new.tested p) (count_of old.taken p) old.stage) c.list_of.ensures.list (c.test.ensures.fails ok) in
    is_unmet w c.args.expected.now new p c.unmet.result in_group
    (ap (λ (s : Played). s.sides) (c.test.ensures.stage ∙ c.loop-i.invariant.stage) ∙ c.requires.whole)
    (failed_there w old new p list (c.loop-i.invariant.left p (omega arith) in_group)
    (ap (λ (s : Played). s.rehearsal) c.loop-i.invariant.stage) c.test.ensures.stage fails) c.unmet.ensures.member c.unmet.ensures.index
    c.unmet.ensures.stage

pub loop-i-preserved : goal.loop-i-preserved
loop-i-preserved c =
    let w = c.args.self.stage.rehearsal in
    let old = c.loop-i.walk in
    let new = c.test.new.self in
    let i = c.loop-i.i in
    let p = i + 1 in
    let list = expected_of c.args.expected.now p in
    let low : i < w.setting.members = search rules in
    let in_group : is_member w.setting.members p ≡ true = next_member i w.setting.members low in
    let ok : c.test.result ≡ Ok true = search rules in
    let met : AreMet list (count_of old.tested p) (count_of new.tested p) (count_of old.taken p) old.stage =
    subst (λ l. AreMet l (count_of old.tested p) (count_of new.tested p) (count_of old.taken p) old.stage) c.list_of.ensures.list
    (c.test.ensures.met ok) in
    let ahead : (AreFrom list (count_of old.tested p) (count_of old.taken p) →
    AreFrom list (count_of new.tested p) (count_of old.taken p + 1)) =
    subst (λ l. AreFrom l (count_of old.tested p) (count_of old.taken p) → AreFrom l (count_of new.tested p) (count_of old.taken p + 1))
    c.list_of.ensures.list (c.test.ensures.ahead ok) in
    let last : AllHold w p list =
    all_hold w old new p list (c.loop-i.invariant.left p (omega arith) in_group)
    (ap (λ (s : Played). s.rehearsal) c.loop-i.invariant.stage)
    (ap (λ (s : Played). s.sides) c.loop-i.invariant.stage ∙ c.requires.whole) met ahead in
    record {
      stage = c.test.ensures.stage ∙ c.loop-i.invariant.stage;
      done = members_more (λ q. AllHold w q (expected_of c.args.expected.now q)) i c.loop-i.invariant.done last;
      left = λ q more it.
          let ne : q ≢ p = λ same. absurd (omega (arith, more, same)) in
          stays_there w old new q (expected_of c.args.expected.now q) c.test.ensures.stage c.test.ensures.taken
          (c.test.ensures.others ok q (omega (arith, more)) ne) (c.loop-i.invariant.left q (omega (arith, more)) it);
    }
