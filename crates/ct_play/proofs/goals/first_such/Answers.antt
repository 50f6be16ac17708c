use Rattle.std.proofs.Common.{◌∙◌, sym, refl, arith}
use Rattle.ct_names.specs.Group.{members}
use Rattle.ct_play.specs.Goals.{is_such}
use Rattle.ct_play.proofs.Looking.{member_found, member_passed}
use Rattle.ct_play.proofs.goals.first_such.Goals as goal

pub loop-i-init : goal.loop-i-init
unfolding members
loop-i-init c = refl

pub returns-then-is_such : goal.returns-then-is_such
returns-then-is_such c =
    sym (member_found (is_such c.args.stage.now c.args.whom.now c.args.claim.now c.args.wanted) c.loop-i.i c.args.count
    (omega (arith, c.loop-i-test.true)) c.loop-i.invariant (sym c.is_such.ensures ∙ c.if-is_such.true))

pub loop-i-preserved : goal.loop-i-preserved
loop-i-preserved c =
    member_passed (is_such c.args.stage.now c.args.whom.now c.args.claim.now c.args.wanted) c.loop-i.i c.loop-i.invariant
    (sym c.is_such.ensures ∙ c.if-is_such.false)
