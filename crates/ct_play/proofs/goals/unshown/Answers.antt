use Rattle.std.proofs.Common.{◌∙◌, ◌≡◌, ap, sym, not, true, false, Bool, refl, ℕ, [], ◌∷◌}
use Rattle.std.specs.Prelude.{find}
use Rattle.std.specs.Bool.{then_some}
use Rattle.ct_grammar.specs.declared.term.Whom.{Whom}
use Rattle.ct_model.specs.Rehearsal.{Rehearsal}
use Rattle.ct_play.specs.Goals.{unshown}
use Rattle.ct_play.specs.Claims.{is_true_of}
use Rattle.ct_play.proofs.Looking.{unshown_of_group, unshown_of_set}
use Rattle.ct_play.proofs.goals.unshown.Goals as goal

alone : (test : ℕ → Bool) (p : ℕ) (met : Bool) → test p ≡ met → then_some met p ≡ find test (p ∷ [])
alone test p true e = rw e refl
alone test p false e = rw e refl

pub returns-in-One : goal.returns-in-One
unfolding unshown
returns-in-One c =
    c.then_some.ensures
    ∙ (alone (λ p. not (is_true_of c.args.stage.now p c.args.claim.now)) c.in-One.member (not c.is_true_of.result)
    (ap not (sym c.is_true_of.ensures))
    ∙ ap (λ (w : Whom). unshown c.args.stage.now w c.args.claim.now) (sym c.in-One.is))

pub returns-in-Some : goal.returns-in-Some
returns-in-Some c =
    c.first_such.ensures
    ∙ unshown_of_set c.args.stage.now c.args.whom.now c.in-Some.set c.args.claim.now c.in-Some.is c.len.ensures.members

pub returns-in_default : goal.returns-in_default
returns-in_default c =
    c.first_such-in_default.ensures
    ∙ unshown_of_group c.args.stage.now c.args.whom.now c.args.claim.now c.n.result
    (c.n.ensures.value ∙ (c.group.ensures ∙ ap (λ (w : Rehearsal). w.setting.members) c.world.ensures))
    c.in_default.not-One c.in_default.not-Some
