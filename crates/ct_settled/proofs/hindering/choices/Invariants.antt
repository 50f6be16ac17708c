use Rattle.std.proofs.Common.{◌≡◌, None}
use Rattle.ct_names.specs.Group.{members}
use Rattle.ct_model.specs.declared.step.Step.TheVariants.{Choose}
use Rattle.ct_settled.specs.Hindrance.{first_of, told}
use Rattle.ct_settled.proofs.hindering.choices.Given as goal

abbrev pub invariant-loop-i : goal.invariant-loop-i
invariant-loop-i l = first_of (λ q. told l.world.rehearsal (Choose l.member q)) (members l.i) ≡ None
