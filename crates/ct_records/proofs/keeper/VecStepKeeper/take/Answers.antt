use Rattle.std.proofs.Common.{◌++◌, ◌∷◌, ◌∙◌, [], ap}
use Rattle.ct_records.proofs.Fitting.{fit_push}
use Rattle.ct_records.proofs.keeper.VecStepKeeper.take.Goals as goal

pub returns-clause-one : goal.returns-clause-one
returns-clause-one c = λ _ ss h. record {
  are = c.in_ok-push.ensures.items ∙ ap (λ t. t ++ c.args.step ∷ []) h.are;
  fit = fit_push ss c.args.step h.fit c.requires;
}
