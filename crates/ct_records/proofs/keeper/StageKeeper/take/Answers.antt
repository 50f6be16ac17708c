use Rattle.ct_records.proofs.Common.{◌++◌, ◌∷◌, ◌∙◌, [], ap, Rehearsal}
use Rattle.ct_records.proofs.Allowed.{begun_more}
use Rattle.ct_records.proofs.keeper.StageKeeper.take.Goals as goal

pub returns-clause-one : goal.returns-clause-one
returns-clause-one c = λ _ ss h.
    let joined = c.in-Ok.ensures.ok.joined in
    record {
      are = ap (λ (w : Rehearsal). w.steps) joined ∙ ap (λ t. t ++ c.args.step ∷ []) h.are;
      begun = begun_more c.args.self.now.rehearsal c.step.new.self.rehearsal c.args.step h.begun c.requires c.in-Ok.ensures.allowed joined;
    }
