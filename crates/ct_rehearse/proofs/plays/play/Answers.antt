use Rattle.std.proofs.lemmas.List.{take_more}
use Rattle.ct_names.specs.declared.command.Command.TheVariants.{Set}
use Rattle.ct_model.specs.declared.step.Step.TheVariants.{Submit}
use Rattle.ct_rehearse.proofs.PlayLemmas.{played-none, played-turn}
use Rattle.ct_rehearse.proofs.plays.play.Goals as goal

pub loop-step-init : goal.loop-step-init
loop-step-init g c = rw c.none-played.ensures (played-none _ _)

pub loop-step-preserved : goal.loop-step-preserved
loop-step-preserved g c =
    let more = played-turn _ _ _ _ _ _ _ _ _ _ c.attempt-turn.ensures.made c.loop-step.invariant in
    rw (
      take_more c.args.steps.now c.loop-step.step-index (Submit 0 (Set 0 0)) c.loop-step-test.true,
      c.attempt-turn.ensures.world,
      c.attempt-turn.ensures.share,
      c.count.ensures,
    ) more
