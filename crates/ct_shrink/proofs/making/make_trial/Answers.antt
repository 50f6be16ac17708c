use Rattle.std.proofs.Common.{◌≡◌, ◌<◌, ◌≤◌, Some, length, ap, sym, ◌∙◌, rules}
use Rattle.std.specs.Prelude.{option_map}
use Rattle.ct_play.specs.Goals.{shows}
use Rattle.ct_shrink.specs.Runs.{IsRunOf}
use Rattle.ct_shrink.specs.Shrinking.{Agrees, lines_of}
use Rattle.ct_shrink.specs.Trials.{trial}
use Rattle.ct_shrink.specs.declared.kept_run.KeptRun.{KeptRun}
use Rattle.ct_shrink.proofs.Named.{trial_content}
use Rattle.ct_shrink.proofs.Telling.{left, stays}
use Rattle.ct_shrink.proofs.making.make_trial.Goals as goal
use Rattle.ct_shrink.proofs.making.make_trial.Goals.{then-tell, else-tell}

pub tell-requires-2-clause-named : goal.tell-requires-2-clause-named
tell-requires-2-clause-named c =
    trial_content (shows c.args.goal.now) c.args.setup.now c.candidate.result.now c.in-Some.run'.lines.items c.candidate.ensures.named
    (ap (option_map (λ (run : KeptRun). run.lines.items)) (sym c.in-Some.is) ∙ c.in_ok-run.ensures.lines)

pub returns-clause-tried : goal.returns-clause-tried
returns-clause-tried c =
    let s = c.args.trials.now in
    let t = c.tell-2.new.self in
    let kept = c.in-Some.run'.lines.items in
    let same : Some kept ≡ trial (shows c.args.goal.now) c.args.setup.now (lines_of s.asked) =
    ap (option_map (λ (run : KeptRun). run.lines.items)) (sym c.in-Some.is) ∙ c.in_ok-run.ensures.lines
    ∙ ap (trial (shows c.args.goal.now) c.args.setup.now) c.candidate.ensures.value in
    let agrees : Agrees (trial (shows c.args.goal.now) c.args.setup.now) t =
    c.tell-2.ensures.agrees (trial (shows c.args.goal.now) c.args.setup.now) c.requires.tried.agrees same in
    elim c.if-tell.branch [
      | then-tell w ↦
          let fewer : length t.lines < length s.lines = search rules in
          let run : IsRunOf (shows c.args.goal.now) c.args.setup.now kept c.in-Some.run'.world.rehearsal =
          rw c.in-Some.is at c.in_ok-run.ensures.run in
          rw w.world-is
          (left (shows c.args.goal.now) c.args.setup.now s t w.replace.new.dest.rehearsal kept c.tell-2.ensures.lines agrees fewer
          (search rules))
      | else-tell w ↦
          let long : length s.lines ≤ length t.lines = search rules in
          rw w.world-is
          (stays (shows c.args.goal.now) c.args.setup.now s t c.args.world.now.rehearsal kept c.tell-2.ensures.lines agrees long
          c.requires.tried.run)
    ]
