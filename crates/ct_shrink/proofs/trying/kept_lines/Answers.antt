use Rattle.std.proofs.Common.{sym, ◌∙◌, true, false}
use Rattle.ct_play.specs.Goals.{shows}
use Rattle.ct_shrink.proofs.Leading.{looked_for}
use Rattle.ct_shrink.proofs.Tried.{never_tried, none_tried, one_tried, shown_run, shown_tried}
use Rattle.ct_shrink.proofs.trying.kept_lines.Goals as goal

pub loop-line-init : goal.loop-line-init
loop-line-init c = record {
  goal = c.requires.goal;
  trying = none_tried (shows c.args.goal.now) c.args.setup.now c.args.lines.now c.new-kept.result.items c.args.watch.now.played
      c.requires.played c.new-kept.ensures.items;
}

pub returns-then-shows-clause-lines : goal.returns-then-shows-clause-lines
returns-then-shows-clause-lines c =
    let s = c.loop-line.watch.played in
    sym (shown_tried (shows c.args.goal.now) c.args.setup.now c.args.lines.now c.loop-line.kept.items c.loop-line.line-index s
    (looked_for c.loop-line.watch.goal c.args.goal.now s true c.if-shows.ensures c.loop-line.invariant.goal) c.loop-line.invariant.trying)

pub returns-then-shows-clause-run : goal.returns-then-shows-clause-run
returns-then-shows-clause-run c =
    let s = c.loop-line.watch.played in
    shown_run (shows c.args.goal.now) c.args.setup.now c.loop-line.kept.items s
    (looked_for c.loop-line.watch.goal c.args.goal.now s true c.if-shows.ensures c.loop-line.invariant.goal)
    c.loop-line.invariant.trying.led

pub loop-line-preserved : goal.loop-line-preserved
loop-line-preserved c =
    let s = c.loop-line.watch.played in
    record {
      goal = c.in_ok-keep.ensures.goal ∙ c.loop-line.invariant.goal;
      trying = one_tried (shows c.args.goal.now) c.args.setup.now c.args.lines.now c.loop-line.kept.items c.keep.new.kept.items
          c.loop-line.line-index c.line-item.result c.line-item.result s c.keep.new.watch.played c.loop-line-test.true (sym
          c.line-item.is)
          (looked_for c.loop-line.watch.goal c.args.goal.now s false c.if-shows.ensures c.loop-line.invariant.goal)
          c.loop-line.invariant.trying c.in_ok-keep.ensures.kept c.in_ok-keep.ensures.after;
    }

pub returns-then-shows-2-clause-lines : goal.returns-then-shows-2-clause-lines
returns-then-shows-2-clause-lines c =
    let s = c.loop-line.watch.played in
    sym (shown_tried (shows c.args.goal.now) c.args.setup.now c.args.lines.now c.loop-line.kept.items c.loop-line.line-index s
    (looked_for c.loop-line.watch.goal c.args.goal.now s true c.if-shows-2.ensures c.loop-line.invariant.goal)
    c.loop-line.invariant.trying)

pub returns-then-shows-2-clause-run : goal.returns-then-shows-2-clause-run
returns-then-shows-2-clause-run c =
    let s = c.loop-line.watch.played in
    shown_run (shows c.args.goal.now) c.args.setup.now c.loop-line.kept.items s
    (looked_for c.loop-line.watch.goal c.args.goal.now s true c.if-shows-2.ensures c.loop-line.invariant.goal)
    c.loop-line.invariant.trying.led

pub returns-else-shows-2-clause-lines : goal.returns-else-shows-2-clause-lines
returns-else-shows-2-clause-lines c =
    let s = c.loop-line.watch.played in
    sym (never_tried (shows c.args.goal.now) c.args.setup.now c.args.lines.now c.loop-line.kept.items c.loop-line.line-index s
    (looked_for c.loop-line.watch.goal c.args.goal.now s false c.if-shows-2.ensures c.loop-line.invariant.goal) c.loop-line-test.false
    c.loop-line.invariant.trying)
