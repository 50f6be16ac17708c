use Rattle.std.proofs.Common.{◌∙◌, ap}
use Rattle.ct_play.specs.Played.{Played}
use Rattle.ct_walk.specs.Turns.{drawing_of, tried_in, walk_in}
use Rattle.ct_walk.specs.Walking.{turned}
use Rattle.ct_walk.proofs.Turning.{turn_ok, with_goal}
use Rattle.ct_walk.proofs.walker.Walker.turn.Goals as goal

pub returns-clause-ok : goal.returns-clause-ok
returns-clause-ok c =
    let o = c.args.options.now in
    let i = c.self.inside in
    turn_ok c.attempt.result o c.args.number (with_goal i.watch.goal (walk_in i.watch.played.rehearsal i.draws)) c.args.self.now
    c.attempt.new.self c.turn-step.new.self c.turn-step.result c.self.view_is
    (c.turn-step.ensures.value ∙ ap (λ (s : Played). tried_in o c.args.number (walk_in s.rehearsal i.draws)) c.stage.ensures)
    (c.turn-step.ensures.after ∙ ap (λ (s : Played). drawing_of (turned o c.args.number (walk_in s.rehearsal i.draws))) c.stage.ensures)
    c.attempt.ensures.ok
