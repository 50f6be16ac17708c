use Rattle.std.proofs.Common.{◌∙◌, ap}
use Rattle.ct_walk.specs.Turns.{drawing_of, entry_tried, walk_in}
use Rattle.ct_walk.specs.Walking.{entered}
use Rattle.ct_walk.proofs.Turning.{drawn_so, drawn_turns, due_tries, due_turns, struck_tries, struck_turns}
use Rattle.ct_walk.proofs.draws.Draws.turn.Goals as goal

pub returns-then-strikes-clause-value : goal.returns-then-strikes-clause-value
returns-then-strikes-clause-value c =
    let r = c.args.stage.now.rehearsal in
    struck_tries c.args.options.now c.args.number r c.args.self.now c.change_cut.new.self c.strikes.new.self c.strikes.result
    (c.change_cut.ensures r) (c.strikes.ensures.value r) (c.strikes.ensures.after r) c.enter.result c.if-strikes.true
    (c.enter.ensures.value ∙ ap (λ w. entry_tried (walk_in w c.strikes.new.self) 4) c.world.ensures)

pub returns-then-strikes-clause-after : goal.returns-then-strikes-clause-after
returns-then-strikes-clause-after c =
    let r = c.args.stage.now.rehearsal in
    struck_turns c.args.options.now c.args.number r c.args.self.now c.change_cut.new.self c.strikes.new.self c.strikes.result
    (c.change_cut.ensures r) (c.strikes.ensures.value r) (c.strikes.ensures.after r) c.enter.new.self c.if-strikes.true
    (c.enter.ensures.after ∙ ap (λ w. drawing_of (entered (walk_in w c.strikes.new.self) 4)) c.world.ensures)

pub returns-then-is_due-clause-value : goal.returns-then-is_due-clause-value
returns-then-is_due-clause-value c =
    let r = c.args.stage.now.rehearsal in
    due_tries c.args.options.now c.args.number r c.args.self.now c.change_cut.new.self c.strikes.new.self c.strikes.result
    (c.change_cut.ensures r) (c.strikes.ensures.value r) (c.strikes.ensures.after r) c.is_due.result c.if-strikes.false c.is_due.ensures
    c.enter-then-is_due.result c.if-is_due.true
    (c.enter-then-is_due.ensures.value ∙ ap (λ w. entry_tried (walk_in w c.strikes.new.self) 0) c.world-then-is_due.ensures)

pub returns-then-is_due-clause-after : goal.returns-then-is_due-clause-after
returns-then-is_due-clause-after c =
    let r = c.args.stage.now.rehearsal in
    due_turns c.args.options.now c.args.number r c.args.self.now c.change_cut.new.self c.strikes.new.self c.strikes.result
    (c.change_cut.ensures r) (c.strikes.ensures.value r) (c.strikes.ensures.after r) c.is_due.result c.if-strikes.false c.is_due.ensures
    c.enter-then-is_due.new.self c.if-is_due.true
    (c.enter-then-is_due.ensures.after ∙ ap (λ w. drawing_of (entered (walk_in w c.strikes.new.self) 0)) c.world-then-is_due.ensures)

pub returns-clause-value : goal.returns-clause-value
returns-clause-value c =
    let r = c.args.stage.now.rehearsal in
    drawn_so c.args.options.now c.args.number r c.args.self.now c.change_cut.new.self c.strikes.new.self c.strikes.result
    (c.change_cut.ensures r) (c.strikes.ensures.value r) (c.strikes.ensures.after r) c.is_due.result c.if-strikes.false c.is_due.ensures
    c.draw.result c.if-is_due.false c.draw.ensures.value

pub returns-clause-after : goal.returns-clause-after
returns-clause-after c =
    let r = c.args.stage.now.rehearsal in
    drawn_turns c.args.options.now c.args.number r c.args.self.now c.change_cut.new.self c.strikes.new.self c.strikes.result
    (c.change_cut.ensures r) (c.strikes.ensures.value r) (c.strikes.ensures.after r) c.is_due.result c.if-strikes.false c.is_due.ensures
    c.draw.new.self c.if-is_due.false c.draw.ensures.after
