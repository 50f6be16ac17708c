use Rattle.std.proofs.Common.{rules, ◌≡◌, ◌∙◌, ap, take}
use Rattle.std.proofs.lemmas.List.{take_min}
use Rattle.ct_model.specs.Rehearsal.{Rehearsal}
use Rattle.ct_records.specs.View.{rehearsal_of}
use Rattle.ct_world.specs.Setup.{record_of}
use Rattle.ct_diagram.specs.Window.{part_of}
use Rattle.ct_diagram.proofs.Stepping.{handed_over}
use Rattle.ct_diagram.proofs.drawing.diagram.Goals as goal

pub returns-in_err-canvas-clause-err : goal.returns-in_err-canvas-clause-err
returns-in_err-canvas-clause-err c =
    let v = rehearsal_of c.args.script.now in
    let to = c.args.window.now.to in
    let first : take c.min-end.result c.deref.result.now ≡ take to v.steps =
    rw (c.min-end.ensures, c.len.ensures, ← c.deref.ensures.len) (take_min to c.deref.result.now) ∙ ap (take to) c.deref.ensures.value in
    let part : record_of c.setup.result (take c.min-end.result c.deref.result.now) ≡ part_of c.args.window.now v =
    ap (record_of c.setup.result) first ∙ ap (λ (w : Rehearsal). record w { steps = take to w.steps }) c.setup.ensures in
    handed_over c.from_residual.result c.args.window.now c.in_err-canvas.field-0.0 v _ c.in_err-canvas.ensures.err
    c.from_residual.ensures.1 part (search rules)
