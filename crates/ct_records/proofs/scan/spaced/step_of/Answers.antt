use Rattle.std.proofs.Common.{sym}
use Rattle.ct_records.proofs.Names.{short_has, numbered_has, commanded_has}
use Rattle.ct_records.proofs.Steps.{tail_short, tail_numbered, tail_commanded}
use Rattle.ct_records.proofs.scan.spaced.step_of.Goals as goal

pub returns-in-Some : goal.returns-in-Some
returns-in-Some c =
    let step = c.in_ok-short_step.field-0 in
    let s = short_has c.args.name.now c.args.p step (sym c.in_ok-short_step.ensures) in
    tail_short c.args.name.now c.args.bytes.now c.in-Some.rest.now c.args.p step c.in-Some.ensures s.0 s.1 s.2

pub returns-in-Some-command : goal.returns-in-Some-command
returns-in-Some-command c =
    let step = c.in_ok-commanded_step.field-0 in
    let s = commanded_has c.args.name.now c.args.p c.in-Some-command.command step (sym c.in_ok-commanded_step.ensures) in
    tail_commanded c.args.name.now c.args.bytes.now c.in_ok-rest.rest.now c.in-Some-command.rest.now c.in_ok-mark.field-0.now c.args.p
    c.in-Some-command.command step c.in_ok-rest.ensures c.in-Some-command.ensures c.in_ok-mark.ensures s.0 s.1 s.2

pub returns : goal.returns
returns c =
    let step = c.in_ok-numbered_step.field-0 in
    let s = numbered_has c.args.name.now c.args.p c.in_ok-n.n step (sym c.in_ok-numbered_step.ensures) in
    tail_numbered c.args.name.now c.args.bytes.now c.in_ok-rest.rest.now c.in_ok-n.rest.now c.in_ok-mark-2.field-0.now c.args.p
    c.in_ok-n.n step c.in_ok-rest.ensures c.in_ok-n.ensures.text c.in_ok-mark-2.ensures s.0 s.1 s.2
