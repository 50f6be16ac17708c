use Rattle.std.proofs.Common.{sym}
use Rattle.ct_records.proofs.Names.{command_has}
use Rattle.ct_records.proofs.Steps.{command_reads}
use Rattle.ct_records.proofs.scan.spaced.command.Goals as goal

pub returns : goal.returns
returns c =
    let s = command_has c.in_ok-name.name.now c.in_ok-name.register c.in_ok-n.n c.in_ok-command.command (sym c.in_ok-command.ensures) in
    command_reads c.args.bytes.now c.in_ok-name.rest.now c.in_ok-mark.field-0.now c.in_ok-n.rest.now c.in_ok-mark-2.field-0.now
    c.in_ok-name.name.now c.in_ok-name.register c.in_ok-n.n c.in_ok-command.command c.in_ok-name.ensures c.in_ok-mark.ensures
    c.in_ok-n.ensures.text c.in_ok-mark-2.ensures s.0 s.1 s.2
