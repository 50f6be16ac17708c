use Rattle.std.proofs.Common.{ap, ◌∙◌}
use Rattle.std.proofs.lemmas.Str.Ascii.{trim_ascii_end_is, trim_ascii_start_is}
use Rattle.ct_order.specs.Lines.{trimmed_end}
use Rattle.ct_order.proofs.plain.trimmed.Goals as goal

pub returns : goal.returns
returns c =
    trim_ascii_end_is c.trim_ascii_start.result.now c.trim_ascii_end.result.now c.trim_ascii_end.ensures.value
    ∙ ap trimmed_end (trim_ascii_start_is c.args.line.now c.trim_ascii_start.result.now c.trim_ascii_start.ensures.value)
