-- A line without blanks at its ends.
use Rattle.std.proofs.Common.{◌≡◌, ℕ, List, ap, ◌∙◌}
use Rattle.std.specs.Str.{IsTrimAsciiEnd, IsTrimAsciiStart}
use Rattle.std.proofs.lemmas.Str.Ascii.{trim_ascii_end_is, trim_ascii_start_is}
use Rattle.ct_judging.specs.Reading.{trimmed, trimmed_end}

pub trims : (line start rest : List ℕ) → IsTrimAsciiStart line start → IsTrimAsciiEnd start rest → rest ≡ trimmed line
unfolding trimmed
trims line start rest first then = trim_ascii_end_is start rest then ∙ ap trimmed_end (trim_ascii_start_is line start first)
