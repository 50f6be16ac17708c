use Rattle.std.proofs.Common.{◌≡◌, ◌++◌, length, string_bytes}
use denote.Text.{Utf8}
use denote.Shadow.{shadow}
use Rattle.ct_find.specs.Texts.{quoted}
use Rattle.ct_find.proofs.quoting.quoted.Given as goal

abbrev pub invariant-loop-before : goal.invariant-loop-before
invariant-loop-before l = shadow (Utf8 l.rest) × (string_bytes l.between ++ quoted l.rest ≡ quoted l.text)

abbrev pub decreases-loop-before : goal.decreases-loop-before
decreases-loop-before l = length l.rest
