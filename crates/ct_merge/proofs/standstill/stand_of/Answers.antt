use Rattle.std.proofs.Common.{◌≡◌, ◌<◌, ◌∙◌, ℕ, List, Some, get_or, length, refl, slice_get, subst, sym}
use Rattle.std.proofs.lemmas.Option.{slice_get_read}
use Rattle.std.specs.Global.{Vec}
use Rattle.ct_merge.specs.Logs.{log_of}
use Rattle.ct_merge.specs.Merging.{Taken, count_of}
use Rattle.ct_merge.specs.Stops.{IsNext}
use Rattle.ct_merge.specs.declared.log_line.LogLine.{LogLine}
use Rattle.ct_merge.proofs.Standing.{waits_some, waits_unsent}
use Rattle.ct_merge.proofs.standstill.stand_of.Goals as goal

next_is : (logs : List (Vec LogLine)) (t : Taken) (p : ℕ) (log : List LogLine) (n : ℕ) (line : LogLine) → log ≡ log_of logs p →
    n ≡ count_of t.counts p → n < length log → line ≡ get_or log n line → IsNext logs t p line
next_is logs t p log n line is at low there =
    subst (λ l. slice_get l (count_of t.counts p) ≡ Some line) is
    (subst (λ n. slice_get log n ≡ Some line) at (slice_get_read log (length log) n line refl low there))

pub awaited-requires-clause-unsent : goal.awaited-requires-clause-unsent
awaited-requires-clause-unsent c =
    let line = c.in-Some.line.now in
    waits_unsent c.args.logs.now c.args.progress.now c.args.member line c.in-Some-received.name c.requires.waits
    (next_is c.args.logs.now c.args.progress.now c.args.member c.log_of.result.now c.count.result line c.log_of.ensures c.count.ensures
    c.in-Some.ensures.lookup.3.0 c.in-Some.ensures.lookup.1) (sym c.received.ensures ∙ c.in-Some-received.is)

pub unreachable-requires-in-None : goal.unreachable-requires-in-None
unreachable-requires-in-None c =
    let line = c.in-Some.line.now in
    waits_some c.args.logs.now c.args.progress.now c.args.member line c.requires.waits
    (next_is c.args.logs.now c.args.progress.now c.args.member c.log_of.result.now c.count.result line c.log_of.ensures c.count.ensures
    c.in-Some.ensures.lookup.3.0 c.in-Some.ensures.lookup.1) (sym c.received.ensures ∙ c.in-None.is)
