-- What logs come to.
use Rattle.std.specs.Prelude.{if◌then◌else◌, ⊤}
use Rattle.ct_model.specs.Rehearsal.{Rehearsal}
use Rattle.ct_merge.specs.Waits.{is_ended, is_limit}
use Rattle.ct_merge.specs.declared.verdict.Culprit.{Culprit}
use Rattle.ct_merge.specs.declared.verdict.Verdict.{Verdict}
use Rattle.ct_merge.specs.declared.verdict.Verdict.TheVariants.{Accepted, Refused, Incomplete, Limited}

-- of the record, where the logs were merged into one
abbrev pub IfAccepted : Verdict → (Rehearsal → Type 0) → Type 0
IfAccepted (Accepted world) fact = fact world.rehearsal
IfAccepted _ fact = ⊤

-- of the line at which a log stands, where they were not
abbrev pub IfStopped : Verdict → (Culprit → Type 0) → Type 0
IfStopped (Accepted world) fact = ⊤
IfStopped (Refused culprit) fact = fact culprit
IfStopped (Incomplete culprit) fact = fact culprit
IfStopped (Limited culprit) fact = fact culprit

-- of that line, where they are refused
abbrev pub IfRefused : Verdict → (Culprit → Type 0) → Type 0
IfRefused (Refused culprit) fact = fact culprit
IfRefused _ fact = ⊤

-- which verdict it is where logs stand at this line: its reason says it
abbrev pub verdict_at : Culprit → Verdict
verdict_at culprit =
    if is_ended culprit.why then Incomplete culprit else if is_limit culprit.why then Limited culprit else Refused culprit
