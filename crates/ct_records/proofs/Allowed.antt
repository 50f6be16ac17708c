-- One more step that was done.
use Rattle.ct_records.proofs.Common.{◌≡◌, None, Step, Rehearsal, extended, StepFits, IsBegun}
use Rattle.ct_model.specs.Cause.{cause}
use Rattle.ct_model.proofs.Record.Allows.{allowed-more}
use Rattle.ct_records.proofs.Fitting.{fit_push}

pub begun_more : (w new : Rehearsal) (s : Step) → IsBegun w → StepFits s → cause w s ≡ None → new ≡ extended w s → IsBegun new
begun_more w new s h fits allowed joined =
    rw joined (record { fit = fit_push w.steps s h.fit fits; allowed = allowed-more w s h.allowed allowed })
