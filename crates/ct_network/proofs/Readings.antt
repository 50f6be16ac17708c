-- What was sent, by serial.
use Rattle.std.proofs.Common.{◌≡◌, ℕ, suc, List, Option, ap, sym, ◌∙◌}
use Rattle.std.specs.Prelude.{slice_get}
use Rattle.ct_model.specs.State.{at_serial}
use Rattle.ct_model.specs.declared.envelope.Envelope.{Envelope}

pub envelope_at : {V : Type 0} (es : List (Envelope V)) (serial i : ℕ) (r : Option (Envelope V)) → serial ≡ suc i → r ≡ slice_get es i →
    r ≡ at_serial es serial
envelope_at es serial i r is e = e ∙ ap (at_serial es) (sym is)
