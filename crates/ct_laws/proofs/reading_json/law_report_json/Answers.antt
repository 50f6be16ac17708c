use Rattle.ct_json.specs.Json.{report_json, report_value}
use Rattle.ct_laws.proofs.Values.Compact.{ended_read}
use Rattle.ct_laws.proofs.Values.ReportMild.{report_mild, sized}
use Rattle.ct_laws.proofs.reading_json.law_report_json.Goals as goal

pub returns : goal.returns
unfolding report_json
returns c = record { read = λ w fits allowed. ended_read (report_value w) (report_mild w (sized w fits allowed)) }
