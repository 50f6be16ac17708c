use Rattle.ct_model.specs.Senders.{senders}
use Rattle.ct_json.specs.JsonState.{state_json, state_values}
use Rattle.ct_views.specs.Answer.{part_of}
use Rattle.ct_views.specs.declared.form.Form.TheVariants.{Json}
use Rattle.ct_views.specs.declared.view.View.TheVariants.{State}
use Rattle.ct_laws.proofs.Values.Feedless.{lines_read}
use Rattle.ct_laws.proofs.Values.ReportMild.{fitting_first, sized}
use Rattle.ct_laws.proofs.Values.StateMild.{state_mild}
use Rattle.ct_laws.proofs.reading_json.law_state_json.Goals as goal

pub returns : goal.returns
unfolding state_json
returns c = record {
  read = λ count w fits allowed.
      let part = part_of (State count Json) w in
      lines_read (state_values part (senders part.setting part.steps)) (state_mild part (sized part (fitting_first w count fits) allowed));
}
