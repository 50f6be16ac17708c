use Rattle.ct_records.proofs.Written.{round_trip}
use Rattle.ct_records.proofs.law.law_round_trip.Goals as goal

pub returns : goal.returns
returns c = round_trip
