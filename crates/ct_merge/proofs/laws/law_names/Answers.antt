use Rattle.ct_merge.proofs.Begun.{one_name}
use Rattle.ct_merge.proofs.laws.law_names.Goals as goal

pub returns : goal.returns
returns c = one_name
