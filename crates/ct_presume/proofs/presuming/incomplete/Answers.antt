use Rattle.ct_presume.proofs.GoingOn.{none_needed}
use Rattle.ct_presume.proofs.presuming.incomplete.Goals as goal

pub returns-in-Some-clause-needed : goal.returns-in-Some-clause-needed
returns-in-Some-clause-needed c = none_needed _ _ _ c.requires.none
