-- What a world is made with, as the definitions take it.
use Rattle.std.specs.Prelude.{List}
use Rattle.ct_model.specs.declared.step.Step.{Step}
use Rattle.ct_model.specs.Rehearsal.{Rehearsal}
use Rattle.ct_model.specs.Setting.{Setting}
use Rattle.ct_world.specs.declared.setup.Setup.{Setup}

-- the members and the bound
abbrev pub setting_of : Setup → Setting
setting_of s = record { members = s.group; bound = s.bound }

-- the record of these steps
abbrev pub record_of : Setup → List Step → Rehearsal
record_of s steps = record { setting = setting_of s; cells = s.cells; steps = steps }
