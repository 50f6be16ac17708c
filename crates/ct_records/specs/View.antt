-- A script without where it lies in memory.
use Rattle.ct_model.specs.Rehearsal.{Rehearsal}
use Rattle.ct_records.specs.declared.script.Script.{Script}

abbrev pub rehearsal_of : Script → Rehearsal
rehearsal_of s = record { setting = record { members = s.group; bound = s.batch }; cells = s.cells; steps = s.steps.items }
