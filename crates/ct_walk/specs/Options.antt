-- The ranges of the options of a walk.
use Rattle.std.specs.Prelude.{◌≤◌, ◌-◌, ◌/◌, ℕ}
use Rattle.ct_program.specs.declared.free_options.TheConstants.{MAX_EACH, MAX_RATE}
use Rattle.ct_program.specs.declared.free_options.TheConstants.{MAX_TURNS}
use Rattle.ct_program.specs.FreeOptions.{InRange}
use Rattle.ct_walk.specs.declared.options.WalkOptions.{WalkOptions}

-- each option is in its range
pub record IsInRange (o : WalkOptions) : Type 0 where
  pub run : InRange o.run
  pub every : o.every ≤ MAX_TURNS
  pub scatter : o.scatter ≤ MAX_RATE
  pub lasting : o.lasting ≤ MAX_RATE
  pub crashes : o.crashes ≤ (o.run.members - 1) / 2
  pub cuts : o.cuts ≤ MAX_EACH

-- the options with another seed
abbrev pub with_seed : WalkOptions → ℕ → WalkOptions
with_seed o seed = record o { run = record o.run { seed = seed } }
