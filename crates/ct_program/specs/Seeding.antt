-- The failure detectors of a free run.
use Rattle.std.specs.Prelude.{ℕ, zero, suc, ◌+◌, List, [], ◌∷◌, ◌++◌, None}
use Rattle.ct_detect.specs.Seeded.{SeededState, words_of_seed}
use Rattle.ct_program.specs.declared.free_options.FreeOptions.{FreeOptions}

-- member m's, which starts from the seed plus m, has the rate, and was not asked yet
abbrev pub detector_of : FreeOptions → ℕ → SeededState
detector_of o m = record { words = words_of_seed (o.seed + m); rate = o.rate; last = None }

-- those of the first members, in order
abbrev pub first_detectors : FreeOptions → ℕ → List SeededState
first_detectors o zero = []
first_detectors o (suc k) = first_detectors o k ++ detector_of o (suc k) ∷ []
