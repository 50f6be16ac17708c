-- What is told of the smallest run, and why there is none.
use Rattle.std.specs.Prelude.{ℕ, List, [], ◌∷◌, codes, decimal, length, if◌then◌else◌}
use Rattle.std.specs.List.{concat}
use Rattle.ct_streams.specs.declared.status.Status.TheVariants as status
use Rattle.ct_streams.specs.Statuses.{code}
use Rattle.ct_shrink.specs.Faults as shrink
use Rattle.ct_shrink.specs.Summaries.{summary_text}
use Rattle.ct_walk.specs.Faults as walk
use Rattle.ct_find.specs.Texts.{none_text}
use Rattle.ct_best.specs.declared.best.Best.{Best}
use Rattle.ct_best.specs.declared.smaller_walk.SmallerWalk.{SmallerWalk}
use Rattle.ct_best.specs.declared.fault.BestFault.{BestFault}
use Rattle.ct_best.specs.declared.fault.BestFault.TheVariants.{Walk, Shrink, NotFound}

-- a walk that was made smaller
abbrev pub steps_text : SmallerWalk → List ℕ → List ℕ
steps_text walk behind = concat (codes "seed " ∷ decimal walk.seed ∷ codes ": " ∷ decimal walk.summary.left ∷ behind ∷ [])

abbrev pub walk_text : SmallerWalk → List ℕ
walk_text walk = if walk.summary.is_stopped then steps_text walk (codes " steps, stopped") else steps_text walk (codes " steps")

-- the smallest run
abbrev pub best_text : Best → List ℕ
best_text best =
    concat (codes "seed " ∷ decimal best.smallest.seed ∷ codes ", best of " ∷ decimal (length best.walks.items) ∷ codes ": "
    ∷ summary_text best.smallest.summary ∷ [])

-- the line for standard error
abbrev pub fault_text : BestFault → List ℕ
fault_text (Walk fault) = walk.fault_text fault
fault_text (Shrink fault) = shrink.fault_text fault
fault_text (NotFound none) = none_text none

abbrev pub status_of : BestFault → ℕ
status_of (Walk fault) = walk.status_of fault
status_of (Shrink fault) = shrink.status_of fault
status_of (NotFound none) = code status.Refused
