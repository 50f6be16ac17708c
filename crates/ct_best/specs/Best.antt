-- The smallest of the runs that are left of several walks.
use Rattle.std.specs.Prelude.{◌≡◌, ◌≤◌, ℕ, ◌&&◌, ◌||◌, ◌==◌, Bool, nat_lt, List, [], All, Contains}
use Rattle.std.specs.Prelude.{Option, Some, None, if◌then◌else◌}
use Rattle.std.specs.Io.KnownBytes.{Appends}
use Rattle.std.specs.List.{AllZip}
use Rattle.ct_grammar.specs.declared.goal.Goal.{Goal}
use Rattle.ct_play.specs.Goals.{shows}
use Rattle.ct_shrink.specs.declared.options.ShrinkOptions.{ShrinkOptions}
use Rattle.ct_shrink.specs.Writing.{IsFaultOn, IsSmallerText}
use Rattle.ct_streams.specs.Streams.{WritesPart}
use Rattle.ct_walk.specs.declared.options.WalkOptions.{WalkOptions}
use Rattle.ct_walk.specs.Faults.{IsShort}
use Rattle.ct_walk.specs.Options.{with_seed}
use Rattle.ct_walk.specs.Walking.{walked}
use Rattle.ct_best.specs.declared.best.BestOptions.{BestOptions}
use Rattle.ct_find.specs.declared.call.FindCall.{FindCall}
use Rattle.ct_best.specs.declared.fault.BestFault.{BestFault}
use Rattle.ct_best.specs.declared.fault.BestFault.TheVariants.{Walk, Shrink, NotFound}
use Rattle.ct_find.specs.declared.hit.Hit.{Hit}
use Rattle.ct_best.specs.declared.shrinking.Left.{Left}
use Rattle.ct_best.specs.declared.smaller_walk.SmallerWalk.{SmallerWalk}
use Rattle.ct_find.specs.declared.fault.FindFault.TheVariants as find
use Rattle.ct_find.specs.Writing.{first_hits, FindsNothing, IsOfRun}

-- ---- what is left of them

-- a run that is left of a walk: what is told of it, and its text
pub record LeftRun : Type 0 where
  pub walk : SmallerWalk
  pub text : List ℕ

-- without where it lies in memory
abbrev pub run_of : Left → LeftRun
run_of left = record { walk = left.walk; text = left.text.items }

-- it is a smaller run of the walk of the seed that is told
abbrev pub IsRunLeft : WalkOptions → Goal → ShrinkOptions → LeftRun → Type 0
IsRunLeft o goal shrink run =
    IsSmallerText (shows goal) goal shrink (walked (with_seed o run.walk.seed) (Some goal)) run.walk.summary run.text

-- and that is this one
pub record IsLeftOf (o : WalkOptions) (goal : Goal) (shrink : ShrinkOptions) (hit : Hit) (run : LeftRun) : Type 0 where
  pub seed : run.walk.seed ≡ hit.seed
  pub smaller : IsRunLeft o goal shrink run

-- this is told of such a run
abbrev pub IsToldOf : WalkOptions → Goal → ShrinkOptions → Hit → SmallerWalk → Type 0
IsToldOf o goal shrink hit walk = (text : List ℕ) × IsLeftOf o goal shrink hit (record { walk = walk; text = text })

-- these are told of the walks of the first seeds that show the goal, one of each
abbrev pub AreTold : FindCall → BestOptions → List SmallerWalk → Type 0
AreTold call best walks = AllZip (IsToldOf call.options call.goal best.shrink) (first_hits call best.count) walks

-- ---- the smallest of them

-- it has fewer steps than the other one; or as many, and its seed is less
abbrev pub is_less : SmallerWalk → SmallerWalk → Bool
is_less walk other =
    nat_lt walk.summary.left other.summary.left || ((walk.summary.left == other.summary.left) && nat_lt walk.seed other.seed)

-- the smaller one of the two, where there are two
abbrev pub smaller_of : Option LeftRun → LeftRun → LeftRun
smaller_of None run = run
smaller_of (Some best) run = if is_less run.walk best.walk then run else best

-- it is one of these, none of which has fewer steps; of those that have as many, none is of a lesser seed
pub record IsSmallest (walks : List SmallerWalk) (best : SmallerWalk) : Type 0 where
  pub one : Contains walks best
  pub fewest : All (λ (walk : SmallerWalk). best.summary.left ≤ walk.summary.left) walks
  pub first : All (λ (walk : SmallerWalk). walk.summary.left ≡ best.summary.left → best.seed ≤ walk.seed) walks

-- the run is left of the smallest of these walks; of no walks there is none
abbrev pub IsBest : WalkOptions → Goal → ShrinkOptions → List SmallerWalk → Option LeftRun → Type 0
IsBest o goal shrink walks None = walks ≡ []
IsBest o goal shrink walks (Some run) = IsSmallest walks run.walk × IsRunLeft o goal shrink run

-- ---- what is written

-- the text is a smaller run of this walk
abbrev pub IsTextOf : FindCall → BestOptions → SmallerWalk → List ℕ → Type 0
IsTextOf call best walk text = IsRunLeft call.options call.goal best.shrink (record { walk = walk; text = text })

-- such a text, nothing else, was written
abbrev pub WritesRun : FindCall → BestOptions → SmallerWalk → Option (List ℕ) → Option (List ℕ) → Type 0
WritesRun call best walk old new = (text : List ℕ) × IsTextOf call best walk text × Appends old new text

-- some first bytes of the text of the smallest run, nothing else, were written
pub record WritesRunPart (call : FindCall) (best : BestOptions) (old new : Option (List ℕ)) : Type 0 where
  pub walks : List SmallerWalk
  pub smallest : SmallerWalk
  pub text : List ℕ
  pub told : AreTold call best walks
  pub is : IsSmallest walks smallest
  pub run : IsTextOf call best smallest text
  pub part : WritesPart old new text

-- ---- faults

-- the walk of this seed can't be made, or is not made smaller
abbrev pub FailsOn : WalkOptions → Goal → Hit → BestFault → Type 0
FailsOn o goal hit (Walk fault) = IsShort fault
FailsOn o goal hit (Shrink fault) = IsFaultOn (shows goal) (walked (with_seed o hit.seed) (Some goal)) fault
FailsOn o goal hit (NotFound none) = ⊥

-- the walk of one of these seeds
abbrev pub FailsOnOne : WalkOptions → Goal → List Hit → BestFault → Type 0
FailsOnOne o goal hits fault = (hit : Hit) × Contains hits hit × FailsOn o goal hit fault

-- no seed's walk shows the goal, and the seeds and the words of the goal are told; the walk of one of the first seeds is not made smaller;
-- or memory or the board was short, or a write failed
abbrev pub FindsNoBest : FindCall → BestOptions → BestFault → Type 0
FindsNoBest call best (Walk fault) = IsOfRun fault
FindsNoBest call best (Shrink fault) = FailsOnOne call.options call.goal (first_hits call best.count) (Shrink fault)
FindsNoBest call best (NotFound none) = FindsNothing call (find.NotFound none)
