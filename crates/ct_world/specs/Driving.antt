-- The step that a driver does next at a member.
use Rattle.std.specs.Prelude.{ℕ, List, [], ◌∷◌, ◌++◌, Option, is_none, option_and_then, option_map, find}
use Rattle.std.specs.Option.{option_to_list}
use Rattle.ct_model.specs.declared.step.Step.{Step}
use Rattle.ct_model.specs.declared.step.Step.TheVariants.{Begin, Enter, Choose, Adopt, Suspect, Conclude, Deliver, Follow}
use Rattle.ct_model.specs.State.{Member}
use Rattle.ct_model.specs.Next.{own_ballots}
use Rattle.ct_model.specs.Rehearsal.{Rehearsal}
use Rattle.ct_model.specs.Cause.{cause}
use Rattle.ct_rounds.specs.Best.{best}
use Rattle.ct_world.specs.World.{member_of}

-- the least member among those heard with the largest ts, for the round of the open instance; None where no instance is
-- open, and where nobody was heard
abbrev pub best_heard : Member → Option ℕ
best_heard m = option_and_then (λ c. best (own_ballots m c)) m.current

-- the steps that are tried at member p, in order; Choose only with the best one heard
abbrev pub candidates : ℕ → Member → List Step
candidates p m =
    (Deliver p ∷ Follow p ∷ Begin p ∷ [])
    ++ option_to_list (option_map (Choose p) (best_heard m))
    ++ (Adopt p ∷ Conclude p ∷ Enter p ∷ Suspect p ∷ [])

-- the first of them that is allowed
abbrev pub next_local : Rehearsal → ℕ → Option Step
next_local w p = find (λ step. is_none (cause w step)) (candidates p (member_of w p))
