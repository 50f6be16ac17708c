-- Whether all is done in a world, and whether nothing moves in it any more.
use Rattle.std.specs.Prelude.{ℕ, ◌==◌, Bool, true, false, not, ◌&&◌, ◌||◌, filter, length, Option, Some, None, is_none}
use Rattle.std.specs.List.{list_all}
use Rattle.ct_names.specs.Group.{coordinator, members}
use Rattle.ct_names.specs.declared.refusal.Refusal.{Refusal}
use Rattle.ct_names.specs.declared.refusal.Refusal.TheVariants.{Nothing}
use Rattle.ct_model.specs.Cause.{cause}
use Rattle.ct_model.specs.Rehearsal.{Rehearsal}
use Rattle.ct_model.specs.State.{delivered}
use Rattle.ct_model.specs.declared.step.Step.{Step}
use Rattle.ct_model.specs.declared.step.Step.TheVariants.{Submit, Begin, Suspect}
use Rattle.ct_world.specs.Driving.{next_local}
use Rattle.ct_world.specs.World.{member_of}
use Rattle.ct_choices.specs.Choices.{first_waiting, has_crashed, round_of}

-- ---- all is done

-- the step is p's submission of a message
abbrev pub submits : ℕ → Step → Bool
submits p (Submit q c) = q == p
submits p _ = false

-- p delivered as many messages of its own as it submitted
unfoldable pub has_own : Rehearsal → ℕ → Bool
has_own w p = length (filter (λ m. m.origin == p) (delivered (member_of w p))) == length (filter (submits p) w.steps)

-- a step is refused as there is nothing to begin with
abbrev pub is_nothing : Option Refusal → Bool
is_nothing (Some Nothing) = true
is_nothing _ = false

-- p has no instance open, and delivered each message that it received and each that it submitted, of so many that it delivered
abbrev pub has_all : Rehearsal → ℕ → ℕ → Bool
has_all w count p = is_nothing (cause w (Begin p)) && ((length (delivered (member_of w p)) == count) && has_own w p)

-- p crashed, or so it is there
abbrev pub is_through : Rehearsal → ℕ → ℕ → Bool
is_through w count p = has_crashed w p || has_all w count p

-- p crashed, or all is done: so it is with each member of the group, and those that are up delivered as many messages as p
unfoldable pub is_settled : Rehearsal → ℕ → Bool
is_settled w p =
    has_crashed w p || list_all (is_through w (length (delivered (member_of w p)))) (members w.setting.members)

-- ---- nothing moves any more

-- the coordinator of p's round has not crashed
abbrev pub is_led : Rehearsal → ℕ → Bool
is_led w p = not (has_crashed w (coordinator w.setting.members (round_of w p)))

-- where this is the step of its own that comes next at p, it could only suspect a coordinator that is up
abbrev pub is_held : Rehearsal → ℕ → Option Step → Bool
is_held w p None = true
is_held w p (Some (Suspect q)) = is_led w p
is_held w p (Some step) = false

-- p crashed, or nothing waits at it, and it is held so
abbrev pub is_resting : Rehearsal → ℕ → Bool
is_resting w p = has_crashed w p || (is_none (first_waiting w p) && is_held w p (next_local w p))

-- p is up, nobody can move, and yet not all is done
unfoldable pub is_stuck : Rehearsal → ℕ → Bool
is_stuck w p =
    not (has_crashed w p) && (list_all (is_resting w) (members w.setting.members) && not (is_settled w p))
