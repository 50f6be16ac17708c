-- The five steps of a round.
use Rattle.std.proofs.Common.{arith}
use Rattle.std.proofs.Common.{◌≡◌, List, [], ◌∷◌, length, refl, ap, ◌∙◌, Option, Some, None}
use Rattle.std.specs.Prelude.{nat_lt, is_none, option_and_then, option_map}
use Rattle.std.specs.Option.{option_map_or}
use Rattle.ct_names.specs.declared.limit.TheConstants.{MAX_INSTANCES, MAX_ROUNDS}
use Rattle.ct_names.specs.declared.limit.Limit.TheVariants.{Rounds}
use Rattle.ct_names.specs.declared.refusal.Refusal.TheVariants.{Idle, Full}
use Rattle.ct_model.specs.declared.step.Step.{Step}
use Rattle.ct_model.specs.Actor.{actor}
use Rattle.ct_model.specs.AtValue.{Standing, Turn}
use Rattle.ct_model.specs.Wire.{envelopes}
use Rattle.ct_model.specs.State.{Member, member}
use Rattle.ct_model.specs.Next.{turned, round_row, row}
use Rattle.ct_model.specs.Rehearsal.{Rehearsal, state_of}
use Rattle.ct_model.specs.Cause.{Test, at, first_fault, open_tests, or_else, cause, overflow}
use Rattle.ct_model.specs.Lawful.{IsLawful, IsPresent}
use Rattle.ct_model.proofs.Record.Causes.{own_tests, low}
use Rattle.ct_model.proofs.Record.Limits.{cause-limited, limit-idle}

-- the tests at the member's standing

pub open-at : (m : Member) (tests : Standing → List Test) (c : Standing) → m.current ≡ Some c →
    first_fault (open_tests m tests) ≡ first_fault (tests c)
open-at m tests c e = ap (λ o. first_fault (at Idle (is_none o) ∷ option_map_or tests o [])) e

-- where none fires, the member has an instance open, and none fires at its standing there
pub open-standing : (m : Member) (tests : Standing → List Test) → first_fault (open_tests m tests) ≡ None →
    (c : Standing) × (m.current ≡ Some c) × (first_fault (tests c) ≡ None)
open-standing m tests h = grind arith

-- the row of a turn
pub round_row-some : (m : Member) (step : Standing → Option Turn) (c : Standing) (t : Turn) → m.current ≡ Some c → step c ≡ Some t →
    round_row m step ≡ Some (turned m t)
round_row-some m step c t e f = ap (λ o. option_map (turned m) (option_and_then step o)) e ∙ ap (option_map (turned m)) f

module _ (w : Rehearsal) (step : Step) (t : Turn) (law : IsLawful w) (present : IsPresent w (actor step))
    (is : row w.setting (state_of w) (actor step) (member (state_of w) (actor step)) step
    ≡ Some (turned (member (state_of w) (actor step)) t)) where
  -- such a step passes only the limit on rounds, or overflows
  pub cause-turned : first_fault (own_tests w step) ≡ None → cause w step
      ≡ or_else (first_fault (at (Full Rounds) (nat_lt MAX_ROUNDS t.after.round) ∷ []))
      (overflow w (length (envelopes w.setting.members t.mail)))
  cause-turned h =
      let last = law.within.few_instances (actor step) in
      cause-limited w step present h
      ∙ limit-idle w step (turned (member (state_of w) (actor step)) t) law present is refl refl
      ∙ rw (low MAX_INSTANCES (member (state_of w) (actor step)).last last) refl
