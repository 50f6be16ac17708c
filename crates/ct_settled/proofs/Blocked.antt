-- A member that is up, and of whose own steps each is refused, but not for a limit.
use Rattle.std.proofs.lemmas.Bool.Decides.{nat_tests}
use Rattle.std.proofs.Common.{◌≡◌, ℕ, true, List, [], ◌∷◌, ◌++◌, Option, Some, None, refl, ap, ◌∙◌, option_map, inl, inr, arith}
use Rattle.std.specs.Option.{option_to_list}
use Rattle.ct_names.specs.Group.{is_majority}
use Rattle.ct_names.specs.Membership.{IsIn}
use Rattle.ct_model.specs.AtValue.{Standing}
use Rattle.ct_model.specs.Cause.{first_fault}
use Rattle.ct_model.specs.Lawful.{IsPresent}
use Rattle.ct_model.specs.Next.{next, own_ballots, turn_at}
use Rattle.ct_model.specs.Phases.{is_gather}
use Rattle.ct_model.specs.Rehearsal.{Rehearsal, state_of}
use Rattle.ct_model.specs.Received.{heard}
use Rattle.ct_model.specs.State.{Member, member}
use Rattle.ct_model.specs.declared.moves.Move.TheVariants as moves
use Rattle.ct_model.specs.declared.step.Step.{Step}
use Rattle.ct_model.specs.declared.step.Step.TheVariants.{Begin, Enter, Choose, Adopt, Conclude, Deliver, Follow}
use Rattle.ct_model.proofs.Basics.Options.{none-from}
use Rattle.ct_model.proofs.Consensus.Readings
use Rattle.ct_model.proofs.Record.Causes.{own_tests}
use Rattle.ct_model.proofs.Record.Limits.{own_tests-is}
use Rattle.ct_model.proofs.Relay.Messages.{next-is}
use Rattle.ct_model.proofs.Steps.Rows.{round_row-is, choose-is}
use Rattle.ct_rest.specs.Rest.{IsBlocked, IsUp}
use Rattle.ct_world.specs.Driving.{best_heard}
use Rattle.ct_settled.specs.Hindrance.{told}
use Rattle.ct_settled.proofs.Best.{IsBest, best_of}
use Rattle.ct_settled.proofs.Free.{not_enabled, refused, roomy, tested_free}

-- the steps of its own that a turn of p tries, in order, where this is the best one heard; a suspicion comes last
abbrev pub own_steps : ℕ → Option ℕ → List Step
own_steps p best = (Deliver p ∷ Follow p ∷ Begin p ∷ []) ++ option_to_list (option_map (Choose p) best)
    ++ (Adopt p ∷ Conclude p ∷ Enter p ∷ [])

-- those that come last
pub late_in : (p : ℕ) (best : Option ℕ) (step : Step) → IsIn step (Adopt p ∷ Conclude p ∷ Enter p ∷ []) → IsIn step (own_steps p best)
late_in p best step h = grind arith

-- each of its own steps is refused, and not for a limit
abbrev pub IsOff : Rehearsal → ℕ → Type 0
IsOff w p = (step : Step) → IsIn step (own_steps p (best_heard (member (state_of w) p))) → told w step ≡ None

pub present_of : (w : Rehearsal) (p : ℕ) → IsUp w.setting (state_of w) p → IsPresent w p
present_of w p is =
    let low = is.member.0 in
    let high = is.member.1 in
    record { in_group = grind (arith, nat_tests); up = is.up }

module _ (w : Rehearsal) (p : ℕ) (present : IsPresent w p) (off : IsOff w p) where
  abbrev m : Member
  m = member (state_of w) p

  best_not : (c : Standing) → m.current ≡ Some c → is_gather c.phase ≡ true →
      is_majority w.setting.members (heard (own_ballots m c)) ≡ true → IsBest (own_ballots m c) → ⊥
  best_not c at gathers some b =
      let heard : best_heard m ≡ Some b.from = rw at b.is in
      let tested : first_fault (own_tests w (Choose p b.from)) ≡ None =
      ap first_fault (own_tests-is w (Choose p b.from)) ∙ grind (arith, at, gathers, some, b.own, b.largest) in
      let silent = off (Choose p b.from) (rw heard (inr (inr (inr (inl refl))))) in
      let allowed = tested_free w (Choose p b.from) (roomy w (Choose p b.from) silent) present tested in
      let not_allowed = refused w (Choose p b.from) silent in
      absurd (cc)

  no_choice : (from : ℕ) → next w.setting (state_of w) (Choose p from) ≡ None
  no_choice from = none-from (next w.setting (state_of w) (Choose p from)) (λ h e.
      let x = next-is w.setting (state_of w) (Choose p from) h e in
      let u = round_row-is m (turn_at w.setting.members p m (moves.Choose from)) x.outcome x.row in
      let got = own_ballots m u.standing in
      let c = choose-is w.setting.members m.last got u.standing from u.turn u.taken in
      best_not u.standing u.is_open c.gathers c.majority (best_of got c.best (Readings.heard-once m.got m.last u.standing.round)
      (Readings.estimate_from-in got from c.best c.from_is) c.largest))

  pub blocked : IsBlocked w.setting (state_of w) p
  blocked = grind (arith, nat_tests, not_enabled, off, late_in, no_choice)
