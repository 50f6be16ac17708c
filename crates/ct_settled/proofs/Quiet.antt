-- A member that is up, and whose turn is refused: no step of its own is allowed but a suspicion that its detector doesn't say, and
-- nothing waits at it that is near.
use Rattle.std.proofs.lemmas.Bool.Decides.{nat_tests}
use Rattle.std.proofs.lemmas.Bool.{cases_Bool}
use Rattle.std.proofs.Common.{◌≡◌, ℕ, Bool, true, false, List, [], ◌∷◌, ◌++◌, find, Option, Some, None, refl, ap, ◌∙◌, subst}
use Rattle.std.proofs.Common.{inl, inr, option_map, arith}
use Rattle.std.specs.Prelude.{is_none, ⊤, ◌==◌}
use Rattle.std.specs.Option.{option_to_list}
use Rattle.ct_names.specs.declared.limit.Limit.{Limit}
use Rattle.ct_names.specs.declared.refusal.Refusal.TheVariants.{Full}
use Rattle.ct_names.specs.Group.{coordinator}
use Rattle.ct_names.specs.Membership.{IsIn}
use Rattle.ct_names.specs.MemberSet.{has_member}
use Rattle.ct_names.proofs.Lists.{found-find, found-list_any, list_any-found}
use Rattle.ct_model.specs.AtValue.{Standing}
use Rattle.ct_model.specs.Cause.{cause, first_fault}
use Rattle.ct_model.specs.Lawful.{IsPresent, is_waiting}
use Rattle.ct_model.specs.Next.{own_ballots}
use Rattle.ct_model.specs.Phases.{is_wait}
use Rattle.ct_model.specs.Rehearsal.{Rehearsal, line_of}
use Rattle.ct_model.specs.declared.step.Step.{Step}
use Rattle.ct_model.specs.declared.step.Step.TheVariants.{Receive, Begin, Enter, Choose, Adopt, Suspect, Conclude, Deliver, Follow}
use Rattle.ct_model.proofs.Basics.Options.{none-from, none-is}
use Rattle.ct_model.proofs.Basics.Tests.{not_true, same_number, self_number}
use Rattle.ct_model.proofs.Consensus.Readings.{find-some}
use Rattle.ct_model.proofs.Record.Causes.{own_tests}
use Rattle.ct_model.proofs.Record.Limits.{own_tests-is}
use Rattle.ct_world.specs.Driving.{best_heard, next_local}
use Rattle.ct_world.specs.World.{member_of}
use Rattle.ct_choices.specs.Choices.{ask_of, asked_for, chosen, first_waiting, question, receives, round_of, tried}
use Rattle.ct_play.specs.Cuts.{first_near, is_near, near}
use Rattle.ct_play.specs.Picking.{waiting_at}
use Rattle.ct_play.specs.Played.{Played}
use Rattle.ct_play.specs.Turning.{suspects, tried_at}
use Rattle.ct_settled.specs.Settled.{IsSubmission}
use Rattle.ct_settled.proofs.Blocked.{IsOff, late_in, own_steps}
use Rattle.ct_settled.proofs.Free.{IsRoomy, receipt_free, tested_free, untold}
use Rattle.ct_settled.proofs.Still.{IsRefused}

-- none of them is a submission
own_not : (p : ℕ) (best : Option ℕ) (step : Step) → IsIn step (own_steps p best) → IsSubmission step → ⊥
own_not p best step h other = grind arith

candidates_are : (p : ℕ) (best : Option ℕ) →
    (Deliver p ∷ Follow p ∷ Begin p ∷ []) ++ option_to_list (option_map (Choose p) best)
    ++ (Adopt p ∷ Conclude p ∷ Enter p ∷ Suspect p ∷ []) ≡ own_steps p best ++ Suspect p ∷ []
candidates_are p best = grind arith

module _ (t : Played) (set : List ℕ) (p : ℕ) (present : IsPresent t.rehearsal p) (refused : IsRefused t (tried_at t p set)) where
  abbrev w : Rehearsal
  w = t.rehearsal

  abbrev free : Step → Bool
  free step = is_none (cause w step)

  abbrev says : Bool
  says = suspects set (question w p)

  -- what the turn tries where this comes next
  abbrev tries : Option Step → Option Step
  tries o = near t (chosen p (first_waiting w p) says o)

  tried_is : tried_at t p set ≡ tries (next_local w p)
  unfolding tried_at tried
  tried_is = ap (near t) (rw (present.in_group, present.up) refl)

  -- a turn tries these where they come next
  abbrev AllTried : List Step → Type 0
  AllTried [] = ⊤
  AllTried (step ∷ steps) = (tries (Some step) ≡ Some step) × AllTried steps

  own_tried : (best : Option ℕ) → AllTried (own_steps p best)
  own_tried best = grind arith

  -- none of the first steps is allowed
  record IsPassedOver (first rest : List Step) : Type 0 where
    each : (step : Step) → IsIn step first → free step ≡ false
    all : find free (first ++ rest) ≡ find free rest

  passed_over : (first rest : List Step) → AllTried first → IsRefused t (tries (find free (first ++ rest))) → IsPassedOver first rest
  passed_over [] rest own none = record { each = λ step h. absurd h; all = refl }
  passed_over (x ∷ xs) rest own none = grind (arith, none-is, passed_over xs rest own.1)

  next_is : next_local w p ≡ find free (own_steps p (best_heard (member_of w p)) ++ Suspect p ∷ [])
  next_is = ap (find free) (candidates_are p (best_heard (member_of w p)))

  over : IsPassedOver (own_steps p (best_heard (member_of w p))) (Suspect p ∷ [])
  over = passed_over (own_steps p (best_heard (member_of w p))) (Suspect p ∷ []) (own_tried (best_heard (member_of w p)))
      (λ step e. refused step (tried_is ∙ ap tries next_is ∙ e))

  -- no step of its own is allowed but a suspicion
  pub not_free : (step : Step) → IsIn step (own_steps p (best_heard (member_of w p))) → is_none (cause t.rehearsal step) ≡ false
  not_free = over.each

  -- and that only where it isn't said
  suspect_next : free (Suspect p) ≡ true → next_local w p ≡ Some (Suspect p)
  suspect_next e = next_is ∙ over.all ∙ rw e refl

  unsaid : free (Suspect p) ≡ true → says ≡ false
  unsaid e = not_true says
      (λ is. refused (Suspect p) (tried_is ∙ ap tries (suspect_next e) ∙ rw is refl) (none-is (cause w (Suspect p)) e))

  -- so the first one that waits is tried
  receives_first : tried_at t p set ≡ near t (receives p (first_waiting w p))
  receives_first = tried_is ∙ ap tries (next_is ∙ over.all) ∙ elim (cases_Bool (free (Suspect p))) [
    | inl is ↦ rw (is, unsaid is) refl
    | inr is ↦ rw is refl
  ]

  module _ (roomy : (step : Step) (l : Limit) → cause t.rehearsal step ≡ Some (Full l) → IsSubmission step) where
    room : (step : Step) → (IsSubmission step → ⊥) → IsRoomy w step
    room step other l e = other (roomy step l e)

    -- nor is it refused for a limit
    pub off : IsOff t.rehearsal p
    off step h = untold w step (room step (own_not p (best_heard (member_of w p)) step h)) (not_free step h)

    waiting_is : waiting_at w p ≡ line_of w p
    unfolding waiting_at
    waiting_is = rw present.in_group refl

    first_is : (line : List ℕ) (k : ℕ) → line_of w p ≡ line → IsIn k line → (i : ℕ) × (first_waiting w p ≡ Some i)
    unfolding first_waiting
    first_is [] k is h = absurd h
    first_is (i ∷ line) k is h = (i, rw (present.in_group, is) refl)

    -- nothing waits at it that is near
    pub not_near : (k : ℕ) → is_waiting t.rehearsal p k ≡ true → is_near t p k ≡ true → ⊥
    unfolding first_near
    not_near k waits is =
        let x = found-list_any (λ i. i == k) (line_of w p) waits in
        let there : IsIn k (line_of w p) = rw (same_number x.item k x.passes) at x.is_in in
        let some : (i : ℕ) × (first_near t p ≡ Some i) = find-some (is_near t p) k (waiting_at w p) (rw waiting_is there) is in
        let i = some.0 in
        let here : IsIn i (line_of w p) = subst (IsIn i) waiting_is (found-find (is_near t p) i (waiting_at w p) some.1).0 in
        let first = first_is (line_of w p) k refl there in
        let tries_it : tried_at t p set ≡ Some (Receive p i) =
        receives_first ∙ ap (λ o. near t (receives p o)) first.1 ∙ ap (option_map (Receive p)) some.1 in
        refused (Receive p i) tries_it
        (receipt_free w p i (room (Receive p i) (λ h. h)) present (list_any-found (λ j. j == i) i (line_of w p) here (self_number i)))

    module _ (c : Standing) (at : (member_of t.rehearsal p).current ≡ Some c) (waits : is_wait c.phase ≡ true) where
      -- who waits has no proposal, as it could adopt one
      no_proposal : (own_ballots (member_of w p) c).proposal ≡ None
      no_proposal = none-from (own_ballots (member_of w p) c).proposal (λ v is.
          let tested : first_fault (own_tests w (Adopt p)) ≡ None = ap first_fault (own_tests-is w (Adopt p)) ∙ grind arith in
          let allowed = tested_free w (Adopt p) (room (Adopt p) (λ h. h)) present tested in
          let not_allowed = not_free (Adopt p) (late_in p (best_heard (member_of w p)) (Adopt p) (inl refl)) in
          cc)

      suspect_free : free (Suspect p) ≡ true
      suspect_free = grind (arith, nat_tests, no_proposal, own_tests, own_tests-is, tested_free, room (Suspect p))

      asks : question w p ≡ Some (ask_of w p)
      unfolding question
      asks = ap (λ o. asked_for o (ask_of w p)) (suspect_next suspect_free)

      in_round : round_of w p ≡ c.round
      unfolding round_of
      in_round = rw (present.in_group, at) refl

      -- so it waits for one that isn't suspected
      pub not_suspected : has_member set (coordinator t.rehearsal.setting.members c.round) ≡ false
      unfolding ask_of
      not_suspected = grind (arith, nat_tests, in_round, asks, unsaid, suspect_free)
