-- Nobody can move, and yet not all is done, exactly where a world is stuck.
use Rattle.std.proofs.Common.{◌≡◌, ℕ, ◌≤◌, true, List, [], ◌∷◌, Option, Some, None, refl, ap, ◌∙◌, inl, inr, arith}
use Rattle.std.specs.Prelude.{is_none, slice_get}
use Rattle.std.specs.List.{list_all}
use Rattle.std.proofs.lemmas.Bool.Decides.{nat_tests}
use Rattle.ct_names.specs.Group.{coordinator, members}
use Rattle.ct_names.specs.Membership.{IsIn}
use Rattle.ct_names.proofs.Lists.{found-find}
use Rattle.ct_model.specs.declared.step.Step.{Step}
use Rattle.ct_model.specs.declared.step.Step.TheVariants.{Suspect}
use Rattle.ct_model.specs.Cause.{cause}
use Rattle.ct_model.specs.Lawful.{IsLawful}
use Rattle.ct_model.specs.Rehearsal.{Rehearsal, line_of}
use Rattle.ct_model.specs.State.{Member}
use Rattle.ct_model.proofs.Basics.Groups.{coordinator_is}
use Rattle.ct_model.proofs.Basics.Tests.{not_true}
use Rattle.ct_world.specs.Driving.{candidates, next_local}
use Rattle.ct_world.specs.World.{member_of}
use Rattle.ct_choices.specs.Choices.{first_waiting, round_of}
use Rattle.ct_progress.specs.Progress.{is_held, is_led, is_resting, is_settled, is_stuck}
use Rattle.ct_progress.specs.Stuck.{IsHeld, IsStuck, IsUpIn}
use Rattle.ct_progress.proofs.Members.{all_at, all_from}
use Rattle.ct_progress.proofs.Settled.{all_done, here_or_crashed, not_crashed, settled}

empty-first : (line : List ℕ) → is_none (slice_get line 0) ≡ true → line ≡ []
empty-first [] e = refl
empty-first (k ∷ line) e = absurd (cc)

-- a suspicion that comes next is the member's own
suspects_itself : (p r : ℕ) (m : Member) → IsIn (Suspect r) (candidates p m) → Suspect r ≡ Suspect p
suspects_itself p r m h = grind arith

module _ (w : Rehearsal) (law : IsLawful w) (p : ℕ) (up : IsUpIn w p) where
  led : is_led w p ≡ true → IsUpIn w (coordinator w.setting.members (round_of w p))
  led h = let some = up.member.0 in let most = up.member.1 in
      let c = coordinator_is w.setting.members (round_of w p) (omega arith) in
      record { member = c; up = grind (arith, nat_tests, c) }

  held : (o : Option Step) → next_local w p ≡ o → is_held w p o ≡ true → IsHeld w p
  held None is h = inl is
  held (Some (Suspect r)) is h =
      let listed = (found-find (λ step. is_none (cause w step)) (Suspect r) (candidates p (member_of w p)) is).0 in
      inr (is ∙ ap Some (suspects_itself p r (member_of w p) listed), led h)
  held (Some step) is h = absurd (cc)

  to_held : IsHeld w p → is_held w p (next_local w p) ≡ true
  to_held (inl none) = rw none refl
  to_held (inr held) = rw held.0 (grind (arith, held.1.up))

  resting : is_resting w p ≡ true → (line_of w p ≡ []) × IsHeld w p
  unfolding first_waiting
  resting h = let some = up.member.0 in let most = up.member.1 in
      grind (arith, nat_tests, not_crashed w law p up, empty-first, held (next_local w p) refl)

  to_resting : line_of w p ≡ [] → IsHeld w p → is_resting w p ≡ true
  unfolding first_waiting
  to_resting none h = grind (arith, to_held h)

pub stuck : (w : Rehearsal) (p : ℕ) → IsLawful w → IsUpIn w p → is_stuck w p ≡ true → IsStuck w
unfolding is_stuck
stuck w p law up is =
    let rests : list_all (is_resting w) (members w.setting.members) ≡ true = grind arith in
    let rest : (q : ℕ) (here : IsUpIn w q) → (line_of w q ≡ []) × IsHeld w q =
    λ q here. resting w law q here (all_at (is_resting w) w.setting.members q rests here.member) in
    record {
      nothing = λ q here. (rest q here).0;
      held = λ q here. (rest q here).1;
      undone = λ each. let done = settled w p law up each in grind arith;
    }

pub to_stuck : (w : Rehearsal) (p : ℕ) → IsLawful w → 1 ≤ w.setting.bound → IsUpIn w p → IsStuck w → is_stuck w p ≡ true
unfolding is_stuck
to_stuck w p law some up is =
    let undone = not_true (is_settled w p) (λ done. is.undone (all_done w p law some up done)) in
    let rests = all_from (is_resting w) w.setting.members (λ q at. elim (here_or_crashed w law q at) [
      | inl crashed ↦ rw crashed refl
      | inr here ↦ to_resting w law q here (is.nothing q here) (is.held q here)
    ]) in
    grind (arith, not_crashed w law p up)
