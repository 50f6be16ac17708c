-- What goals say of members.
use Rattle.std.specs.Prelude.{ℕ, zero, suc, ◌-◌, ◌==◌, nat_le, nat_lt, Bool, false, not, ◌&&◌, ◌||◌, if◌then◌else◌, List, length}
use Rattle.std.specs.Prelude.{Option, Some, None, is_some, option_map, position, slice_get}
use Rattle.std.specs.List.{list_any}
use Rattle.ct_names.specs.Group.{coordinator, is_member, members}
use Rattle.ct_names.specs.Message.{Message}
use Rattle.ct_names.specs.Value.{Value}
use Rattle.ct_names.specs.declared.refusal.Refusal.{Refusal}
use Rattle.ct_model.specs.Cause.{cause}
use Rattle.ct_model.specs.Mapped.{without_value}
use Rattle.ct_model.specs.Received.{decided, received_by}
use Rattle.ct_model.specs.Rehearsal.{Rehearsal, state_of}
use Rattle.ct_model.specs.State.{at_serial, delivered}
use Rattle.ct_model.specs.declared.envelope.Envelope.{Envelope}
use Rattle.ct_model.specs.declared.phase.Phase.{Phase}
use Rattle.ct_model.specs.declared.step.Step.{Step}
use Rattle.ct_model.specs.declared.step.Step.TheVariants.{Receive, Choose, Suspect, Conclude, Follow}
use Rattle.ct_model.specs.declared.wire.Wire.{Wire}
use Rattle.ct_model.specs.declared.wire.Wire.TheVariants as wire
use Rattle.ct_choices.specs.Choices.{has_crashed}
use Rattle.ct_progress.specs.Progress.{is_settled, is_stuck}
use Rattle.ct_world.specs.Standing.{heard_by}
use Rattle.ct_world.specs.World.{if_member, member_of}
use Rattle.ct_grammar.specs.declared.carried.Carried.{Carried}
use Rattle.ct_grammar.specs.declared.carried.Carried.TheVariants.{Dec, Prop}
use Rattle.ct_grammar.specs.declared.claim.Amount.{Amount}
use Rattle.ct_grammar.specs.declared.claim.Amount.TheVariants as amount
use Rattle.ct_grammar.specs.declared.claim.Claim.{Claim}
use Rattle.ct_grammar.specs.declared.claim.Claim.TheVariants as claim
use Rattle.ct_grammar.specs.declared.claim.Extent.{Extent}
use Rattle.ct_grammar.specs.declared.claim.Extent.TheVariants.{AtLeast, Exactly}
use Rattle.ct_grammar.specs.declared.claim.Name.{Name}
use Rattle.ct_grammar.specs.declared.reason.Reason.{Reason}
use Rattle.ct_grammar.specs.declared.reason.Reason.TheVariants.{Rules}
use Rattle.ct_play.specs.Facts.{decision_count, holds, is_named, is_reason, place_of}
use Rattle.ct_play.specs.Picking.{is_carried, is_so, waiting_at}
use Rattle.ct_play.specs.Played.{Played}

-- ---- numbers

-- the round of a place, 0 where there is none
abbrev pub round_at : Option (ℕ × Phase) → ℕ
round_at None = 0
round_at (Some place) = place.0

-- what is counted of member p
abbrev pub amount_of : Rehearsal → ℕ → Amount → ℕ
amount_of w p amount.Instance = (member_of w p).last
amount_of w p amount.Round = round_at (place_of w p)
amount_of w p amount.Waiting = length (waiting_at w p)
amount_of w p amount.Received = length (received_by (state_of w) p)
amount_of w p amount.Decided = decision_count (member_of w p).got
amount_of w p amount.Delivered = length (delivered (member_of w p))

-- it is as much as is wanted
abbrev pub is_enough : Extent → ℕ → Bool
is_enough (Exactly n) count = count == n
is_enough (AtLeast n) count = nat_le n count

-- ---- messages

-- both places are there, and the first is the smaller one
abbrev pub is_earlier : Option ℕ → Option ℕ → Bool
is_earlier None other = false
is_earlier (Some i) None = false
is_earlier (Some i) (Some j) = nat_lt i j

-- the messages have both, and the first one stands earlier
unfoldable pub stands_before : List Message → Name → Name → Bool
stands_before list one other = is_earlier (position (is_named one) list) (position (is_named other) list)

-- ---- refusals

-- the rules refuse it, for this reason
abbrev pub is_refused_so : Reason → Option Refusal → Bool
is_refused_so reason cause = is_reason (option_map Rules cause) reason

-- p heard q for its round, and they refuse it the choice of q's estimate for this reason
abbrev pub refuses_heard : Rehearsal → ℕ → Reason → ℕ → Bool
refuses_heard w p reason q = is_some (if_member w p (heard_by (member_of w p) q)) && is_refused_so reason (cause w (Choose p q))

-- so it is with some member of the group
unfoldable pub refuses_choice : Rehearsal → ℕ → Reason → Bool
refuses_choice w p reason = list_any (refuses_heard w p reason) (members w.setting.members)

-- ---- last steps

unfoldable pub last_step : Rehearsal → Option Step
last_step w = slice_get w.steps (length w.steps - 1)

-- the coordinator of the round has not crashed
abbrev pub is_led : Rehearsal → Option (ℕ × Phase) → Bool
is_led w None = false
is_led w (Some place) = not (has_crashed w (coordinator w.setting.members place.0))

-- p suspects a coordinator that has not crashed
abbrev pub suspects_up : Rehearsal → ℕ → Option Step → Bool
suspects_up w p (Some (Suspect q)) = (q == p) && is_led w (place_of w p)
suspects_up w p _ = false

-- p follows this instance
abbrev pub follows : Rehearsal → ℕ → ℕ → Option Step → Bool
follows w p k (Some (Follow q)) = (q == p) && ((member_of w p).last == k)
follows w p k _ = false

-- by the step p receives an envelope that carries this
abbrev pub gets : Rehearsal → ℕ → Carried → Step → Bool
gets w p carried (Receive q k) = (q == p) && is_carried carried (option_map without_value (at_serial (state_of w).sent k))
gets w p carried _ = false

-- p received one
unfoldable pub has_got : Rehearsal → ℕ → Carried → Bool
has_got w p carried = list_any (gets w p carried) w.steps

-- the estimate has a ts above 0, and p never got the proposal of that round
abbrev pub is_unseen : Rehearsal → ℕ → Option (Value × ℕ) → Bool
is_unseen w p None = false
is_unseen w p (Some estimate) = nat_lt 0 estimate.1 && not (has_got w p (Prop (member_of w p).last estimate.1))

-- p chooses such an estimate
abbrev pub chooses_unseen : Rehearsal → ℕ → Option Step → Bool
chooses_unseen w p (Some (Choose q from)) = (q == p) && is_unseen w p (if_member w p (heard_by (member_of w p) from))
chooses_unseen w p _ = false

-- a decision of the instance, of another round
abbrev pub is_other_decision : {V : Type 0} → ℕ → ℕ → Wire V → Bool
is_other_decision instance round (wire.Dec k r v) = (k == instance) && not (r == round)
is_other_decision instance round _ = false

-- an envelope carries one
abbrev pub carries_other : ℕ → ℕ → Option (Envelope (Unit {0})) → Bool
carries_other instance round None = false
carries_other instance round (Some e) = is_other_decision instance round e.wire

-- the envelope of the serial is one
unfoldable pub was_other : Rehearsal → ℕ → ℕ → ℕ → Bool
was_other w instance round k = carries_other instance round (option_map without_value (at_serial (state_of w).sent k))

-- a serial up to one passes the test
abbrev pub any_to : (ℕ → Bool) → ℕ → Bool
any_to test zero = false
any_to test (suc k) = any_to test k || test (suc k)

-- p sent a decision of the instance and the round, and one of another round was sent
unfoldable pub decides_again : Rehearsal → ℕ → ℕ → ℕ → Bool
decides_again w p instance round =
    any_to (is_so w (Dec instance round) (Some p)) (length (state_of w).sent)
    && any_to (was_other w instance round) (length (state_of w).sent)

-- so it is in the round of p's place
abbrev pub is_again : Rehearsal → ℕ → Option (ℕ × Phase) → Bool
is_again w p None = false
is_again w p (Some place) = decides_again w p (member_of w p).last place.0

-- p concludes its round by a decision, and one of another round was sent
abbrev pub concludes_again : Rehearsal → ℕ → Option Step → Bool
concludes_again w p (Some (Conclude q)) = (q == p) && is_again w p (place_of w p)
concludes_again w p _ = false

-- ---- claims

-- what the claim says of a member of the group
abbrev pub says : Played → ℕ → Claim → Bool
says s p (claim.Fact fact) = holds s p fact
says s p (claim.Amount what extent) = is_enough extent (amount_of s.rehearsal p what)
says s p (claim.Got k) = is_some (decided (member_of s.rehearsal p).got k)
says s p (claim.Before one other) = stands_before (delivered (member_of s.rehearsal p)) one other
says s p (claim.RefusesChoice reason) = refuses_choice s.rehearsal p reason
says s p claim.SuspectsUp = suspects_up s.rehearsal p (last_step s.rehearsal)
says s p (claim.Follows k) = follows s.rehearsal p k (last_step s.rehearsal)
says s p claim.ChoosesUnseen = chooses_unseen s.rehearsal p (last_step s.rehearsal)
says s p claim.ConcludesAgain = concludes_again s.rehearsal p (last_step s.rehearsal)
says s p claim.Settled = is_settled s.rehearsal p
says s p claim.Stuck = is_stuck s.rehearsal p

-- the claim is true of p; of no member of the group it is
unfoldable pub is_true_of : Played → ℕ → Claim → Bool
is_true_of s p claim = if is_member s.rehearsal.setting.members p then says s p claim else false
