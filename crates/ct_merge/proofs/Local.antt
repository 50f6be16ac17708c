-- What a member's step depends on.
use Rattle.ct_merge.proofs.Common.{◌≡◌, ℕ, Bool, true, false, not, ◌&&◌, Some, None, refl, sym, ap, ◌∙◌, option_map, if◌then◌else◌}
use Rattle.ct_merge.proofs.Common.{is_member, actor, row, receive, after, Setting, State, Member, member, submissions, Step, IsStep, IsLike}
use Rattle.ct_merge.proofs.Common.{gets, step_of, LogAct, Submit, Receive}
use Rattle.ct_model.specs.Next.{can_act, next}
use Rattle.ct_merge.specs.Local.{outcome_of}

pub acts_of : (p k : ℕ) (act : LogAct) → actor (step_of p k act) ≡ p
acts_of p k (Submit c) = refl
acts_of p k _ = refl

-- the rows of a step in two states are one
row_local : (s : Setting) (g h : State) (p k l : ℕ) (m : Member) (act : LogAct) →
    submissions g.submitted p ≡ submissions h.submitted p → gets g p k act ≡ gets h p l act →
    row s g p m (step_of p k act) ≡ row s h p m (step_of p l act)
row_local s g h p k l m (Submit c) count got = rw count refl
row_local s g h p k l m (Receive name) count got = ap (λ o. option_map (receive s p m) o) got
row_local s g h p k l m _ count got = refl

outcome_at : (s : Setting) (g : State) (p k : ℕ) (act : LogAct) →
    outcome_of s g (step_of p k act) ≡ (if can_act s g p then row s g p (member g p) (step_of p k act) else None)
unfolding outcome_of
outcome_at s g p k act = ap (λ q. if can_act s g q then row s g q (member g q) (step_of p k act) else None) (acts_of p k act)

-- a member's step depends on how the member stands, on how many messages it submitted, and on what it receives
pub outcome_local : (s : Setting) (g h : State) (p k l : ℕ) (act : LogAct) → IsLike p g h → gets g p k act ≡ gets h p l act →
    outcome_of s g (step_of p k act) ≡ outcome_of s h (step_of p l act)
outcome_local s g h p k l act like got =
    outcome_at s g p k act
    ∙ (ap (λ (m : Member). if (is_member s.members p && not m.crashed) then row s g p m (step_of p k act) else None) like.member
    ∙ (ap (λ o. if can_act s h p then o else None) (row_local s g h p k l (member h p) act like.submitted got)
    ∙ sym (outcome_at s h p l act)))

-- the state after a step is that of its outcome
pub next_outcome : (s : Setting) (g : State) (step : Step) → next s g step ≡ option_map (after s g (actor step)) (outcome_of s g step)
unfolding next outcome_of
next_outcome s g step = by_test (can_act s g (actor step))
  where
    by_test : (b : Bool) → (if b then option_map (after s g (actor step)) (row s g (actor step) (member g (actor step)) step) else None)
        ≡ option_map (after s g (actor step)) (if b then row s g (actor step) (member g (actor step)) step else None)
    by_test true = refl
    by_test false = refl

-- an enabled step has its outcome
pub outcome_is : (s : Setting) (g : State) (step : Step) (h : State) (t : IsStep s g step h) → outcome_of s g step ≡ Some t.outcome
unfolding outcome_of
outcome_is s g step h t =
    let up : can_act s g (actor step) ≡ true = rw (t.in_group, t.up) refl in
    ap (λ b. if b then row s g (actor step) (member g (actor step)) step else None) up ∙ t.row
