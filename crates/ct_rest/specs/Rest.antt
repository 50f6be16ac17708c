-- A state in which nothing moves any more, and what is done there.
use Rattle.std.specs.Prelude.{◌≡◌, ℕ, ◌≤◌, true, false, not, List, Some, None, filter}
use Rattle.ct_names.specs.declared.limit.TheConstants.{MAX_MEMBERS}
use Rattle.ct_names.specs.Group.{members, coordinator, IsMember, IsMajority}
use Rattle.ct_names.specs.Membership.{IsIn}
use Rattle.ct_names.specs.Message.{Message}
use Rattle.ct_model.specs.declared.step.Step.{Step}
use Rattle.ct_model.specs.declared.step.Step.TheVariants.{Begin, Enter, Choose, Adopt, Conclude, Deliver, Follow}
use Rattle.ct_model.specs.AtValue.{Standing}
use Rattle.ct_model.specs.Setting.{Setting}
use Rattle.ct_model.specs.State.{State, member, is_crashed}
use Rattle.ct_model.specs.Received.{received_by}
use Rattle.ct_model.specs.Phases.{is_wait}
use Rattle.ct_model.specs.Next.{next}
use Rattle.ct_model.specs.Relayed.{IsArrived}
use Rattle.ct_model.specs.Run.{run}
use Rattle.ct_model.specs.Safe.{delivered_by}

-- p is of the group, and hasn't crashed
pub record IsUp (s : Setting) (g : State) (p : ℕ) : Type 0 where
  pub member : IsMember s.members p
  pub up : is_crashed g p ≡ false

-- the members that are up
abbrev pub members_up : Setting → State → List ℕ
members_up s g = filter (λ p. not (is_crashed g p)) (members s.members)

-- p is blocked: of its steps none is enabled but a submission, a receipt, a suspicion and a crash, and those of its waiting line
pub record IsBlocked (s : Setting) (g : State) (p : ℕ) : Type 0 where
  pub begin : next s g (Begin p) ≡ None
  pub enter : next s g (Enter p) ≡ None
  pub choose : (from : ℕ) → next s g (Choose p from) ≡ None
  pub adopt : next s g (Adopt p) ≡ None
  pub conclude : next s g (Conclude p) ≡ None
  pub deliver : next s g (Deliver p) ≡ None
  pub follow : next s g (Follow p) ≡ None

-- where p waits for a coordinator, that one is up
abbrev pub IsLedByUp : Setting → State → ℕ → Type 0
IsLedByUp s g p = (c : Standing) → (member g p).current ≡ Some c → is_wait c.phase ≡ true →
    is_crashed g (coordinator s.members c.round) ≡ false

-- the steps are a run that ends here, of a group that is no larger than ballots count, with proposals that aren't empty; a
-- majority is up; and each that is up has received what those that are up sent it, is blocked, and waits for none that crashed
pub record IsAtRest (s : Setting) (steps : List Step) (g : State) : Type 0 where
  pub runs : run s steps ≡ Some g
  pub few : s.members ≤ MAX_MEMBERS
  pub bound : 1 ≤ s.bound
  pub majority : IsMajority s.members (members_up s g)
  pub arrived : (p q : ℕ) → IsUp s g p → IsUp s g q → IsArrived s steps g p q
  pub blocked : (p : ℕ) → IsUp s g p → IsBlocked s g p
  pub led : (p : ℕ) → IsUp s g p → IsLedByUp s g p

-- p has no instance open, and delivered what q did, in the same order: in it is each message that q received or submitted
pub record IsDone (g : State) (p q : ℕ) : Type 0 where
  pub idle : (member g p).current ≡ None
  pub same : delivered_by g p ≡ delivered_by g q
  pub received : (m : Message) → IsIn m (received_by g q) → IsIn m (delivered_by g p)
  pub submitted : (m : Message) → IsIn m g.submitted → m.origin ≡ q → IsIn m (delivered_by g p)
