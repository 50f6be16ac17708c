-- What a line `WHO settle suspecting SET` leaves, and who has to be among WHO and SET.
use Rattle.std.specs.Prelude.{◌≡◌, ℕ, ◌≤◌, true, List, Ok, Some, ⊤}
use Rattle.ct_names.specs.declared.limit.Limit.{Limit}
use Rattle.ct_names.specs.declared.limit.TheConstants.{MAX_MEMBERS}
use Rattle.ct_names.specs.declared.refusal.Refusal.TheVariants.{Full}
use Rattle.ct_names.specs.Group.{IsMember, IsMajority}
use Rattle.ct_names.specs.Membership.{IsIn}
use Rattle.ct_names.specs.MemberSet.{has_member}
use Rattle.ct_model.specs.declared.step.Step.{Step}
use Rattle.ct_model.specs.declared.step.Step.TheVariants.{Submit, Receive, Lose}
use Rattle.ct_model.specs.Cause.{cause}
use Rattle.ct_model.specs.Lawful.{IsLawful}
use Rattle.ct_model.specs.Rehearsal.{Rehearsal, state_of}
use Rattle.ct_model.specs.State.{is_crashed}
use Rattle.ct_rest.specs.Rest.{IsDone, IsUp, members_up}
use Rattle.ct_grammar.specs.declared.play.Play.TheVariants.{Settle}
use Rattle.ct_grammar.specs.declared.who.Who.{Who}
use Rattle.ct_grammar.specs.Sides.{together}
use Rattle.ct_play.specs.Picking.{sender_of}
use Rattle.ct_play.specs.Played.{Played}
use Rattle.ct_play.specs.Playing.{played}
use Rattle.ct_play.specs.Who.{named}

-- p is of the group, and up
abbrev pub IsUpIn : Played → ℕ → Type 0
IsUpIn t p = IsUp t.rehearsal.setting (state_of t.rehearsal) p

-- of members that are up each two are done with each other
abbrev pub AreDone : Played → Type 0
AreDone t = (p q : ℕ) → IsUpIn t p → IsUpIn t q → IsDone (state_of t.rehearsal) p q

abbrev pub IsSubmission : Step → Type 0
IsSubmission (Submit p c) = ⊤
IsSubmission _ = ⊥

-- the record is one that a world keeps, of a group that is no larger than a world's, and proposals aren't empty
pub record IsOfWorld (w : Rehearsal) : Type 0 where
  pub lawful : IsLawful w
  pub few : w.setting.members ≤ MAX_MEMBERS
  pub bound : 1 ≤ w.setting.bound

-- the line was played where s was, and left t, and what it takes for all to be done there
pub record IsSettled (s : Played) (who : Who) (set : List ℕ) (t : Played) : Type 0 where
  -- the record before the line is one that a world keeps
  pub lawful : IsLawful s.rehearsal
  -- the line wasn't refused: nobody moved in its last round
  pub settles : played s (Settle who set) ≡ Ok t
  -- the group is no larger than a world's, and proposals aren't empty
  pub few : t.rehearsal.setting.members ≤ MAX_MEMBERS
  pub bound : 1 ≤ t.rehearsal.setting.bound
  -- each that is up is one of WHO
  pub turning : (p : ℕ) → IsUpIn t p → IsIn p (named s.rehearsal.setting.members who)
  -- each that crashed is one of SET
  pub suspected : (p : ℕ) → IsMember t.rehearsal.setting.members p → is_crashed (state_of t.rehearsal) p ≡ true → has_member set p ≡ true
  -- a majority is up
  pub majority : IsMajority t.rehearsal.setting.members (members_up t.rehearsal.setting (state_of t.rehearsal))
  -- no cut is between two that are up
  pub uncut : (p q : ℕ) → IsUpIn t p → IsUpIn t q → together t.sides p q ≡ true
  -- what one that is up lost, and another that is up had sent, it received all the same
  pub kept : (p q k : ℕ) → IsUpIn t p → IsUpIn t q → sender_of t.rehearsal k ≡ Some p → IsIn (Lose q k) t.rehearsal.steps →
      IsIn (Receive q k) t.rehearsal.steps
  -- no step but a submission is refused for a limit
  pub roomy : (step : Step) (limit : Limit) → cause t.rehearsal step ≡ Some (Full limit) → IsSubmission step
