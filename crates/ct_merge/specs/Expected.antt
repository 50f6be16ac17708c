-- What logs expect of their members.
use Rattle.std.specs.Prelude.{◌≡◌, ℕ, ◌+◌, ◌-◌, ◌≤◌, ◌==◌, ◌||◌, Bool, true, false, List, [], ◌∷◌, ◌++◌, Option, Some, None}
use Rattle.std.specs.Prelude.{IfSome}
use Rattle.std.specs.Prelude.{Result, Ok, Err, if◌then◌else◌, length, slice_get}
use Rattle.std.specs.Option.{option_map_or}
use Rattle.ct_names.specs.Group.{is_member}
use Rattle.ct_names.specs.declared.refusal.Refusal.TheVariants.{Full}
use Rattle.ct_model.specs.Rehearsal.{Rehearsal}
use Rattle.ct_grammar.specs.Sides.{whole}
use Rattle.ct_grammar.specs.declared.act.Act.{Act}
use Rattle.ct_grammar.specs.declared.act.Act.TheVariants as acts
use Rattle.ct_grammar.specs.declared.claim.Amount.{Amount}
use Rattle.ct_grammar.specs.declared.claim.Amount.TheVariants as amounts
use Rattle.ct_grammar.specs.declared.claim.Claim.{Claim}
use Rattle.ct_grammar.specs.declared.claim.Claim.TheVariants as claims
use Rattle.ct_grammar.specs.declared.fact.Fact.{Fact}
use Rattle.ct_grammar.specs.declared.fact.Fact.TheVariants as facts
use Rattle.ct_grammar.specs.declared.goal.Goal.{Goal}
use Rattle.ct_grammar.specs.declared.reason.Reason.{Reason}
use Rattle.ct_grammar.specs.declared.reason.Reason.TheVariants.{Rules}
use Rattle.ct_grammar.specs.declared.term.Term.{Term}
use Rattle.ct_grammar.specs.declared.term.When.{When}
use Rattle.ct_grammar.specs.declared.term.When.TheVariants.{Now}
use Rattle.ct_grammar.specs.declared.term.Whom.{Whom}
use Rattle.ct_grammar.specs.declared.term.Whom.TheVariants.{One}
use Rattle.ct_play.specs.Expecting.{unmet}
use Rattle.ct_play.specs.Played.{Played}
use Rattle.ct_merge.specs.Logs.{Moment, own}
use Rattle.ct_merge.specs.declared.entry.Entry.{Entry}
use Rattle.ct_merge.specs.declared.entry.Entry.TheVariants.{Expected}
use Rattle.ct_merge.specs.declared.entry.NoEntry.{NoEntry}
use Rattle.ct_merge.specs.declared.entry.NoEntry.TheVariants.{NoFact, OpenFact, OpenRefusal}
use Rattle.ct_merge.specs.declared.expectation.Expectation.{Expectation}
use Rattle.ct_merge.specs.declared.testing.Unmet.{Unmet}

-- ---- what a log may expect

-- an envelope has to be there, or to have been
abbrev pub has_others : Act → Bool
has_others (acts.Receive pick) = true
has_others (acts.Postpone pick) = true
has_others (acts.Lose pick) = true
has_others (acts.Repeat pick) = true
has_others (acts.LoseFrom set) = true
has_others _ = false

-- it is a limit, which may be one of all the logs together
abbrev pub is_full : Reason → Bool
is_full (Rules (Full limit)) = true
is_full _ = false

abbrev pub open_refusal : Bool → Reason → Option NoEntry
open_refusal others reason = if others || is_full reason then Some OpenRefusal else None

abbrev pub open_may : Bool → Option NoEntry
open_may others = if others then Some OpenFact else None

-- why a log has no such fact: it depends on the order of the others
abbrev pub open_fact : Fact → Option NoEntry
open_fact (facts.Refuses act reason) = open_refusal (has_others act) reason
open_fact (facts.May act) = open_may (has_others act)
open_fact (facts.Waiting k) = Some OpenFact
open_fact (facts.Waits pick) = Some OpenFact
open_fact _ = None

abbrev pub open_amount : Amount → Option NoEntry
open_amount amounts.Waiting = Some OpenFact
open_amount _ = None

-- the same of claims; those of the last step are of that of the run, and where all is done is of the whole group
abbrev pub open_claim : Claim → Option NoEntry
open_claim (claims.Fact fact) = open_fact fact
open_claim (claims.Amount what extent) = open_amount what
open_claim (claims.Got k) = None
open_claim (claims.Before one other) = None
open_claim (claims.RefusesChoice reason) = open_refusal false reason
open_claim claims.SuspectsUp = Some OpenFact
open_claim (claims.Follows k) = Some OpenFact
open_claim claims.ChoosesUnseen = Some OpenFact
open_claim claims.ConcludesAgain = Some OpenFact
open_claim claims.Settled = Some OpenFact
open_claim claims.Stuck = Some OpenFact

abbrev pub if_open : ℕ → Option NoEntry → Result ℕ NoEntry
if_open p None = Ok p
if_open p (Some why) = Err why

-- the member of which something is claimed as it is now
abbrev pub whose_term : When → Whom → Claim → Result ℕ NoEntry
whose_term Now (One p) claim = if_open p (open_claim claim)
whose_term _ _ claim = Err NoFact

-- the same of the only one of these terms
abbrev pub whose : List Term → Result ℕ NoEntry
whose (t ∷ []) = whose_term t.when t.whom t.claim
whose _ = Err NoFact

abbrev pub of_member : Goal → Result ℕ NoEntry → Result Entry NoEntry
of_member goal (Ok p) = Ok (Expected p goal)
of_member goal (Err why) = Err why

-- what a log has of a goal
abbrev pub expected : Goal → Result Entry NoEntry
expected goal = of_member goal (whose goal)

-- ---- what a log expects

-- what it expects, in its order, and how many of its acts are over
pub record Expecting : Type 0 where
  pub list : List Expectation
  pub acts : ℕ

abbrev pub nothing_expected : Expecting
nothing_expected = record { list = []; acts = 0 }

-- one more act is over
abbrev pub behind_act : Expecting → Expecting
behind_act x = record x { acts = x.acts + 1 }

-- the goal has to hold behind the acts that are over, by the line of this number
abbrev pub with_expectation : Expecting → ℕ → Goal → Expecting
with_expectation x number goal =
    record x { list = x.list ++ record { place = x.acts; number = number; goal = goal } ∷ [] }

-- no more acts stand before an earlier one
abbrev pub AreOrdered : List Expectation → Type 0
AreOrdered list = (i j : ℕ) (d e : Expectation) → i ≤ j → slice_get list i ≡ Some d → slice_get list j ≡ Some e → d.place ≤ e.place

-- and before each no more than so many
pub record AreWithin (list : List Expectation) (acts : ℕ) : Type 0 where
  pub ordered : AreOrdered list
  pub within : (i : ℕ) (e : Expectation) → slice_get list i ≡ Some e → e.place ≤ acts

-- what the log of member p expects; the first one is member 1's
abbrev pub expected_of : List Expecting → ℕ → List Expectation
expected_of expected p = option_map_or (λ x. x.list) (slice_get expected (p - 1)) []

-- ---- where it holds

abbrev pub or_whole : Rehearsal → Bool → Option Moment → Option Rehearsal
or_whole w ends (Some m) = Some m.before
or_whole w true None = Some w
or_whole w false None = None

-- the record where p took so many own steps: before its next own one, or in the end; None where it didn't take so many
unfoldable pub behind : Rehearsal → ℕ → ℕ → Option Rehearsal
behind w p count = or_whole w (length (own w p) == count) (slice_get (own w p) count)

abbrev pub IsMet : Goal → Played → Type 0
IsMet goal s = unmet s goal ≡ None

-- the goal holds in the record, of a group that is not cut
abbrev pub IsMetIn : Goal → Rehearsal → Type 0
IsMetIn goal w = IsMet goal (record { rehearsal = w; sides = whole })

-- it holds at its place in the record, if p comes to that
abbrev pub Holds : Rehearsal → ℕ → Expectation → Type 0
Holds w p e = IfSome (behind w p e.place) (IsMetIn e.goal)

-- each does that p's log expects
abbrev pub AllHold : Rehearsal → ℕ → List Expectation → Type 0
AllHold w p list = (i : ℕ) (e : Expectation) → slice_get list i ≡ Some e → Holds w p e

-- the log of this member of the group expects it, and it doesn't hold at its place, behind the run so far
pub record IsUnmet (w : Rehearsal) (expected : List Expecting) (u : Unmet) : Type 0 where
  pub member : is_member w.setting.members u.member ≡ true
  pub expectation : Expectation
  pub there : slice_get (expected_of expected u.member) u.index ≡ Some expectation
  pub place : behind w u.member expectation.place ≡ Some u.stage.rehearsal
  pub uncut : u.stage.sides ≡ whole
  pub fails : IsMet expectation.goal u.stage → ⊥
