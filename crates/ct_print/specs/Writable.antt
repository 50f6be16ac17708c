-- Which lines can be written: those that some text says.
use Rattle.std.specs.Prelude.{◌≡◌, ◌≢◌, ◌≤◌, ◌<◌, ℕ, List, [], ◌∷◌, length, filter, get_or, IfSome}
use Rattle.ct_names.specs.Group.{everyone, IsMember}
use Rattle.ct_names.specs.MemberSet.{has_member}
use Rattle.ct_names.specs.declared.command.Command.{Command}
use Rattle.ct_names.specs.declared.command.Command.TheVariants.{Set, Add, Copy}
use Rattle.ct_names.specs.declared.limit.TheConstants.{MAX_BOUND, MAX_CELLS, MAX_MEMBERS, REGISTERS}
use Rattle.ct_names.specs.declared.refusal.Refusal.TheVariants.{OutOfMemory, Board}
use Rattle.ct_grammar.specs.declared.act.Act.{Act}
use Rattle.ct_grammar.specs.declared.act.Act.TheVariants.{Submit, Receive, Begin, Enter, Choose, Adopt, Suspect, Conclude, Deliver}
use Rattle.ct_grammar.specs.declared.act.Act.TheVariants.{Follow, Crash, Postpone, Lose, Repeat, LoseFrom}
use Rattle.ct_grammar.specs.declared.carried.Carried.{Carried}
use Rattle.ct_grammar.specs.declared.carried.Carried.TheVariants.{Data, Est, Prop, Ack, Nack, Dec}
use Rattle.ct_grammar.specs.declared.claim.Amount.{Amount}
use Rattle.ct_grammar.specs.declared.claim.Amount.TheVariants as amount
use Rattle.ct_grammar.specs.declared.claim.Claim.{Claim}
use Rattle.ct_grammar.specs.declared.claim.Claim.TheVariants as claims
use Rattle.ct_grammar.specs.declared.claim.Extent.{Extent}
use Rattle.ct_grammar.specs.declared.claim.Extent.TheVariants.{Exactly, AtLeast}
use Rattle.ct_grammar.specs.declared.claim.Name.{Name}
use Rattle.ct_grammar.specs.declared.reports.decision.Decision.{Decision}
use Rattle.ct_grammar.specs.declared.reports.estimate.Estimate.{Estimate}
use Rattle.ct_grammar.specs.declared.reports.listed.Listed.{Listed}
use Rattle.ct_grammar.specs.declared.statement.Statement.{Statement}
use Rattle.ct_grammar.specs.declared.statement.Statement.TheVariants as says
use Rattle.ct_grammar.specs.declared.fact.Fact.{Fact}
use Rattle.ct_grammar.specs.declared.fact.Fact.TheVariants.{Up, Crashed, Idle, Instance, Round, Phase as InPhase}
use Rattle.ct_grammar.specs.declared.fact.Fact.TheVariants.{Received, Decided, Delivered, Table, Refuses, May}
use Rattle.ct_grammar.specs.declared.fact.Fact.TheVariants.{Waiting as ManyWait, Waits, Heard, Acked, Estimate as Estimated}
use Rattle.ct_grammar.specs.declared.given.Given.{Given}
use Rattle.ct_grammar.specs.declared.given.Given.TheVariants.{Members, Cells, Batch}
use Rattle.ct_grammar.specs.declared.line.Line.{Line}
use Rattle.ct_grammar.specs.declared.line.Line.TheVariants.{Blank, Given as Gives, Play as Plays}
use Rattle.ct_grammar.specs.declared.pick.Pick.{Pick}
use Rattle.ct_grammar.specs.declared.pick.Pick.TheVariants.{Serial, First}
use Rattle.ct_grammar.specs.declared.play.Play.{Play}
use Rattle.ct_grammar.specs.declared.play.Play.TheVariants.{Act as Acts, Stated, Turns, Settle, Until, Cut, Heal, Expect, Ask}
use Rattle.ct_grammar.specs.declared.question.Question.{Question}
use Rattle.ct_grammar.specs.declared.question.Question.TheVariants.{Enabled, Next, State, Waiting, Report, Record, Limits}
use Rattle.ct_grammar.specs.declared.reason.Reason.{Reason}
use Rattle.ct_grammar.specs.declared.reason.Reason.TheVariants.{Rules}
use Rattle.ct_grammar.specs.declared.term.Term.{Term}
use Rattle.ct_grammar.specs.declared.term.Whom.{Whom}
use Rattle.ct_grammar.specs.declared.term.Whom.TheVariants as whom
use Rattle.ct_grammar.specs.declared.who.Who.{Who}
use Rattle.ct_grammar.specs.declared.who.Who.TheVariants.{One, Some as Several, All}
use Rattle.ct_grammar.specs.Numbers.{max_u8, max_u32, max_u64}
use Rattle.ct_grammar.specs.Sides.{whole, side_of}

-- ---- members

-- members of 1 to 16, each once, rising
abbrev pub IsSet : List ℕ → Type 0
IsSet set = set ≡ filter (has_member set) everyone

-- the same, one at least
pub record IsSomeSet (set : List ℕ) : Type 0 where
  pub rising : IsSet set
  pub some : 0 < length set

abbrev pub WhoFits : Who → Type 0
WhoFits (One p) = p ≤ max_u8
WhoFits (Several set) = IsSomeSet set
WhoFits All = Unit {0}

-- the side of each member has the number of a member on it, or 0, and one is not 0
pub record IsCut (sides : List ℕ) : Type 0 where
  pub sixteen : length sides ≡ MAX_MEMBERS
  pub named : (p : ℕ) → IsMember MAX_MEMBERS p → side_of sides (side_of sides p) ≡ side_of sides p
  pub some : sides ≢ whole

-- ---- acts

abbrev pub CommandFits : Command → Type 0
CommandFits (Set register value) = (register ≤ max_u8) × (value ≤ max_u64)
CommandFits (Add register amount) = (register ≤ max_u8) × (amount ≤ max_u64)
CommandFits (Copy from to) = (from ≤ max_u8) × (to ≤ max_u8)

abbrev pub CarriedFits : Carried → Type 0
CarriedFits (Data origin number) = (origin ≤ max_u8) × (number ≤ max_u32)
CarriedFits (Est i r) = (i ≤ max_u32) × (r ≤ max_u32)
CarriedFits (Prop i r) = (i ≤ max_u32) × (r ≤ max_u32)
CarriedFits (Ack i r) = (i ≤ max_u32) × (r ≤ max_u32)
CarriedFits (Nack i r) = (i ≤ max_u32) × (r ≤ max_u32)
CarriedFits (Dec i r) = (i ≤ max_u32) × (r ≤ max_u32)

abbrev pub PickFits : Pick → Type 0
PickFits (Serial n) = n ≤ max_u32
PickFits (First carried from) = CarriedFits carried × IfSome from (λ p. p ≤ max_u8)

abbrev pub ActFits : Act → Type 0
ActFits (Submit command) = CommandFits command
ActFits (Receive pick) = PickFits pick
ActFits Begin = Unit {0}
ActFits Enter = Unit {0}
ActFits (Choose p) = p ≤ max_u8
ActFits Adopt = Unit {0}
ActFits Suspect = Unit {0}
ActFits Conclude = Unit {0}
ActFits Deliver = Unit {0}
ActFits Follow = Unit {0}
ActFits Crash = Unit {0}
ActFits (Postpone pick) = PickFits pick
ActFits (Lose pick) = PickFits pick
ActFits (Repeat pick) = PickFits pick
ActFits (LoseFrom set) = IsSomeSet set

-- ---- what reports say

abbrev pub NameFits : Name → Type 0
NameFits name = (name.origin ≤ max_u8) × (name.number ≤ max_u32)

abbrev pub NamesFit : List Name → Type 0
NamesFit [] = Unit {0}
NamesFit (name ∷ names) = NameFits name × NamesFit names

-- decisions of instances that rise from behind the last one
abbrev pub DecisionsFit : ℕ → List Decision → Type 0
DecisionsFit last [] = Unit {0}
DecisionsFit last (d ∷ decisions) = (last < d.instance) × (d.instance ≤ max_u32) × NamesFit d.names × DecisionsFit d.instance decisions

-- the values of the registers
pub record TableFits (values : List ℕ) : Type 0 where
  pub sixteen : length values ≡ REGISTERS
  pub small : (register : ℕ) → get_or values register 0 ≤ max_u64

abbrev pub EstimateFits : Estimate → Type 0
EstimateFits e = NamesFit e.names × (e.ts ≤ max_u32)

-- ---- what is stated

-- more messages than are named only where some are
abbrev pub MoreFits : List Name → ℕ → Type 0
MoreFits [] more = more ≡ 0
MoreFits (name ∷ names) more = more ≤ max_u32

abbrev pub ListedFits : Listed → Type 0
ListedFits l = NamesFit l.names × MoreFits l.names l.more

abbrev pub StatementFits : Statement → Type 0
StatementFits (says.Command command) = CommandFits command
StatementFits (says.Value listed) = ListedFits listed
StatementFits (says.Estimate listed ts) = ListedFits listed × (ts ≤ max_u32)

abbrev pub IsCommand : Statement → Type 0
IsCommand (says.Command command) = Unit {0}
IsCommand (says.Value listed) = ⊥
IsCommand (says.Estimate listed ts) = ⊥

abbrev pub IsValue : Statement → Type 0
IsValue (says.Command command) = ⊥
IsValue (says.Value listed) = Unit {0}
IsValue (says.Estimate listed ts) = Unit {0}

-- what may be stated of what an envelope carries: of a message its command, of acks and nacks nothing, of others a value
abbrev pub IsCarried : Carried → Statement → Type 0
IsCarried (Data origin number) said = IsCommand said
IsCarried (Est i r) said = IsValue said
IsCarried (Prop i r) said = IsValue said
IsCarried (Ack i r) said = ⊥
IsCarried (Nack i r) said = ⊥
IsCarried (Dec i r) said = IsValue said

abbrev pub IsReceived : Pick → Statement → Type 0
IsReceived (Serial n) said = Unit {0}
IsReceived (First carried from) said = IsCarried carried said

-- what may be stated behind the act
abbrev pub IsStatedOf : Act → Statement → Type 0
IsStatedOf (Submit command) said = ⊥
IsStatedOf (Receive pick) said = IsReceived pick said
IsStatedOf Begin said = IsValue said
IsStatedOf Enter said = IsValue said
IsStatedOf (Choose p) said = IsValue said
IsStatedOf Adopt said = IsValue said
IsStatedOf Suspect said = ⊥
IsStatedOf Conclude said = IsValue said
IsStatedOf Deliver said = IsValue said
IsStatedOf Follow said = IsValue said
IsStatedOf Crash said = ⊥
IsStatedOf (Postpone pick) said = ⊥
IsStatedOf (Lose pick) said = ⊥
IsStatedOf (Repeat pick) said = ⊥
IsStatedOf (LoseFrom set) said = ⊥

-- ---- facts

-- no want of memory and no board's refusal, which no rule gives
pub record IsRules (reason : Reason) : Type 0 where
  pub memory : reason ≢ Rules OutOfMemory
  pub board : reason ≢ Rules Board

abbrev pub FactFits : Fact → Type 0
FactFits Up = Unit {0}
FactFits Crashed = Unit {0}
FactFits Idle = Unit {0}
FactFits (Instance i) = i ≤ max_u32
FactFits (Round r) = r ≤ max_u32
FactFits (InPhase phase) = Unit {0}
FactFits (Received names) = NamesFit names
FactFits (Decided decisions) = DecisionsFit 0 decisions
FactFits (Delivered names) = NamesFit names
FactFits (Table values) = TableFits values
FactFits (Refuses act reason) = ActFits act × IsRules reason
FactFits (May act) = ActFits act
FactFits (ManyWait n) = n ≤ max_u32
FactFits (Waits pick) = PickFits pick
FactFits (Heard set) = IsSet set
FactFits (Acked set) = IsSet set
FactFits (Estimated estimate) = IfSome estimate EstimateFits

-- ---- goals

-- what `count` stands behind; an instance, a round or an amount of envelopes that is exactly so is a fact
abbrev pub IsCounted : Amount → Type 0
IsCounted amount.Instance = ⊥
IsCounted amount.Round = ⊥
IsCounted amount.Waiting = ⊥
IsCounted amount.Received = Unit {0}
IsCounted amount.Decided = Unit {0}
IsCounted amount.Delivered = Unit {0}

abbrev pub AmountFits : Amount → Extent → Type 0
AmountFits what (Exactly n) = IsCounted what × (n ≤ max_u32)
AmountFits what (AtLeast n) = n ≤ max_u32

abbrev pub ClaimFits : Claim → Type 0
ClaimFits (claims.Fact fact) = FactFits fact
ClaimFits (claims.Amount what extent) = AmountFits what extent
ClaimFits (claims.Got i) = (1 ≤ i) × (i ≤ max_u32)
ClaimFits (claims.Before a b) = NameFits a × NameFits b
ClaimFits (claims.RefusesChoice reason) = IsRules reason
ClaimFits claims.SuspectsUp = Unit {0}
ClaimFits (claims.Follows i) = (1 ≤ i) × (i ≤ max_u32)
ClaimFits claims.ChoosesUnseen = Unit {0}
ClaimFits claims.ConcludesAgain = Unit {0}
ClaimFits claims.Settled = Unit {0}
ClaimFits claims.Stuck = Unit {0}

abbrev pub WhomFits : Whom → Type 0
WhomFits (whom.One p) = p ≤ max_u8
WhomFits (whom.Some set) = IsSomeSet set
WhomFits whom.All = Unit {0}
WhomFits whom.Any = Unit {0}
WhomFits whom.Up = Unit {0}

abbrev pub TermFits : Term → Type 0
TermFits term = WhomFits term.whom × ClaimFits term.claim

-- one term at least
abbrev pub GoalFits : List Term → Type 0
GoalFits [] = ⊥
GoalFits (term ∷ []) = TermFits term
GoalFits (term ∷ next ∷ terms) = TermFits term × GoalFits (next ∷ terms)

-- ---- lines

abbrev pub GivenFits : Given → Type 0
GivenFits (Members n) = (1 ≤ n) × (n ≤ MAX_MEMBERS)
GivenFits (Cells n) = n ≤ MAX_CELLS
GivenFits (Batch n) = (1 ≤ n) × (n ≤ MAX_BOUND)

abbrev pub QuestionFits : Question → Type 0
QuestionFits (Enabled p) = p ≤ max_u8
QuestionFits (Next p) = p ≤ max_u8
QuestionFits (State p) = p ≤ max_u8
QuestionFits (Waiting p) = p ≤ max_u8
QuestionFits Report = Unit {0}
QuestionFits Record = Unit {0}
QuestionFits Limits = Unit {0}

abbrev pub PlayFits : Play → Type 0
PlayFits (Acts who act) = WhoFits who × ActFits act
PlayFits (Stated who act said) = WhoFits who × ActFits act × StatementFits said × IsStatedOf act said
PlayFits (Turns who n set) = WhoFits who × (n ≤ max_u32) × IsSet set
PlayFits (Settle who set) = WhoFits who × IsSet set
PlayFits (Until who set goal) = WhoFits who × IsSet set × GoalFits goal
PlayFits (Cut sides) = IsCut sides
PlayFits Heal = Unit {0}
PlayFits (Expect goal) = GoalFits goal
PlayFits (Ask question) = QuestionFits question

-- each number is one of its type, each set one of members, and what is stated may be stated of the act
abbrev pub IsWritable : Line → Type 0
IsWritable Blank = Unit {0}
IsWritable (Gives given) = GivenFits given
IsWritable (Plays play) = PlayFits play
