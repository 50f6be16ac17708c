-- What lines expect.
use Rattle.std.specs.Prelude.{ℕ, not, Option, Some, None, find, Result, Ok, Err}
use Rattle.ct_grammar.specs.declared.claim.Claim.{Claim}
use Rattle.ct_grammar.specs.declared.goal.Goal.{Goal}
use Rattle.ct_grammar.specs.declared.term.Term.{Term}
use Rattle.ct_grammar.specs.declared.term.When.{When}
use Rattle.ct_grammar.specs.declared.term.When.TheVariants.{Now, Ever, Never}
use Rattle.ct_grammar.specs.declared.term.Whom.{Whom}
use Rattle.ct_grammar.specs.declared.term.Whom.TheVariants as whom
use Rattle.ct_play.specs.Acting.{go_on}
use Rattle.ct_play.specs.Goals.{is_met, unshown}
use Rattle.ct_play.specs.Played.{Played}
use Rattle.ct_play.specs.Strangers.{stranger}
use Rattle.ct_play.specs.declared.line_fault.LineFault.{LineFault}
use Rattle.ct_play.specs.declared.line_fault.LineFault.TheVariants.{NoSuchMember, NotMet}

-- ---- whom goals name

abbrev pub unless_strange : Option ℕ → Result (Unit {0}) LineFault
unless_strange None = Ok tt
unless_strange (Some p) = Err (NoSuchMember p)

-- the members that the goal names have to be members of the group
abbrev pub all_known : ℕ → Goal → Result (Unit {0}) LineFault
all_known n goal = unless_strange (stranger n goal)

-- ---- terms that do not hold

-- the first of the terms that does not hold
unfoldable pub unmet : Played → Goal → Option Term
unmet s goal = find (λ t. not (is_met s t)) goal

-- where a claim has to be true of each of several now, or of one, the first of which it is not
abbrev pub failing_now : Played → Whom → Claim → Option ℕ
failing_now s whom.Any claim = None
failing_now s who claim = unshown s who claim

abbrev pub failing_at : When → Played → Term → Option ℕ
failing_at Now s t = failing_now s t.whom t.claim
failing_at Ever s t = None
failing_at Never s t = None

-- the member by which a term does not hold, if it is one
abbrev pub failing : Played → Term → Option ℕ
failing s t = failing_at t.when s t

-- an expectation changes nothing
abbrev pub unless_unmet : Played → Option Term → Result Played LineFault
unless_unmet s None = Ok s
unless_unmet s (Some t) = Err (NotMet (failing s t))

-- the goal has to hold
abbrev pub expected_of : Played → Goal → Result Played LineFault
expected_of s goal = unless_unmet s (unmet s goal)

-- the members that it names have to be members of the group, and it has to hold
unfoldable pub expected : Played → Goal → Result Played LineFault
expected s goal = go_on (all_known s.rehearsal.setting.members goal) (λ _. expected_of s goal)
