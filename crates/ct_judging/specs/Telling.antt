-- The texts of faults.
use Rattle.std.specs.Prelude.{ℕ, zero, suc, ◌-◌, List, [], ◌∷◌, ◌++◌, codes, decimal, Option, Some, None, Result, Ok, Err}
use Rattle.std.specs.Prelude.{if◌then◌else◌}
use Rattle.std.specs.List.{concat}
use Rattle.ct_names.specs.Group.{is_member}
use Rattle.ct_names.specs.MemberSet.{has_member}
use Rattle.ct_model.specs.Actor.{actor}
use Rattle.ct_grammar.specs.declared.act.Act.{Act}
use Rattle.ct_grammar.specs.declared.claim.Claim.{Claim}
use Rattle.ct_grammar.specs.declared.claim.Claim.TheVariants as claim
use Rattle.ct_grammar.specs.declared.fact.Fact.{Fact}
use Rattle.ct_grammar.specs.declared.line.Line.{Line}
use Rattle.ct_grammar.specs.declared.line.Line.TheVariants.{Play as Plays}
use Rattle.ct_grammar.specs.declared.play.Play.{Play}
use Rattle.ct_grammar.specs.declared.play.Play.TheVariants.{Act as Acts, Expect, Stated, Until}
use Rattle.ct_grammar.specs.declared.statement.Statement.{Statement}
use Rattle.ct_grammar.specs.declared.term.Term.{Term}
use Rattle.ct_grammar.specs.declared.term.When.{When}
use Rattle.ct_grammar.specs.declared.term.When.TheVariants.{Now, Ever, Never}
use Rattle.ct_grammar.specs.declared.who.Who.{Who}
use Rattle.ct_grammar.specs.declared.who.Who.TheVariants as who
use Rattle.ct_print.specs.Goals.{claim_text, term_text}
use Rattle.ct_print.specs.Statements.{statement_text}
use Rattle.ct_play.specs.Acting.{done, done_by, go_on}
use Rattle.ct_play.specs.Claims.{amount_of}
use Rattle.ct_play.specs.Expecting.{unmet}
use Rattle.ct_play.specs.Facts.{there, wanted}
use Rattle.ct_play.specs.Played.{Played}
use Rattle.ct_play.specs.Stating.{came_to}
use Rattle.ct_play.specs.Turning.{ended}
use Rattle.ct_play.specs.declared.line_fault.LineFault.{LineFault}
use Rattle.ct_play.specs.declared.line_fault.LineFault.TheVariants.{NotUnderstood, NoMembers, Settled, NoSuchMember, NotThere, NoneFrom}
use Rattle.ct_play.specs.declared.line_fault.LineFault.TheVariants.{Across, Refused, NotMet, Restless, NotSo, OutOfMemory, Board}
use Rattle.ct_settled.specs.Hindrance.{hindrance}
use Rattle.ct_judging.specs.Hindering.{hindered_text}
use Rattle.ct_judging.specs.Judging.{taken}
use Rattle.ct_judging.specs.Missing.{across_text, missing_text, none_from_text}
use Rattle.ct_judging.specs.Printing.{printed}
use Rattle.ct_judging.specs.Reading.{line_in, misread_text}
use Rattle.ct_judging.specs.Refusing.{refused_text}
use Rattle.ct_judging.specs.Standing.{Standing, played_of}
use Rattle.ct_judging.specs.Wording.{behind, numbered}
use Rattle.ct_judging.specs.declared.misread.Misread.{Misread}

-- ---- faults in a world

abbrev pub stranger_text : ℕ → List ℕ
stranger_text p = concat (codes "no member " ∷ decimal p ∷ [])

-- the same of none of the group's members, else this
abbrev pub if_member_text : Played → ℕ → List ℕ → List ℕ
if_member_text w p text = if is_member w.rehearsal.setting.members p then text else stranger_text p

-- what is expected of a member, and what is there
unfoldable pub unmet_text : Played → ℕ → Fact → List ℕ
unmet_text w p fact =
    numbered (codes "not met: member ") p ++ behind (codes ": expected ") (wanted fact) ++ behind (codes ", there is ") (there w p fact)

-- a claim that is not true of a member
unfoldable pub untrue_text : ℕ → Claim → List ℕ
untrue_text p claim = numbered (codes "not met: member ") p ++ behind (codes ": expected ") (claim_text claim)

-- the same where not all is done, and what stands in the way
unfoldable pub unsettled_text : Played → ℕ → Claim → List ℕ
unsettled_text w p claim = untrue_text p claim ++ hindered_text w.rehearsal (hindrance w)

-- a claim that is not true of a member; what is there, where that is a value or a number, or what stands in the way
abbrev pub claim_unmet : Played → ℕ → Claim → List ℕ
claim_unmet w p (claim.Fact fact) = unmet_text w p fact
claim_unmet w p (claim.Amount what extent) =
    untrue_text p (claim.Amount what extent) ++ numbered (codes ", there is ") (amount_of w.rehearsal p what)
claim_unmet w p claim.Settled = unsettled_text w p claim.Settled
claim_unmet w p other = untrue_text p other

-- what was seen of a term that is not about each of some members as they are now
abbrev pub seen_text : When → List ℕ
seen_text Now = codes ": no member shows it"
seen_text Ever = codes ": no beginning of the run shows it"
seen_text Never = codes ": a beginning of the run shows it"

unfoldable pub term_unmet : Term → List ℕ
term_unmet t = behind (codes "not met: ") (term_text t) ++ seen_text t.when

-- the first term that does not hold, and the member by which it does not
abbrev pub goal_unmet : Played → Option ℕ → Option Term → List ℕ
goal_unmet w who None = codes "not met"
goal_unmet w None (Some t) = term_unmet t
goal_unmet w (Some p) (Some t) = if_member_text w p (claim_unmet w p t.claim)

-- where turns don't bring about a goal: what is there after them
abbrev pub not_reached_text : Played → Option ℕ → Play → List ℕ
not_reached_text w who (Until by set goal) = let end = ended w (Until by set goal) in goal_unmet end who (unmet end goal)
not_reached_text w who play = codes "not met"

abbrev pub not_met_text : Played → Option ℕ → Line → List ℕ
not_met_text w who (Plays (Expect goal)) = goal_unmet w who (unmet w goal)
not_met_text w who (Plays play) = not_reached_text w who play
not_met_text w who line = codes "not met"

-- what is stated of a member's step, and what it came to
unfoldable pub other_text : Played → ℕ → Who → Act → Statement → List ℕ
other_text w p who act said =
    numbered (codes "not so: member ") p ++ behind (codes ": stated ") (statement_text said)
    ++ behind (codes ", there is ") (came_to w who act p)

abbrev pub not_so_text : Played → ℕ → Line → List ℕ
not_so_text w p (Plays (Stated who act said)) = other_text w p who act said
not_so_text w p line = codes "not so"

-- a fault that needs no world
abbrev pub plain_text : LineFault → List ℕ
plain_text NotUnderstood = codes "not understood"
plain_text NoMembers = codes "no members"
plain_text Settled = codes "the group is settled"
plain_text (NoSuchMember p) = stranger_text p
plain_text Restless = codes "not at rest after 10000 rounds"
plain_text OutOfMemory = codes "out of memory"
plain_text Board = codes "board refused"
plain_text fault = codes "refused"

-- ---- faults of steps

-- a fault of a step that is tried in this world
abbrev pub step_fault : Played → LineFault → List ℕ
step_fault w (NotThere p pick) = if_member_text w p (missing_text w.rehearsal p pick)
step_fault w (NoneFrom p set) = if_member_text w p (none_from_text w.rehearsal p)
step_fault w (Across p k) = across_text w.rehearsal k
step_fault w (Refused step refusal) = refused_text w.rehearsal step refusal
step_fault w fault = plain_text fault

-- after a member of a line that names several did its act, if the line names it
abbrev pub done_if_named : Who → Act → Played → ℕ → Result Played LineFault
done_if_named (who.One q) act s p = Ok s
done_if_named (who.Some set) act s p = if has_member set p then done s p act else Ok s
done_if_named who.All act s p = done_by who.All act s p

-- the same of each of the first members
abbrev pub done_by_first : Who → Act → Played → ℕ → Result Played LineFault
done_by_first who act s zero = Ok s
done_by_first who act s (suc k) = go_on (done_by_first who act s k) (λ t. done_if_named who act t (suc k))

abbrev pub or_before : Played → Result Played LineFault → Played
or_before s (Ok t) = t
or_before s (Err fault) = s

-- the world in which p tries the act of a line: after those that the line names before it did it
abbrev pub tried_of : Played → ℕ → Who → Act → Played
tried_of w p (who.One q) act = w
tried_of w p who act = or_before w (done_by_first who act w (p - 1))

abbrev pub tried : Played → ℕ → Line → Played
tried w p (Plays (Acts who act)) = tried_of w p who act
tried w p (Plays (Stated who act said)) = tried_of w p who act
tried w p line = w

-- ---- faults of lines

-- a fault of a line, where this is the world before it
abbrev pub fault_in : Played → Line → LineFault → List ℕ
fault_in w line (NotThere p pick) = step_fault (tried w p line) (NotThere p pick)
fault_in w line (NoneFrom p set) = step_fault (tried w p line) (NoneFrom p set)
fault_in w line (Across p k) = step_fault (tried w p line) (Across p k)
fault_in w line (Refused step refusal) = step_fault (tried w (actor step) line) (Refused step refusal)
fault_in w line (NotMet who) = not_met_text w who line
fault_in w line (NotSo p) = not_so_text w p line
fault_in w line fault = plain_text fault

-- the same, where there may be no world
abbrev pub fault_text : Result Played LineFault → Line → LineFault → List ℕ
fault_text (Ok w) line fault = fault_in w line fault
fault_text (Err other) line fault = plain_text fault

-- a fault and its text, which may have words of the line, but no control bytes
pub record Explained : Type 0 where
  pub fault : LineFault
  pub text : List ℕ

-- what a line comes to, its fault explained
abbrev pub explained : Standing → Line → Result Standing LineFault → Result Standing Explained
explained s line (Ok t) = Ok t
explained s line (Err fault) = Err (record { fault = fault; text = printed (fault_text (played_of s) line fault) })

abbrev pub told_if : Standing → Result Line Misread → Result Standing Explained
told_if s (Ok line) = explained s line (taken s line)
told_if s (Err misread) = Err (record { fault = NotUnderstood; text = printed (misread_text misread) })

-- what a line of these bytes comes to, its fault explained
unfoldable pub told : Standing → List ℕ → Result Standing Explained
told s bytes = told_if s (line_in bytes)
