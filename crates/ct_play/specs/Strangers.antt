-- Members that goals name and groups haven't.
use Rattle.std.specs.Prelude.{ℕ, ◌&&◌, not, if◌then◌else◌, List, [], ◌∷◌, Option, Some, None, find, map}
use Rattle.std.specs.Option.{option_or}
use Rattle.ct_names.specs.Group.{everyone, is_member}
use Rattle.ct_names.specs.MemberSet.{has_member}
use Rattle.ct_grammar.specs.declared.carried.Carried.{Carried}
use Rattle.ct_grammar.specs.declared.carried.Carried.TheVariants as carried
use Rattle.ct_grammar.specs.declared.claim.Claim.{Claim}
use Rattle.ct_grammar.specs.declared.claim.Claim.TheVariants as claims
use Rattle.ct_grammar.specs.declared.claim.Name.{Name}
use Rattle.ct_grammar.specs.declared.fact.Fact.{Fact}
use Rattle.ct_grammar.specs.declared.fact.Fact.TheVariants as facts
use Rattle.ct_grammar.specs.declared.goal.Goal.{Goal}
use Rattle.ct_grammar.specs.declared.pick.Pick.{Pick}
use Rattle.ct_grammar.specs.declared.pick.Pick.TheVariants as picks
use Rattle.ct_grammar.specs.declared.reports.decision.Decision.{Decision}
use Rattle.ct_grammar.specs.declared.term.Term.{Term}
use Rattle.ct_grammar.specs.declared.term.Whom.{Whom}
use Rattle.ct_grammar.specs.declared.term.Whom.TheVariants as whoms

-- the member, where a group of n hasn't it
abbrev pub outside : ℕ → ℕ → Option ℕ
outside n p = if is_member n p then None else Some p

-- the first of the set that a group of n hasn't
abbrev pub in_set : ℕ → List ℕ → Option ℕ
in_set n set = find (λ p. has_member set p && not (is_member n p)) everyone

-- what is found in the first of these in which something is
abbrev pub first_in : {A : Type 0} → (A → Option ℕ) → List A → Option ℕ
first_in find [] = None
first_in find (x ∷ xs) = option_or (find x) (first_in find xs)

-- ---- what a claim names

-- the first origin of these messages
abbrev pub origin : ℕ → List Name → Option ℕ
origin n names = find (λ p. not (is_member n p)) (map (λ name. name.origin) names)

abbrev pub decided : ℕ → List Decision → Option ℕ
decided n decisions = first_in (λ decision. origin n decision.names) decisions

-- the origin of a message, or who sent the envelope
abbrev pub picked : ℕ → Pick → Option ℕ
picked n (picks.Serial s) = None
picked n (picks.First (carried.Data origin number) None) = outside n origin
picked n (picks.First (carried.Data origin number) (Some from)) = option_or (outside n origin) (outside n from)
picked n (picks.First _ (Some from)) = outside n from
picked n (picks.First _ None) = None

-- what an act names doesn't count: it would be refused
abbrev pub expected : ℕ → Fact → Option ℕ
expected n (facts.Received names) = origin n names
expected n (facts.Decided decisions) = decided n decisions
expected n (facts.Delivered names) = origin n names
expected n (facts.Waits pick) = picked n pick
expected n (facts.Heard set) = in_set n set
expected n (facts.Acked set) = in_set n set
expected n (facts.Estimate (Some estimate)) = origin n estimate.names
expected n _ = None

abbrev pub claimed : ℕ → Claim → Option ℕ
claimed n (claims.Fact fact) = expected n fact
claimed n (claims.Before first second) = option_or (outside n first.origin) (outside n second.origin)
claimed n _ = None

-- ---- what a goal names

-- of whom a claim has to hold
abbrev pub of_whom : ℕ → Whom → Option ℕ
of_whom n (whoms.One p) = outside n p
of_whom n (whoms.Some set) = in_set n set
of_whom n whoms.All = None
of_whom n whoms.Any = None
of_whom n whoms.Up = None

abbrev pub in_term : ℕ → Term → Option ℕ
in_term n t = option_or (of_whom n t.whom) (claimed n t.claim)

-- the first member that the goal names and that a group of n hasn't
unfoldable pub stranger : ℕ → Goal → Option ℕ
stranger n goal = first_in (in_term n) goal
