-- Which members a line is about.
use Rattle.std.specs.Prelude.{ℕ, not, List, [], ◌∷◌, Option, Some, None, find, Result, Ok, Err}
use Rattle.ct_names.specs.Group.{is_member, members}
use Rattle.ct_grammar.specs.declared.who.Who.{Who}
use Rattle.ct_grammar.specs.declared.who.Who.TheVariants as who
use Rattle.ct_play.specs.declared.line_fault.LineFault.{LineFault}
use Rattle.ct_play.specs.declared.line_fault.LineFault.TheVariants.{NoSuchMember}

-- the members that a line names, rising, in a group of n
abbrev pub named : ℕ → Who → List ℕ
named n (who.One p) = p ∷ []
named n (who.Some set) = set
named n who.All = members n

-- the first of these that is no member of the group
abbrev pub stranger : ℕ → List ℕ → Option ℕ
stranger n ps = find (λ p. not (is_member n p)) ps

-- these, where all of them are members of the group
abbrev pub unless_strange : List ℕ → Option ℕ → Result (List ℕ) LineFault
unless_strange ps None = Ok ps
unless_strange ps (Some p) = Err (NoSuchMember p)

-- the members that a line names, which have to be members of the group
unfoldable pub known : ℕ → Who → Result (List ℕ) LineFault
known n who = unless_strange (named n who) (stranger n (named n who))
