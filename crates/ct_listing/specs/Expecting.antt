-- What may be expected.
use Rattle.std.specs.Prelude.{◌≡◌, ℕ, [], ◌∷◌, true, None}
use Rattle.ct_grammar.specs.declared.act.Act.{Act}
use Rattle.ct_grammar.specs.declared.act.Act.TheVariants.{LoseFrom}
use Rattle.ct_grammar.specs.declared.claim.Claim.TheVariants as claim
use Rattle.ct_grammar.specs.declared.fact.Fact.{Fact}
use Rattle.ct_grammar.specs.declared.goal.Goal.{Goal}
use Rattle.ct_grammar.specs.declared.term.When.TheVariants.{Now}
use Rattle.ct_grammar.specs.declared.term.Whom.TheVariants as whom
use Rattle.ct_play.specs.Facts.{is_as_said}
use Rattle.ct_play.specs.Played.{Played}
use Rattle.ct_play.specs.Strangers as strangers
use Rattle.ct_print.specs.Facts.{fact_text}
use Rattle.ct_listing.specs.Leading.{one_line}
use Rattle.ct_print.specs.Writable.{FactFits}

-- an act of one step
abbrev pub IsLone : Act → Type 0
IsLone (LoseFrom set) = ⊥
IsLone act = Unit {0}

-- the goal that the fact holds of p now
abbrev pub fact_goal : ℕ → Fact → Goal
fact_goal p fact = record { when = Now; whom = whom.One p; claim = claim.Fact fact } ∷ []

-- the fact is what is there at p, names members of the group alone, and can be written
pub record IsThere (s : Played) (p : ℕ) (fact : Fact) : Type 0 where
  pub same : is_as_said s p fact ≡ true
  pub known : strangers.expected s.rehearsal.setting.members fact ≡ None
  pub fits : FactFits fact
  pub line : one_line (fact_text fact) ≡ true
