-- Goals, as text.
use Rattle.std.specs.Prelude.{ℕ, List, [], ◌∷◌, ◌++◌, codes, decimal}
use Rattle.ct_grammar.specs.declared.claim.Amount.{Amount}
use Rattle.ct_grammar.specs.declared.claim.Amount.TheVariants as amount
use Rattle.ct_grammar.specs.declared.claim.Claim.{Claim}
use Rattle.ct_grammar.specs.declared.claim.Claim.TheVariants as claims
use Rattle.ct_grammar.specs.declared.claim.Extent.{Extent}
use Rattle.ct_grammar.specs.declared.claim.Extent.TheVariants.{Exactly, AtLeast}
use Rattle.ct_grammar.specs.declared.goal.Goal.{Goal}
use Rattle.ct_grammar.specs.declared.term.Term.{Term}
use Rattle.ct_grammar.specs.declared.term.When.{When}
use Rattle.ct_grammar.specs.declared.term.When.TheVariants.{Now, Ever, Never}
use Rattle.ct_grammar.specs.declared.term.Whom.{Whom}
use Rattle.ct_grammar.specs.declared.term.Whom.TheVariants.{One, Some as Several, All, Any, Up}
use Rattle.ct_grammar.specs.Words.{Word, text_of}
use Rattle.ct_grammar.specs.Reasons.{reason_text}
use Rattle.ct_print.specs.Acts.{message_word}
use Rattle.ct_print.specs.Facts.{fact_text}
use Rattle.ct_print.specs.Members.{list_text}

-- what is counted
unfoldable pub amount_text : Amount → List ℕ
amount_text amount.Instance = codes "instance"
amount_text amount.Round = codes "round"
amount_text amount.Waiting = codes "waiting"
amount_text amount.Received = text_of (codes "received" ∷ codes "count" ∷ [])
amount_text amount.Decided = text_of (codes "decided" ∷ codes "count" ∷ [])
amount_text amount.Delivered = text_of (codes "delivered" ∷ codes "count" ∷ [])

-- how much it has to be
unfoldable pub extent_text : Extent → List ℕ
extent_text (Exactly n) = decimal n
extent_text (AtLeast n) = text_of (codes ">=" ∷ decimal n ∷ [])

-- a claim
unfoldable pub claim_text : Claim → List ℕ
claim_text (claims.Fact fact) = fact_text fact
claim_text (claims.Amount what extent) = text_of (amount_text what ∷ extent_text extent ∷ [])
claim_text (claims.Got i) = text_of (codes "decided" ∷ decimal i ∷ [])
claim_text (claims.Before a b) =
    text_of (codes "delivered" ∷ message_word a.origin a.number ∷ codes "before" ∷ message_word b.origin b.number ∷ [])
claim_text (claims.RefusesChoice reason) = text_of (codes "refuses" ∷ codes "choose" ∷ reason_text reason ∷ [])
claim_text claims.SuspectsUp = text_of (codes "suspects" ∷ codes "up" ∷ [])
claim_text (claims.Follows i) = text_of (codes "follows" ∷ decimal i ∷ [])
claim_text claims.ChoosesUnseen = text_of (codes "chooses" ∷ codes "unseen" ∷ [])
claim_text claims.ConcludesAgain = text_of (codes "concludes" ∷ codes "again" ∷ [])
claim_text claims.Settled = codes "settled"
claim_text claims.Stuck = codes "stuck"

-- of whom it has to hold
unfoldable pub whom_text : Whom → Word
whom_text (One p) = decimal p
whom_text (Several set) = list_text set
whom_text All = codes "all"
whom_text Any = codes "any"
whom_text Up = codes "up"

-- at which of the beginnings of the run; nothing is said of the whole run
unfoldable pub when_text : When → List ℕ
when_text Now = []
when_text Ever = codes "ever "
when_text Never = codes "never "

-- a term
unfoldable pub term_text : Term → List ℕ
term_text term = when_text term.when ++ text_of (whom_text term.whom ∷ claim_text term.claim ∷ [])

-- an `and` before each term
abbrev pub more_terms : List Term → List ℕ
more_terms [] = []
more_terms (term ∷ terms) = codes " and " ++ (term_text term ++ more_terms terms)

-- the terms, with `and` between them
abbrev pub terms_text : List Term → List ℕ
terms_text [] = []
terms_text (term ∷ terms) = term_text term ++ more_terms terms

-- a goal
unfoldable pub goal_text : Goal → List ℕ
goal_text goal = terms_text goal
