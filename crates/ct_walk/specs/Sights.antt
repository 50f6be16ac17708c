-- Goals of one term, which ask for a round or for a decision of any member.
use Rattle.std.specs.Prelude.{◌==◌, List, [], ◌∷◌, ◌++◌, Option, Some, None, option_and_then, codes, decimal, if◌then◌else◌}
use Rattle.std.specs.List.{before_first, after_first}
use Rattle.std.specs.Str.{bytes_eq}
use Rattle.clap.specs.Words.{Text}
use Rattle.ct_grammar.specs.declared.claim.Amount.TheVariants as amount
use Rattle.ct_grammar.specs.declared.claim.Claim.{Claim}
use Rattle.ct_grammar.specs.declared.claim.Claim.TheVariants.{Amount, Got}
use Rattle.ct_grammar.specs.declared.claim.Extent.TheVariants.{AtLeast}
use Rattle.ct_grammar.specs.declared.goal.Goal.{Goal}
use Rattle.ct_grammar.specs.declared.term.Term.{Term}
use Rattle.ct_grammar.specs.declared.term.When.{When}
use Rattle.ct_grammar.specs.declared.term.When.TheVariants.{Now}
use Rattle.ct_grammar.specs.declared.term.Whom.{Whom}
use Rattle.ct_grammar.specs.declared.term.Whom.TheVariants.{Any}
use Rattle.ct_streams.specs.Arguments.{◌>>=◌, whole_in}
use Rattle.ct_walk.specs.declared.sight.Sight.{Sight}
use Rattle.ct_walk.specs.declared.sight.Sight.TheVariants.{Decided, Round}

-- ---- what a goal asks for

-- `round >= N` and `decided N`
abbrev pub sight_in_claim : Claim → Option Sight
sight_in_claim (Amount amount.Round (AtLeast n)) = Some (Round n)
sight_in_claim (Got n) = Some (Decided n)
sight_in_claim _ = None

-- of any member, at the whole run
abbrev pub sight_in_term : When → Whom → Claim → Option Sight
sight_in_term Now Any claim = sight_in_claim claim
sight_in_term when whom claim = None

abbrev pub sight_in_terms : List Term → Option Sight
sight_in_terms (term ∷ []) = sight_in_term term.when term.whom term.claim
sight_in_terms _ = None

-- what the goal asks for, where it is one such term
abbrev pub sight_in : Option Goal → Option Sight
sight_in until = option_and_then sight_in_terms until

-- ---- short texts

-- `decided`, or `round`, and a number
abbrev pub sight_by : Text → Text → Option Sight
sight_by kind number = do
  n ← whole_in 1 4294967295 number
  if bytes_eq kind (codes "decided") then Some (Decided n) else (if bytes_eq kind (codes "round") then Some (Round n) else None)

-- what the text names, which has a space between them
unfoldable pub sight_of : Text → Option Sight
sight_of text = sight_by (before_first (λ c. c == 32) text) (after_first (λ c. c == 32) text)

-- the text as goals are written: `decided N` and `round N` are short for these
abbrev pub text_or : Text → Option Sight → Text
text_or text None = text
text_or text (Some (Decided n)) = codes "any decided " ++ decimal n
text_or text (Some (Round n)) = codes "any round >= " ++ decimal n

abbrev pub in_full : Text → Text
in_full text = text_or text (sight_of text)
