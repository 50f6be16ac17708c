-- Goals.
use Rattle.std.specs.Prelude.{ℕ, Bool, length, List, [], ◌∷◌, Option, Some, option_map, Result, Ok, Err, codes, if◌then◌else◌}
use Rattle.std.specs.List.{slice_split}
use Rattle.std.specs.Option.{ok_or}
use Rattle.std.specs.Str.{bytes_eq}
use Rattle.ct_grammar.specs.declared.goal.Goal.{Goal}
use Rattle.ct_grammar.specs.declared.misfit.Misfit.{Misfit}
use Rattle.ct_grammar.specs.declared.term.Term.{Term}
use Rattle.ct_grammar.specs.declared.term.When.{When}
use Rattle.ct_grammar.specs.declared.term.When.TheVariants.{Now, Ever, Never}
use Rattle.ct_grammar.specs.declared.term.Whom.{Whom}
use Rattle.ct_grammar.specs.declared.term.Whom.TheVariants.{One, Some as Several, All, Any, Up}
use Rattle.ct_grammar.specs.declared.unfit.Unfit.{Unfit}
use Rattle.ct_grammar.specs.declared.unfit.Unfit.TheVariants.{End, Word as Other}
use Rattle.ct_grammar.specs.declared.wanted.Wanted.{Wanted}
use Rattle.ct_grammar.specs.declared.wanted.Wanted.TheVariants as wanted
use Rattle.ct_grammar.specs.Words.{Word, words_of}
use Rattle.ct_grammar.specs.Unfits.{◌>>=◌, map_ok}
use Rattle.ct_grammar.specs.Numbers.{number_of, members_of, has_comma, max_u8}
use Rattle.ct_grammar.specs.Claims.{claim_of}
use Rattle.ct_grammar.specs.Misfits.{misfit_of, told}

-- ---- terms

-- `all`, `any`, `up`, a list of members or one
unfoldable pub whom_of : Word → Option Whom
whom_of word =
    if bytes_eq word (codes "all") then Some All else (
    if bytes_eq word (codes "any") then Some Any else (
    if bytes_eq word (codes "up") then Some Up else (
    if has_comma word then option_map Several (members_of word) else option_map One (number_of max_u8 word))))

-- of whom a claim has to hold, and the claim
unfoldable pub claimed : When → Wanted → List Word → Result Term Unfit
claimed when what [] = Err (End what)
claimed when what (word ∷ words) = do
  whom ← ok_or (whom_of word) (Other (length words) what)
  claim ← claim_of words
  Ok (record { when = when; whom = whom; claim = claim })

-- a term
unfoldable pub term_of : List Word → Result Term Unfit
term_of [] = Err (End wanted.Term)
term_of (word ∷ words) =
    if bytes_eq word (codes "ever") then claimed Ever wanted.Whom words else (
    if bytes_eq word (codes "never") then claimed Never wanted.Whom words else claimed Now wanted.Term (word ∷ words))

-- ---- terms with `and` between them

abbrev pub is_and : Word → Bool
is_and word = bytes_eq word (codes "and")

-- what the words `and` part
abbrev pub parts_of : List Word → List (List Word)
parts_of words = slice_split is_and words

-- what does not fit among the words of a term; where they end too early before an `and`, it is the `and`
unfoldable pub misfit_before_and : List Word → Unfit → Misfit
misfit_before_and words (End what) = misfit_of (codes "and" ∷ []) (Other 0 what)
misfit_before_and words (Other behind what) = misfit_of words (Other behind what)

-- the term before an `and`, or why it is not understood
abbrev pub told_before_and : List Word → Result Term Unfit → Result Term Misfit
told_before_and words (Ok term) = Ok term
told_before_and words (Err unfit) = Err (misfit_before_and words unfit)

-- the terms of the parts
abbrev pub terms_of : List (List Word) → Result (List Term) Misfit
terms_of [] = Ok []
terms_of (part ∷ []) = map_ok (λ term. term ∷ []) (told part (term_of part))
terms_of (part ∷ next ∷ parts) = do
  term ← told_before_and part (term_of part)
  terms ← terms_of (next ∷ parts)
  Ok (term ∷ terms)

-- the goal of these words
unfoldable pub goal_in : List Word → Result Goal Misfit
goal_in words = terms_of (parts_of words)

-- the goal that the text says, or why it is not understood
unfoldable pub goal_of : List ℕ → Result Goal Misfit
goal_of text = goal_in (words_of text)
