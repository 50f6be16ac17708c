-- Terms, written and read, and goals.
use Rattle.std.proofs.Common.{◌≡◌, ℕ, false, List, [], ◌∷◌, ◌++◌, map, refl, ap, ◌∙◌, arith, append-nil}
use Rattle.std.specs.Prelude.{codes, decimal, Some, Ok}
use Rattle.std.specs.Str.{bytes_eq}
use Rattle.ct_grammar.specs.declared.goal.Goal.{Goal}
use Rattle.ct_grammar.specs.declared.term.Term.{Term}
use Rattle.ct_grammar.specs.declared.term.When.{When}
use Rattle.ct_grammar.specs.declared.term.When.TheVariants.{Now, Ever, Never}
use Rattle.ct_grammar.specs.declared.term.Whom.{Whom}
use Rattle.ct_grammar.specs.declared.term.Whom.TheVariants as whom
use Rattle.ct_grammar.specs.Goals.{whom_of, claimed, term_of, parts_of, terms_of, goal_in, goal_of}
use Rattle.ct_grammar.specs.Numbers.{max_u8}
use Rattle.ct_grammar.specs.Words.{Word}
use Rattle.ct_print.specs.Goals.{claim_text, whom_text, when_text, term_text, terms_text, goal_text}
use Rattle.ct_print.specs.Members.{list_text}
use Rattle.ct_print.specs.Writable.{WhomFits, TermFits, GoalFits}
use Rattle.ct_print.proofs.FactsRead.{list_back}
use Rattle.ct_print.proofs.GoalsRead.{claim_words, claim_says, claim_back}
use Rattle.ct_print.proofs.NoAnd.{Says, said, led, numeric_says, spoken, part_before, part_alone}
use Rattle.ct_print.proofs.Numerals.{number_back}
use Rattle.ct_print.proofs.Numeric.{IsNumeric, numeric_other, decimal_numeric, decimal_digits}
use Rattle.ct_print.proofs.Parts.{alone_no_comma}
use Rattle.ct_print.proofs.Spoken.{list_numeric}
use Rattle.ct_print.proofs.TextWords.{Reads, beside, word_before, words_from}

-- ---- of whom

whom_says : (w : Whom) → WhomFits w → Says (whom_text w) (whom_text w ∷ [])
unfolding whom_text
whom_says (whom.Some set) h = numeric_says (list_text set) (list_numeric set h)
whom_says _ h = search spoken

whom_back : (w : Whom) → WhomFits w → whom_of (whom_text w) ≡ Some w
unfolding whom_of whom_text
whom_back (whom.One p) h =
    let numeric = decimal_numeric p (omega arith) in
    rw (
      numeric_other (decimal p) 97 _ refl numeric,
      numeric_other (decimal p) 97 _ refl numeric,
      numeric_other (decimal p) 117 _ refl numeric,
      alone_no_comma (decimal p) (decimal_digits p (omega arith)),
      number_back max_u8 p (omega arith) h,
    ) refl
whom_back (whom.Some set) h =
    let numeric = list_numeric set h in
    let back = list_back set h in
    rw (
      numeric_other (list_text set) 97 _ refl numeric,
      numeric_other (list_text set) 97 _ refl numeric,
      numeric_other (list_text set) 117 _ refl numeric,
      back.0,
      back.1,
    ) refl
whom_back _ h = refl

-- it is neither `ever` nor `never`
record IsOther (word : Word) : Type 0 where
  no_ever : bytes_eq word (codes "ever") ≡ false
  no_never : bytes_eq word (codes "never") ≡ false

numeric_is_other : (word : Word) → IsNumeric word → IsOther word
numeric_is_other word h = record {
  no_ever = numeric_other word 101 _ refl h;
  no_never = numeric_other word 110 _ refl h;
}

whom_other : (w : Whom) → WhomFits w → IsOther (whom_text w)
unfolding whom_text
whom_other (whom.One p) h = numeric_is_other (decimal p) (decimal_numeric p (omega arith))
whom_other (whom.Some set) h = numeric_is_other (list_text set) (list_numeric set h)
whom_other _ h = record { no_ever = refl; no_never = refl }

-- ---- terms

abbrev pub when_words : When → List Word
when_words Now = []
when_words Ever = codes "ever" ∷ []
when_words Never = codes "never" ∷ []

abbrev pub term_words : Term → List Word
term_words term = when_words term.when ++ (whom_text term.whom ∷ claim_words term.claim)

under : (when : When) (text : List ℕ) (words : List Word) → Says text words → Says (when_text when ++ text) (when_words when ++ words)
unfolding when_text
under Now text words h = h
under Ever text words h = led (codes "ever") text words (said _ refl refl) h
under Never text words h = led (codes "never") text words (said _ refl refl) h

term_says : (term : Term) → TermFits term → Says (term_text term) (term_words term)
unfolding term_text
term_says term h =
    under term.when _ (whom_text term.whom ∷ claim_words term.claim)
    (led (whom_text term.whom) (claim_text term.claim) (claim_words term.claim) (whom_says term.whom h.0) (claim_says term.claim h.1))

claimed_back : (term : Term) (what : _) → TermFits term →
    claimed term.when what (whom_text term.whom ∷ claim_words term.claim) ≡ Ok term
unfolding claimed
claimed_back term what h = rw (whom_back term.whom h.0, claim_back term.claim h.1) refl

when_back : (term : Term) (when : When) → TermFits term → term.when ≡ when →
    term_of (when_words when ++ (whom_text term.whom ∷ claim_words term.claim)) ≡ Ok term
unfolding term_of
when_back term Now h e =
    let other = whom_other term.whom h.0 in
    rw (other.no_ever, other.no_never, ← e) (claimed_back term _ h)
when_back term _ h e = rw (← e) (claimed_back term _ h)

term_back : (term : Term) → TermFits term → term_of (term_words term) ≡ Ok term
term_back term h = when_back term term.when h refl

-- ---- goals

-- an `and` before the words of each term
abbrev pub more_words : List Term → List Word
more_words [] = []
more_words (term ∷ terms) = codes "and" ∷ (term_words term ++ more_words terms)

abbrev pub goal_words : List Term → List Word
goal_words [] = []
goal_words (term ∷ terms) = term_words term ++ more_words terms

pub goal_reads : (terms : List Term) → GoalFits terms → Reads (terms_text terms) (goal_words terms)
goal_reads [] h = absurd h
goal_reads (term ∷ []) h = rw (append-nil (term_text term), append-nil (term_words term)) (term_says term h).reads
goal_reads (term ∷ next ∷ terms) h =
    beside (term_text term) (codes "and" ++ 32 ∷ terms_text (next ∷ terms)) (term_words term) (codes "and" ∷ goal_words (next ∷ terms))
    (term_says term h.0).reads (word_before (codes "and") _ _ refl (goal_reads (next ∷ terms) h.1))

parts_back : (terms : List Term) → GoalFits terms → parts_of (goal_words terms) ≡ map term_words terms
parts_back [] h = absurd h
parts_back (term ∷ []) h = rw (append-nil (term_words term)) (part_alone (term_words term) (term_says term h).no_and)
parts_back (term ∷ next ∷ terms) h =
    part_before (term_words term) (goal_words (next ∷ terms)) (term_says term h.0).no_and
    ∙ ap (λ (parts : List (List Word)). term_words term ∷ parts) (parts_back (next ∷ terms) h.1)

terms_back : (terms : List Term) → GoalFits terms → terms_of (map term_words terms) ≡ Ok terms
terms_back [] h = absurd h
terms_back (term ∷ []) h = rw (term_back term h) refl
terms_back (term ∷ next ∷ terms) h = rw (term_back term h.0, terms_back (next ∷ terms) h.1) refl

pub goal_back : (terms : List Term) → GoalFits terms → goal_in (goal_words terms) ≡ Ok terms
unfolding goal_in
goal_back terms h = ap terms_of (parts_back terms h) ∙ terms_back terms h

-- what is written of a goal is read as that goal
pub goal_read_back : (goal : Goal) → GoalFits goal → goal_of (goal_text goal) ≡ Ok goal
unfolding goal_of goal_text
goal_read_back goal h = ap goal_in (words_from (terms_text goal) (goal_words goal) (goal_reads goal h)) ∙ goal_back goal h
