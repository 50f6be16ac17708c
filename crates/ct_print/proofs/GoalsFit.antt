-- Goals that are read can be written.
use Rattle.std.proofs.Common.{ℕ, ◌≤◌, ◌<◌, List, [], ◌∷◌, length, arith}
use Rattle.std.proofs.lemmas.List.Splits.{length-slice_split}
use Rattle.std.specs.Prelude.{Option, Some, None, Result, Ok, Err, IfOk, IfSome}
use Rattle.ct_grammar.specs.declared.claim.Amount.{Amount}
use Rattle.ct_grammar.specs.declared.claim.Claim.{Claim}
use Rattle.ct_grammar.specs.declared.claim.Claim.TheVariants as claims
use Rattle.ct_grammar.specs.declared.reason.Reason.{Reason}
use Rattle.ct_grammar.specs.declared.term.Term.{Term}
use Rattle.ct_grammar.specs.declared.term.When.{When}
use Rattle.ct_grammar.specs.Claims.{extent_of, counted, at_least, one_instance, decided, in_order, before, delivered, chosen}
use Rattle.ct_grammar.specs.Claims.{refused_choice, refused, lone_claim, word_alone, followed, step_claim, event_claim, amount_claim}
use Rattle.ct_grammar.specs.Claims.{or_fact, claim_of}
use Rattle.ct_grammar.specs.Facts.{named_fact}
use Rattle.ct_grammar.specs.Goals.{is_and, whom_of, claimed, term_of, parts_of, told_before_and, terms_of, goal_in, goal_of}
use Rattle.ct_grammar.specs.Numbers.{max_u32}
use Rattle.ct_grammar.specs.Words.{Word, words_of}
use Rattle.ct_print.specs.Writable.{IsCounted, IsRules, ClaimFits, WhomFits, TermFits, GoalFits}
use Rattle.ct_print.proofs.FactsFit.{fact_fits, reason_rules}
use Rattle.ct_print.proofs.Readable.{steps, ok_weaker, mapped, May, Gives, number_within, number_between, number_first_fits}
use Rattle.ct_print.proofs.Readable.{members_are_set}
use Rattle.ct_print.proofs.ReportsFit.{alone_fits, name_fits}

-- the claim, where there is one, can be written
abbrev pub MayFit : {E : Type 0} → Option (Result Claim E) → Type 0
MayFit claim = IfSome claim (λ r. IfOk r ClaimFits)

-- ---- amounts

extent_fits : (what : Amount) → IsCounted what → (words : List Word) →
    IfOk (extent_of words) (λ extent. ClaimFits (claims.Amount what extent))
unfolding extent_of
extent_fits what c [] = tt
extent_fits what c (word ∷ words) = search (steps, alone_fits)

counted_fits : (what : Amount) → IsCounted what → (words : List Word) → MayFit (counted what words)
unfolding counted
counted_fits what c [] = tt
counted_fits what c (word ∷ words) = search (steps, extent_fits what c)

at_least_fits : (what : Amount) (words : List Word) → MayFit (at_least what words)
unfolding at_least
at_least_fits what [] = tt
at_least_fits what (word ∷ words) = search (steps, alone_fits)

-- ---- decisions and deliveries

instance_fits : (words : List Word) → May (one_instance words) (λ i. (1 ≤ i) × (i ≤ max_u32))
unfolding one_instance
instance_fits (word ∷ []) Q k = number_between 1 max_u32 word Q k
instance_fits _ Q k = tt

decided_fits : (count : Option (Result Claim _)) (words : List Word) → MayFit count → MayFit (decided count words)
unfolding decided
decided_fits (Some count) words h = h
decided_fits None words h = search (steps, instance_fits)

order_fits : (first second : Word) → IfOk (in_order first second) ClaimFits
unfolding in_order
order_fits first second = search (steps, name_fits) depth 7

before_fits : (words : List Word) → MayFit (before words)
unfolding before
before_fits (a ∷ b ∷ c ∷ []) = search (steps, order_fits)
before_fits _ = tt

delivered_fits : (count : Option (Result Claim _)) (words : List Word) → MayFit count → MayFit (delivered count words)
unfolding delivered
delivered_fits (Some count) words h = h
delivered_fits None words h = before_fits words

-- ---- choices and last steps

chosen_fits : (reason : Option Reason) (word : Word) (words : List Word) → IfSome reason IsRules → MayFit (chosen reason word words)
unfolding chosen
chosen_fits (Some reason) word words h = search steps
chosen_fits None word words h = search steps

refused_fits : (words : List Word) → MayFit (refused words)
unfolding refused refused_choice
refused_fits [] = tt
refused_fits (word ∷ []) = search steps
refused_fits (word ∷ next ∷ words) = search (steps, chosen_fits, reason_rules)

alone_word_fits : (name : Word) (what : _) (claim : Claim) (words : List Word) → ClaimFits claim →
    IfOk (word_alone name what claim words) ClaimFits
unfolding word_alone
alone_word_fits name what claim [] h = tt
alone_word_fits name what claim (word ∷ words) h = search steps

lone_fits : (claim : Claim) (words : List Word) → ClaimFits claim → IfOk (lone_claim claim words) ClaimFits
lone_fits claim words h = search steps

step_fits : (name : Word) (words : List Word) → MayFit (step_claim name words)
unfolding step_claim followed
step_fits name words = search (steps, alone_word_fits, lone_fits, number_first_fits) depth 14

-- ---- all claims

amount_fits : (name : Word) (words : List Word) → MayFit (amount_claim name words)
unfolding amount_claim event_claim
amount_fits name words =
    search (steps, at_least_fits, counted_fits, decided_fits, delivered_fits, refused_fits, step_fits) depth 12

claim_fits : (words : List Word) → Gives (claim_of words) ClaimFits
unfolding claim_of or_fact
claim_fits [] Q k = tt
claim_fits (name ∷ words) Q k =
    ok_weaker ClaimFits Q _ (go (amount_claim name words) (amount_fits name words)) k
  where
    go : (o : Option (Result Claim _)) → MayFit o → IfOk (or_fact o name words) ClaimFits
    go (Some r) h = h
    go None h = mapped ClaimFits _ (named_fact name words) (fact_fits name words)

-- ---- terms

whom_fits : (word : Word) → May (whom_of word) WhomFits
unfolding whom_of
whom_fits word Q k = search (steps, members_are_set, number_within) depth 8

claimed_fits : (when : When) (what : _) (words : List Word) → Gives (claimed when what words) TermFits
unfolding claimed
claimed_fits when what [] Q k = tt
claimed_fits when what (word ∷ words) Q k = search (steps, whom_fits, claim_fits) depth 7

term_fits : (words : List Word) → Gives (term_of words) TermFits
unfolding term_of
term_fits [] Q k = tt
term_fits (word ∷ words) Q k = search (steps, claimed_fits)

-- ---- goals

before_and_fits : (P : Term → Type 0) (words : List Word) (r : Result Term _) → IfOk r P → IfOk (told_before_and words r) P
before_and_fits P words (Ok x) h = h
before_and_fits P words (Err unfit) h = tt

-- no goal is without terms, so no part is
some_more : (term : Term) (terms : List Term) → TermFits term → GoalFits terms → GoalFits (term ∷ terms)
some_more term [] h k = absurd k
some_more term (next ∷ terms) h k = (h, k)

terms_fit : (part : List Word) (parts : List (List Word)) → Gives (terms_of (part ∷ parts)) GoalFits
terms_fit part [] Q k = search (steps, term_fits)
terms_fit part (next ∷ parts) Q k = search (steps, before_and_fits, term_fits, terms_fit next parts, some_more) depth 8

some_parts : (parts : List (List Word)) → 0 < length parts → Gives (terms_of parts) GoalFits
some_parts [] s Q k = absurd (omega arith)
some_parts (part ∷ parts) s Q k = terms_fit part parts Q k

pub goal_fits : (words : List Word) → Gives (goal_in words) GoalFits
unfolding goal_in
goal_fits words = some_parts (parts_of words) (omega (arith, length-slice_split is_and words))

-- a goal that is read can be written
pub goal_readable : (bytes : List ℕ) → IfOk (goal_of bytes) GoalFits
unfolding goal_of
goal_readable bytes = goal_fits (words_of bytes) GoalFits (λ goal h. h)
