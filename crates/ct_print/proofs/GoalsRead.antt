-- Goals, written and read.
use Rattle.std.proofs.Common.{◌≡◌, ℕ, ◌≤◌, List, [], ◌∷◌, ◌++◌, refl, arith}
use Rattle.std.specs.Prelude.{codes, decimal, Some, None, Ok}
use Rattle.ct_grammar.specs.declared.act.Act.{Act}
use Rattle.ct_grammar.specs.declared.act.Act.TheVariants.{Choose}
use Rattle.ct_grammar.specs.declared.claim.Amount.{Amount}
use Rattle.ct_grammar.specs.declared.claim.Amount.TheVariants as amount
use Rattle.ct_grammar.specs.declared.claim.Claim.{Claim}
use Rattle.ct_grammar.specs.declared.claim.Claim.TheVariants as claims
use Rattle.ct_grammar.specs.declared.claim.Extent.{Extent}
use Rattle.ct_grammar.specs.declared.claim.Extent.TheVariants.{Exactly, AtLeast}
use Rattle.ct_grammar.specs.declared.claim.Name.{Name}
use Rattle.ct_grammar.specs.declared.fact.Fact.{Fact}
use Rattle.ct_grammar.specs.declared.fact.Fact.TheVariants.{Received, Decided, Delivered, Refuses}
use Rattle.ct_grammar.specs.declared.reason.Reason.{Reason}
use Rattle.ct_grammar.specs.Claims.{extent_of, counted, at_least, one_instance, decided, in_order, before, delivered, chosen}
use Rattle.ct_grammar.specs.Claims.{refused_choice, refused, word_alone, followed, step_claim, event_claim, amount_claim, or_fact, claim_of}
use Rattle.ct_grammar.specs.Facts.{named_fact}
use Rattle.ct_grammar.specs.Leading.{over}
use Rattle.ct_grammar.specs.Names.{name_of}
use Rattle.ct_grammar.specs.Numbers.{max_u8, max_u32}
use Rattle.ct_grammar.specs.Reasons.{reason_text, reason_of, step_reason, full_of}
use Rattle.ct_grammar.specs.Words.{Word}
use Rattle.ct_print.specs.Acts.{message_word}
use Rattle.ct_print.specs.Goals.{amount_text, extent_text, claim_text}
use Rattle.ct_print.specs.Reports.{name_text}
use Rattle.ct_print.specs.Writable.{ActFits, FactFits, AmountFits, NameFits, ClaimFits, IsRules}
use Rattle.ct_print.proofs.ActsRead.{alone_back, number_is_first}
use Rattle.ct_print.proofs.FactsRead.{fact_name, fact_rest, fact_words, fact_says, fact_back, reason_back, reason_says}
use Rattle.ct_print.proofs.NoAnd.{Says, says_beside, numeric_says, whole_says, spoken}
use Rattle.ct_print.proofs.Numerals.{number_back, number_in_back}
use Rattle.ct_print.proofs.Numeric.{IsNumeric, numeric_other, decimal_numeric}
use Rattle.ct_print.proofs.ReportsRead.{name_back, only_received, only_decided, only_delivered}
use Rattle.ct_print.proofs.Spoken.{act_words, message_numeric}

-- ---- facts, as claims

fact_claimed : (name : Word) (words : List Word) (fact : Fact) → amount_claim name words ≡ None → named_fact name words ≡ Ok fact →
    claim_of (name ∷ words) ≡ Ok (claims.Fact fact)
unfolding claim_of or_fact
fact_claimed name words fact e f = rw (e, f) refl

-- no number is a reason
no_reason : (word : Word) → IsNumeric word → reason_of word ≡ None
unfolding reason_of step_reason full_of
no_reason word h = simp numeric_other

member_refused : (p : ℕ) (words : List Word) → p ≤ max_u8 → refused_choice (decimal p ∷ words) ≡ None
unfolding refused_choice chosen
member_refused p words h =
    rw (no_reason (decimal p) (decimal_numeric p (omega arith)), number_back max_u8 p (omega arith) h) refl

act_refused : (act : Act) (words : List Word) → ActFits act → refused (act_words act ++ words) ≡ None
unfolding refused
act_refused (Choose p) words h = member_refused p words h
act_refused _ words h = refl

exactly : (what : Amount) (n : ℕ) → n ≤ max_u32 → at_least what (decimal n ∷ []) ≡ None
unfolding at_least
exactly what n h = rw (numeric_other (decimal n) 62 _ refl (decimal_numeric n (omega arith))) refl

only_fact : (fact : Fact) → FactFits fact → amount_claim (fact_name fact) (fact_rest fact) ≡ None
unfolding amount_claim event_claim step_claim
only_fact (Received names) h = only_received names h
only_fact (Decided decisions) h = only_decided decisions h
only_fact (Delivered names) h = only_delivered names h
only_fact (Refuses act reason) h = act_refused act _ h.0
only_fact _ h = search exactly

-- ---- claims

abbrev pub amount_words : Amount → List Word
amount_words amount.Instance = codes "instance" ∷ []
amount_words amount.Round = codes "round" ∷ []
amount_words amount.Waiting = codes "waiting" ∷ []
amount_words amount.Received = codes "received" ∷ codes "count" ∷ []
amount_words amount.Decided = codes "decided" ∷ codes "count" ∷ []
amount_words amount.Delivered = codes "delivered" ∷ codes "count" ∷ []

abbrev pub extent_words : Extent → List Word
extent_words (Exactly n) = decimal n ∷ []
extent_words (AtLeast n) = codes ">=" ∷ decimal n ∷ []

abbrev pub claim_words : Claim → List Word
claim_words (claims.Fact fact) = fact_words fact
claim_words (claims.Amount what extent) = amount_words what ++ extent_words extent
claim_words (claims.Got i) = codes "decided" ∷ decimal i ∷ []
claim_words (claims.Before a b) =
    codes "delivered" ∷ message_word a.origin a.number ∷ codes "before" ∷ message_word b.origin b.number ∷ []
claim_words (claims.RefusesChoice reason) = codes "refuses" ∷ codes "choose" ∷ reason_text reason ∷ []
claim_words claims.SuspectsUp = codes "suspects" ∷ codes "up" ∷ []
claim_words (claims.Follows i) = codes "follows" ∷ decimal i ∷ []
claim_words claims.ChoosesUnseen = codes "chooses" ∷ codes "unseen" ∷ []
claim_words claims.ConcludesAgain = codes "concludes" ∷ codes "again" ∷ []
claim_words claims.Settled = codes "settled" ∷ []
claim_words claims.Stuck = codes "stuck" ∷ []

amount_says : (what : Amount) → Says (amount_text what) (amount_words what)
unfolding amount_text
amount_says amount.Instance = search spoken
amount_says _ = search spoken

extent_says : (what : Amount) (extent : Extent) → AmountFits what extent → Says (extent_text extent) (extent_words extent)
unfolding extent_text
extent_says what (Exactly n) h = whole_says n h.1
extent_says what (AtLeast n) h = search spoken

pub claim_says : (claim : Claim) → ClaimFits claim → Says (claim_text claim) (claim_words claim)
unfolding claim_text
claim_says (claims.Amount what extent) h =
    says_beside (amount_text what) (extent_text extent) (amount_words what) (extent_words extent) (amount_says what)
    (extent_says what extent h)
claim_says _ h = search (spoken, fact_says, numeric_says, message_numeric, reason_says) depth 7

extent_back : (what : Amount) (extent : Extent) → AmountFits what extent → extent_of (extent_words extent) ≡ Ok extent
unfolding extent_of
extent_back what (Exactly n) h =
    rw (numeric_other (decimal n) 62 _ refl (decimal_numeric n (omega arith)), alone_back n _ h.1) refl
extent_back what (AtLeast n) h = rw (alone_back n _ h) refl

counted_back : (what : Amount) (extent : Extent) → AmountFits what extent →
    counted what (codes "count" ∷ extent_words extent) ≡ Some (Ok (claims.Amount what extent))
unfolding counted
counted_back what extent h = rw (extent_back what extent h) refl

at_least_back : (what : Amount) (n : ℕ) → n ≤ max_u32 →
    at_least what (codes ">=" ∷ decimal n ∷ []) ≡ Some (Ok (claims.Amount what (AtLeast n)))
unfolding at_least
at_least_back what n h = rw (alone_back n _ h) refl

amount_back : (what : Amount) (extent : Extent) → AmountFits what extent →
    claim_of (amount_words what ++ extent_words extent) ≡ Ok (claims.Amount what extent)
unfolding claim_of or_fact amount_claim event_claim decided delivered
amount_back amount.Instance (Exactly n) h = absurd h.0
amount_back amount.Round (Exactly n) h = absurd h.0
amount_back amount.Waiting (Exactly n) h = absurd h.0
amount_back _ _ h = first_of (simp at_least_back, simp counted_back)

not_counted : (what : Amount) (word : Word) (words : List Word) → IsNumeric word → counted what (word ∷ words) ≡ None
unfolding counted
not_counted what word words h = rw (numeric_other word 99 _ refl h) refl

got_back : (i : ℕ) → 1 ≤ i → i ≤ max_u32 → claim_of (codes "decided" ∷ decimal i ∷ []) ≡ Ok (claims.Got i)
unfolding claim_of or_fact amount_claim event_claim decided one_instance
got_back i l h = rw (not_counted _ (decimal i) [] (decimal_numeric i (omega arith)), number_in_back 1 max_u32 i (omega arith) l h) refl

word_back : (name : Name) → NameFits name → name_of (message_word name.origin name.number) ≡ Some name
unfolding message_word name_text
word_back name h = name_back name h

order_back : (a b : Name) → NameFits a → NameFits b →
    in_order (message_word a.origin a.number) (message_word b.origin b.number) ≡ Ok (claims.Before a b)
unfolding in_order
order_back a b h k = rw (word_back a h, word_back b k) refl

before_back : (a b : Name) → NameFits a → NameFits b →
    claim_of (codes "delivered" ∷ message_word a.origin a.number ∷ codes "before" ∷ message_word b.origin b.number ∷ []) ≡ Ok
    (claims.Before a b)
unfolding claim_of or_fact amount_claim event_claim delivered before
before_back a b h k =
    rw (not_counted _ (message_word a.origin a.number) _ (message_numeric a.origin a.number h.0 h.1), order_back a b h k) refl

choice_back : (reason : Reason) → IsRules reason →
    claim_of (codes "refuses" ∷ codes "choose" ∷ reason_text reason ∷ []) ≡ Ok (claims.RefusesChoice reason)
unfolding claim_of or_fact amount_claim event_claim refused refused_choice chosen over
choice_back reason h = rw (reason_back reason h) refl

follow_back : (i : ℕ) → 1 ≤ i → i ≤ max_u32 → claim_of (codes "follows" ∷ decimal i ∷ []) ≡ Ok (claims.Follows i)
unfolding claim_of or_fact amount_claim event_claim step_claim followed over
follow_back i l h = rw (number_is_first 1 max_u32 i _ [] (omega arith) l h) refl

pub claim_back : (claim : Claim) → ClaimFits claim → claim_of (claim_words claim) ≡ Ok claim
unfolding claim_of or_fact amount_claim event_claim step_claim word_alone over
claim_back (claims.Fact fact) h = fact_claimed (fact_name fact) (fact_rest fact) fact (only_fact fact h) (fact_back fact h)
claim_back (claims.Amount what extent) h = amount_back what extent h
claim_back (claims.Got i) h = got_back i h.0 h.1
claim_back (claims.Before a b) h = before_back a b h.0 h.1
claim_back (claims.RefusesChoice reason) h = choice_back reason h
claim_back (claims.Follows i) h = follow_back i h.0 h.1
claim_back _ h = refl
