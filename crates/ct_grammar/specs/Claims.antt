-- What goals say of members, in words.
use Rattle.std.specs.Prelude.{ℕ, length, List, [], ◌∷◌, Option, Some, None, option_map, is_some, Result, Ok, Err, codes, if◌then◌else◌}
use Rattle.std.specs.Option.{ok_or}
use Rattle.std.specs.Str.{bytes_eq}
use Rattle.ct_grammar.specs.declared.claim.Amount.{Amount}
use Rattle.ct_grammar.specs.declared.claim.Amount.TheVariants as amount
use Rattle.ct_grammar.specs.declared.claim.Claim.{Claim}
use Rattle.ct_grammar.specs.declared.claim.Claim.TheVariants as claims
use Rattle.ct_grammar.specs.declared.claim.Extent.{Extent}
use Rattle.ct_grammar.specs.declared.claim.Extent.TheVariants.{Exactly, AtLeast}
use Rattle.ct_grammar.specs.declared.reason.Reason.{Reason}
use Rattle.ct_grammar.specs.declared.unfit.Unfit.{Unfit}
use Rattle.ct_grammar.specs.declared.unfit.Unfit.TheVariants.{End, Word as Other}
use Rattle.ct_grammar.specs.declared.wanted.Wanted.{Wanted}
use Rattle.ct_grammar.specs.declared.wanted.Wanted.TheVariants as wanted
use Rattle.ct_grammar.specs.Words.{Word}
use Rattle.ct_grammar.specs.Unfits.{◌>>=◌, map_ok}
use Rattle.ct_grammar.specs.Names.{name_of}
use Rattle.ct_grammar.specs.Numbers.{number_in, number_of, max_u8, max_u32}
use Rattle.ct_grammar.specs.Leading.{behind_term, lone_whole, number_first, over}
use Rattle.ct_grammar.specs.Reasons.{reason_of}
use Rattle.ct_grammar.specs.Facts.{named_fact}

-- ---- amounts

-- a number, or `>=` and a number, alone
unfoldable pub extent_of : List Word → Result Extent Unfit
extent_of [] = Err (End wanted.Extent)
extent_of (word ∷ words) =
    if bytes_eq word (codes ">=") then map_ok AtLeast (lone_whole wanted.Count words) else (
    map_ok Exactly (lone_whole wanted.Extent (word ∷ words)))

-- the amount behind `count`; None where no `count` stands there
unfoldable pub counted : Amount → List Word → Option (Result Claim Unfit)
counted what [] = None
counted what (word ∷ words) = if bytes_eq word (codes "count") then Some (map_ok (claims.Amount what) (extent_of words)) else None

-- at least the number behind `>=`; None where no `>=` stands there
unfoldable pub at_least : Amount → List Word → Option (Result Claim Unfit)
at_least what [] = None
at_least what (word ∷ words) =
    if bytes_eq word (codes ">=") then Some (map_ok (λ n. claims.Amount what (AtLeast n)) (lone_whole wanted.Count words)) else None

-- ---- decisions and deliveries

-- an instance alone
unfoldable pub one_instance : List Word → Option ℕ
one_instance [] = None
one_instance (word ∷ []) = number_in 1 max_u32 word
one_instance (word ∷ next ∷ words) = None

-- how many decisions it got, or the decision of an instance; None where it is what the report says of the decisions
unfoldable pub decided : Option (Result Claim Unfit) → List Word → Option (Result Claim Unfit)
decided (Some count) words = Some count
decided None words = option_map (λ i. Ok (claims.Got i)) (one_instance words)

-- the two messages of these names, in this order
unfoldable pub in_order : Word → Word → Result Claim Unfit
in_order first second = do
  a ← ok_or (name_of first) (Other 2 wanted.Message)
  b ← ok_or (name_of second) (Other 0 wanted.Message)
  Ok (claims.Before a b)

-- a message before another: three words, `before` between two names; None where it is something else
unfoldable pub before : List Word → Option (Result Claim Unfit)
before [] = None
before (first ∷ []) = None
before (first ∷ middle ∷ []) = None
before (first ∷ middle ∷ second ∷ []) = if bytes_eq middle (codes "before") then Some (in_order first second) else None
before (first ∷ middle ∷ second ∷ next ∷ words) = None

-- how many messages it delivered, or one before another; None where it is what the report says of them
unfoldable pub delivered : Option (Result Claim Unfit) → List Word → Option (Result Claim Unfit)
delivered (Some count) words = Some count
delivered None words = before words

-- ---- choices that would be refused

-- the reason, alone, where the word is one; None where it is a member
unfoldable pub chosen : Option Reason → Word → List Word → Option (Result Claim Unfit)
chosen (Some reason) word words = Some (map_ok (λ _. claims.RefusesChoice reason) (over (behind_term wanted.Nothing words) words))
chosen None word words = if is_some (number_of max_u8 word) then None else Some (Err (Other (length words) wanted.Chosen))

-- what stands behind `refuses choose`, where it is no member
unfoldable pub refused_choice : List Word → Option (Result Claim Unfit)
refused_choice [] = Some (Err (End wanted.Chosen))
refused_choice (word ∷ words) = chosen (reason_of word) word words

-- the reason for which each choice would be refused; None where it is an act that is refused
unfoldable pub refused : List Word → Option (Result Claim Unfit)
refused [] = None
refused (word ∷ words) = if bytes_eq word (codes "choose") then refused_choice words else None

-- ---- last steps, and where the group stands

-- this word alone, and what it claims
unfoldable pub word_alone : Word → Wanted → Claim → List Word → Result Claim Unfit
word_alone name what claim [] = Err (End what)
word_alone name what claim (word ∷ words) =
    if bytes_eq word name then map_ok (λ _. claim) (over (behind_term wanted.Nothing words) words) else Err (Other (length words) what)

-- the follow of an instance, alone
unfoldable pub followed : List Word → Result Claim Unfit
followed words = do
  r ← number_first 1 max_u32 wanted.Instance words
  _ ← over (behind_term wanted.Nothing r.1) r.1
  Ok (claims.Follows r.0)

-- what is claimed, where no words stand behind it
abbrev pub lone_claim : Claim → List Word → Result Claim Unfit
lone_claim claim words = map_ok (λ _. claim) (over (behind_term wanted.Nothing words) words)

-- what is claimed of the last step of a member, or of where the group stands; None where it is something else
unfoldable pub step_claim : Word → List Word → Option (Result Claim Unfit)
step_claim name words =
    if bytes_eq name (codes "suspects") then Some (word_alone (codes "up") wanted.Up claims.SuspectsUp words) else (
    if bytes_eq name (codes "follows") then Some (followed words) else (
    if bytes_eq name (codes "chooses") then Some (word_alone (codes "unseen") wanted.Unseen claims.ChoosesUnseen words) else (
    if bytes_eq name (codes "concludes") then Some (word_alone (codes "again") wanted.Again claims.ConcludesAgain words) else (
    if bytes_eq name (codes "settled") then Some (lone_claim claims.Settled words) else (
    if bytes_eq name (codes "stuck") then Some (lone_claim claims.Stuck words) else None)))))

-- ---- all of them

-- decisions, deliveries and choices that would be refused; otherwise what is claimed of the last step
unfoldable pub event_claim : Word → List Word → Option (Result Claim Unfit)
event_claim name words =
    if bytes_eq name (codes "decided") then decided (counted amount.Decided words) words else (
    if bytes_eq name (codes "delivered") then delivered (counted amount.Delivered words) words else (
    if bytes_eq name (codes "refuses") then refused words else step_claim name words))

-- amounts; otherwise decisions and the others. None where it is a fact
unfoldable pub amount_claim : Word → List Word → Option (Result Claim Unfit)
amount_claim name words =
    if bytes_eq name (codes "instance") then at_least amount.Instance words else (
    if bytes_eq name (codes "round") then at_least amount.Round words else (
    if bytes_eq name (codes "waiting") then at_least amount.Waiting words else (
    if bytes_eq name (codes "received") then counted amount.Received words else event_claim name words)))

-- the claim, where it is no fact; otherwise a fact
unfoldable pub or_fact : Option (Result Claim Unfit) → Word → List Word → Result Claim Unfit
or_fact (Some claim) name words = claim
or_fact None name words = map_ok claims.Fact (named_fact name words)

-- what is claimed of a member
unfoldable pub claim_of : List Word → Result Claim Unfit
claim_of [] = Err (End wanted.Fact)
claim_of (name ∷ words) = or_fact (amount_claim name words) name words
