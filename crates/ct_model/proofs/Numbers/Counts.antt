-- One more wire is counted in.
use Rattle.std.proofs.Common.{◌≡◌, ℕ, zero, suc, ◌+◌, ◌≤◌, ◌<◌, Bool, true, false, ◌&&◌, ◌||◌, List, [], ◌∷◌, ◌++◌, filter, filter_map}
use Rattle.std.proofs.Common.{find, map, Option, Some, None, refl, sym, ap, ◌∙◌, arith}
use Rattle.std.specs.Prelude.{◌==◌, if◌then◌else◌}
use Rattle.std.specs.List.{list_any, cons_option}
use Rattle.std.specs.Option.{option_or}
use Rattle.std.proofs.lemmas.Bool.Decides.{nat_tests}
use Rattle.std.proofs.lemmas.List.{append-nil}
use Rattle.std.proofs.lemmas.List.Elements.{filter_map-append, filter_agree}
use Rattle.std.proofs.lemmas.List.Folds.{list_any-append, find-append}
use Rattle.ct_names.specs.declared.limit.TheConstants.{MAX_MEMBERS}
use Rattle.ct_names.specs.Group.{members, everyone, counting, IsMember}
use Rattle.ct_names.specs.MemberSet.{with_member}
use Rattle.ct_names.proofs.Lists
use Rattle.ct_names.proofs.MemberSets.{with_member-filter}
use Rattle.ct_model.specs.Wire.{Wire}
use Rattle.ct_model.specs.declared.wire.Wire.TheVariants.{Ack, Nack}
use Rattle.ct_model.specs.Received.{Heard, Ballots, ballots, estimate_of, heard_from, proposal_of, proposal, is_ack, is_reply}
use Rattle.ct_model.specs.Counted.{no_ballots, with_estimate, count_in, NamesSomebody}
use Rattle.ct_model.specs.Mapped.{wire_map, heard_map, ballots_map}
use Rattle.ct_model.proofs.Basics.Tests.{same_number}

-- the sets of members

-- a set that a test picks, with a member
picked-with : (p : ℕ) (f g : ℕ → Bool) → ((q : ℕ) → g q ≡ (f q || (p == q))) → filter g everyone ≡ with_member (filter f everyone) p
picked-with p f g same =
    filter_agree g (λ q. (q == p) || f q) (λ q. grind (arith, nat_tests, same q)) everyone ∙ sym (with_member-filter f p)

-- the estimates

module _ {V : Type 0} (e : Heard V) where
  -- the estimate, where it is this member's
  abbrev offered : ℕ → Option (Heard V)
  offered q = if e.member == q then Some e else None

  -- what h says of a member is of that member
  abbrev IsOwn : (ℕ → Option (Heard V)) → Type 0
  IsOwn h = (q : ℕ) (x : Heard V) → h q ≡ Some x → x.member ≡ q

  module _ (h : ℕ → Option (Heard V)) (own : IsOwn h) where
    -- what h says of n members from a on, and the same with the estimate
    abbrev old : ℕ → ℕ → List (Heard V)
    old a n = filter_map h (counting a n)

    abbrev new : ℕ → ℕ → List (Heard V)
    new a n = filter_map (λ q. option_or (h q) (offered q)) (counting a n)

    with_estimate-first : (a n : ℕ) → e.member < a → with_estimate e (old a n) ≡ e ∷ old a n
    with_estimate-first a zero lt = refl
    with_estimate-first a (suc n) lt = grind (arith, nat_tests, own, with_estimate-first (a + 1) n (omega arith))

    other_ones : (a n : ℕ) → e.member < a → new a n ≡ old a n
    other_ones a zero lt = refl
    other_ones a (suc n) lt = grind (arith, nat_tests, other_ones (a + 1) n (omega arith))

    with_estimate-picked : (a n : ℕ) → a ≤ e.member → e.member < a + n → with_estimate e (old a n) ≡ new a n
    with_estimate-picked a zero lo hi = absurd (omega arith)
    with_estimate-picked a (suc n) lo hi =
        let later : a + 1 ≤ e.member → with_estimate e (old (a + 1) n) ≡ new (a + 1) n =
        λ above. with_estimate-picked (a + 1) n above (omega arith) in
        grind (arith, nat_tests, own, later, with_estimate-first (a + 1) n, other_ones (a + 1) n)

    -- the estimate joins those heard, unless its member has one
    with_estimate-everyone : IsMember MAX_MEMBERS e.member →
        with_estimate e (filter_map h everyone) ≡ filter_map (λ q. option_or (h q) (offered q)) everyone
    unfolding members
    with_estimate-everyone m = let low : 1 ≤ e.member = m.0 in let high : e.member ≤ 16 = m.1 in with_estimate-picked 1 16 low (omega arith)

-- the parts of the ballots

module _ {V : Type 0} (got : List (Wire V)) (w : Wire V) where
  -- the members of whom a test of wires holds, with p where the wire passes it for p
  set-push : (t : ℕ → Wire V → Bool) (b : Bool) (p : ℕ) → ((q : ℕ) → t q w ≡ (b && (p == q)))
      → filter (λ q. list_any (t q) (got ++ w ∷ [])) everyone
      ≡ (if b then with_member (filter (λ q. list_any (t q) got) everyone) p else filter (λ q. list_any (t q) got) everyone)
  set-push t true p same = picked-with p (λ q. list_any (t q) got) (λ q. list_any (t q) (got ++ w ∷ []))
      (λ q. grind (arith, list_any-append (t q) got (w ∷ []), same q))
  set-push t false p same = filter_agree (λ q. list_any (t q) (got ++ w ∷ [])) (λ q. list_any (t q) got)
      (λ q. grind (arith, list_any-append (t q) got (w ∷ []), same q)) everyone

filter_map_agree : {A B : Type 0} (f g : A → Option B) → ((x : A) → f x ≡ g x) → (xs : List A) → filter_map f xs ≡ filter_map g xs
filter_map_agree f g same [] = refl
filter_map_agree f g same (x ∷ xs) = rw (same x, filter_map_agree f g same xs)

found-own : {V : Type 0} (es : List (Heard V)) (q : ℕ) (x : Heard V) → find (λ e. e.member == q) es ≡ Some x → x.member ≡ q
found-own es q x h = same_number x.member q (Lists.found-find (λ e. e.member == q) x es h).1

-- the estimates with one that may come
abbrev joined_estimates : {V : Type 0} → Option (Heard V) → List (Heard V) → List (Heard V)
joined_estimates None es = es
joined_estimates (Some e) es = with_estimate e es

-- the proposal with one that may come
abbrev joined_proposal : {V : Type 0} → Option V → Option V → Option V
joined_proposal None old = old
joined_proposal (Some v) old = option_or old (Some v)

-- an estimate that is there is of one of everyone
abbrev IsFromEveryone : {V : Type 0} → Option (Heard V) → Type 0
IsFromEveryone {V} o = (e : Heard V) → o ≡ Some e → IsMember MAX_MEMBERS e.member

estimates-push : {V : Type 0} (got : List (Wire V)) (k r : ℕ) (w : Wire V) → IsFromEveryone (estimate_of k r w) →
    filter_map (heard_from (got ++ w ∷ []) k r) everyone ≡ joined_estimates (estimate_of k r w) (filter_map (heard_from got k r) everyone)
estimates-push {V} got k r w from =
    ap (λ es. filter_map (of es) everyone) (filter_map-append (estimate_of k r) got (w ∷ [])) ∙ go (estimate_of k r w) from
  where
    old : List (Heard V)
    old = filter_map (estimate_of k r) got

    of : List (Heard V) → ℕ → Option (Heard V)
    of es p = find (λ e. e.member == p) es

    go : (o : Option (Heard V)) → IsFromEveryone o → filter_map (of (old ++ cons_option o [])) everyone
        ≡ joined_estimates o (filter_map (of old) everyone)
    go None from = ap (λ es. filter_map (of es) everyone) (append-nil old)
    go (Some x) from =
        filter_map_agree (of (old ++ x ∷ [])) (λ p. option_or (of old p) (offered x p)) (λ p. find-append (λ e. e.member == p) old (x ∷ []))
        everyone ∙ sym (with_estimate-everyone x (of old) (found-own old) (from x refl))

proposal-push : {V : Type 0} (got : List (Wire V)) (k r : ℕ) (w : Wire V) →
    proposal (got ++ w ∷ []) k r ≡ joined_proposal (proposal_of k r w) (proposal got k r)
unfolding proposal
proposal-push {V} got k r w = grind (arith, filter_map-append (proposal_of k r) got (w ∷ []))

-- whether the wire acks the round or replies to it, and who it says does
abbrev acks : {V : Type 0} → ℕ → ℕ → Wire V → Bool
acks k r (Ack j s p) = (j == k) && (s == r)
acks k r _ = false

abbrev replies : {V : Type 0} → ℕ → ℕ → Wire V → Bool
replies k r (Ack j s p) = (j == k) && (s == r)
replies k r (Nack j s p) = (j == k) && (s == r)
replies k r _ = false

abbrev voter : {V : Type 0} → Wire V → ℕ
voter (Ack j s p) = p
voter (Nack j s p) = p
voter _ = 1

from_everyone : {V : Type 0} (k r : ℕ) (w : Wire V) → NamesSomebody w → IsFromEveryone (estimate_of k r w)
from_everyone k r w h e is = grind arith

-- the ballots with the wire, part by part
abbrev counted : {V : Type 0} → Ballots V → ℕ → ℕ → Wire V → Ballots V
counted t k r w = record {
  estimates = joined_estimates (estimate_of k r w) t.estimates;
  proposal = joined_proposal (proposal_of k r w) t.proposal;
  acked = if acks k r w then with_member t.acked (voter w) else t.acked;
  replied = if replies k r w then with_member t.replied (voter w) else t.replied;
}

counted-in : {V : Type 0} (t : Ballots V) (k r : ℕ) (w : Wire V) → counted t k r w ≡ count_in t k r w
counted-in t k r w = grind arith

-- the ballots grow by what one more wire counts for
pub ballots-push : {V : Type 0} (got : List (Wire V)) (k r : ℕ) (w : Wire V) → NamesSomebody w →
    ballots (got ++ w ∷ []) k r ≡ count_in (ballots got k r) k r w
unfolding ballots
ballots-push got k r w h =
    let es = estimates-push got k r w (from_everyone k r w h) in
    let v = proposal-push got k r w in
    let acked = set-push got w (is_ack k r) (acks k r w) (voter w) (λ q. grind arith) in
    let replied = set-push got w (is_reply k r) (replies k r w) (voter w) (λ q. grind arith) in
    (λ i. record { estimates = es i; proposal = v i; acked = acked i; replied = replied i }) ∙ counted-in (ballots got k r) k r w

-- before any wire there are none
pub ballots-none : {V : Type 0} (k r : ℕ) → ballots {V = V} [] k r ≡ no_ballots
ballots-none k r = unfold ballots proposal members in refl

-- another type of values counts alike

with_estimate-map : {V U : Type 0} (f : V → U) (e : Heard V) (es : List (Heard V)) →
    with_estimate (heard_map f e) (map (heard_map f) es) ≡ map (heard_map f) (with_estimate e es)
with_estimate-map f e [] = refl
with_estimate-map f e (x ∷ es) = grind (arith, with_estimate-map f e es)

pub count_in-map : {V U : Type 0} (f : V → U) (t : Ballots V) (k r : ℕ) (w : Wire V) →
    count_in (ballots_map f t) k r (wire_map f w) ≡ ballots_map f (count_in t k r w)
count_in-map f t k r w = grind (arith, with_estimate-map f)
