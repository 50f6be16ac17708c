-- Values that are expected, and what is there.
use Rattle.std.proofs.Common.{◌≡◌, ℕ, Bool, true, false, List, [], ◌∷◌, length, map, refl, ap, sym, ◌∙◌, subst, arith, Option, Some, None}
use Rattle.std.proofs.Common.{inl, inr, eqb-true, eq-eqb}
use Rattle.std.proofs.lemmas.List.{length-map}
use Rattle.std.proofs.lemmas.Bool.Decides.{nat_tests}
use Rattle.std.specs.List.{list_all, zip}
use Rattle.std.specs.Option.{option_map_or}
use Rattle.std.specs.Prelude.{◌==◌, ◌&&◌}
use Rattle.ct_names.specs.Membership.{IsIn}
use Rattle.ct_names.specs.Message.{Message}
use Rattle.ct_names.specs.Value.{Value}
use Rattle.ct_names.proofs.Lists.{both-left, both-right, found-list_any, list_any-found, passes-list_all}
use Rattle.ct_model.specs.contracts.phase.PhasePartialEq.TheImpl.{ghosts as phases}
use Rattle.ct_model.specs.declared.phase.Phase.{Phase}
use Rattle.ct_model.specs.declared.wire.Wire.{Wire}
use Rattle.ct_model.specs.Received.{decided}
use Rattle.ct_grammar.specs.contracts.reason.ReasonPartialEq.TheImpl.{ghosts as reasons}
use Rattle.ct_grammar.specs.declared.claim.Name.{Name}
use Rattle.ct_grammar.specs.declared.reports.decision.Decision.{Decision}
use Rattle.ct_grammar.specs.declared.reports.estimate.Estimate.{Estimate}
use Rattle.ct_grammar.specs.declared.reason.Reason.{Reason}
use Rattle.ct_play.specs.Facts.{are_decided, are_named, are_those, decision_count, is_among, is_decided, is_estimate, is_named, the_name}
use Rattle.ct_laws.specs.Expectations.{AreDecided, AreThose, IsDecided}

-- ---- phases and reasons

pub same_phase : (a b : Phase) → phases.eq a b ≡ true → a ≡ b
same_phase a b h = grind arith

pub phase_same : (a : Phase) → phases.eq a a ≡ true
phase_same a = grind arith

pub same_reason : (a b : Reason) → reasons.eq a b ≡ true → a ≡ b
same_reason a b h = grind arith

pub reason_same : (a : Reason) → reasons.eq a a ≡ true
reason_same a = grind arith

-- ---- names in order

one_named : (name : Name) (m : Message) → is_named name m ≡ true → name ≡ the_name m
one_named name m h =
    let origin = eqb-true m.origin name.origin (both-left (m.origin == name.origin) (m.number == name.number) h) in
    let number = eqb-true m.number name.number (both-right (m.origin == name.origin) (m.number == name.number) h) in
    λ i. record { origin = sym origin i; number = sym number i }

self_named : (m : Message) → is_named (the_name m) m ≡ true
self_named m = grind (arith, nat_tests)

abbrev pairs_named : List Name → List Message → Bool
pairs_named names list = list_all (λ pair. is_named pair.0 pair.1) (zip names list)

each_named : (names : List Name) (list : List Message) → length names ≡ length list → pairs_named names list ≡ true →
    names ≡ map the_name list
each_named [] [] few h = refl
each_named [] (m ∷ list) few h = absurd (omega (arith, few))
each_named (name ∷ names) [] few h = absurd (omega (arith, few))
each_named (name ∷ names) (m ∷ list) few h =
    ap (λ (n : Name). n ∷ names) (one_named name m (both-left (is_named name m) (pairs_named names list) h))
    ∙ ap (λ (ns : List Name). the_name m ∷ ns)
    (each_named names list (omega (arith, few)) (both-right (is_named name m) (pairs_named names list) h))

own_names : (list : List Message) → pairs_named (map the_name list) list ≡ true
own_names [] = refl
own_names (m ∷ list) = rw (self_named m) (own_names list)

pub named_so : (names : List Name) (list : List Message) → are_named names list ≡ true → names ≡ map the_name list
named_so names list h =
    let few = length names == length list in
    each_named names list (eqb-true (length names) (length list) (both-left few (pairs_named names list) h))
    (both-right few (pairs_named names list) h)

pub so_named : (names : List Name) (list : List Message) → names ≡ map the_name list → are_named names list ≡ true
so_named names list e =
    subst (λ ns. are_named ns list ≡ true) (sym e)
    (rw (eq-eqb (length (map the_name list)) (length list) (length-map list the_name)) (own_names list))

-- ---- names in any order

among_so : (names : List Name) (m : Message) → is_among names m ≡ true → IsIn (the_name m) names
among_so names m h =
    let f = found-list_any (λ name. is_named name m) names h in
    subst (λ n. IsIn n names) (one_named f.item m f.passes) f.is_in

so_among : (names : List Name) (m : Message) → IsIn (the_name m) names → is_among names m ≡ true
so_among names m h = list_any-found (λ name. is_named name m) (the_name m) names h (self_named m)

all_pass : {A : Type 0} (test : A → Bool) (xs : List A) → ((x : A) → IsIn x xs → test x ≡ true) → list_all test xs ≡ true
all_pass test [] h = refl
all_pass test (x ∷ xs) h = rw (h x (inl refl)) (all_pass test xs (λ y at. h y (inr at)))

pub those_so : (names : List Name) (list : List Message) → are_those names list ≡ true → AreThose names list
those_so names list h =
    let few = length names == length list in
    let all = both-right few (list_all (is_among names) list) h in (
      eqb-true (length names) (length list) (both-left few (list_all (is_among names) list) h),
      λ m at. among_so names m (passes-list_all (is_among names) m list all at),
    )

pub so_those : (names : List Name) (list : List Message) → AreThose names list → are_those names list ≡ true
so_those names list h =
    rw (eq-eqb (length names) (length list) h.0) (all_pass (is_among names) list (λ m at. so_among names m (h.1 m at)))

-- ---- decisions

decided_by : (o : Option Value) (d : Decision) → option_map_or (are_those d.names) o false ≡ true →
    (v : Value) × (o ≡ Some v) × AreThose d.names v
decided_by None d h = absurd (cc h)
decided_by (Some v) d h = (v, refl, those_so d.names v h)

pub decided_so : (got : List (Wire Value)) (decisions : List Decision) → are_decided got decisions ≡ true → AreDecided got decisions
decided_so got decisions h =
    let count = decision_count got == length decisions in
    let all = both-left (list_all (is_decided got) decisions) count h in (
      λ d at. decided_by (decided got d.instance) d (passes-list_all (is_decided got) d decisions all at),
      eqb-true (decision_count got) (length decisions) (both-right (list_all (is_decided got) decisions) count h),
    )

one_decided : (got : List (Wire Value)) (d : Decision) → IsDecided got d → is_decided got d ≡ true
one_decided got d h = ap (λ o. option_map_or (are_those d.names) o false) h.1 ∙ so_those d.names h.0 h.2

pub so_decided : (got : List (Wire Value)) (decisions : List Decision) → AreDecided got decisions → are_decided got decisions ≡ true
so_decided got decisions h =
    rw (
      all_pass (is_decided got) decisions (λ d at. one_decided got d (h.0 d at)),
      eq-eqb (decision_count got) (length decisions) h.1,
    ) refl

-- ---- estimates

-- the estimate that is there is the one that is expected
abbrev pub IsThisEstimate : Value × ℕ → Option Estimate → Type 0
IsThisEstimate there estimate = (e : Estimate) × (estimate ≡ Some e) × AreThose e.names there.0 × (e.ts ≡ there.1)

pub none_expected : (estimate : Option Estimate) → is_estimate None estimate ≡ true → estimate ≡ None
none_expected None h = refl
none_expected (Some e) h = absurd (cc h)

pub estimate_so : (there : Value × ℕ) (estimate : Option Estimate) → is_estimate (Some there) estimate ≡ true →
    IsThisEstimate there estimate
estimate_so there None h = absurd (cc h)
estimate_so there (Some e) h =
    let names = are_those e.names there.0 in
    let same = eqb-true there.1 e.ts (both-right names (there.1 == e.ts) h) in
    (e, refl, those_so e.names there.0 (both-left names (there.1 == e.ts) h), sym same)

pub so_estimate : (there : Value × ℕ) (estimate : Option Estimate) → IsThisEstimate there estimate →
    is_estimate (Some there) estimate ≡ true
so_estimate there estimate h =
    ap (is_estimate (Some there)) h.1
    ∙ rw (so_those h.0.names there.0 h.2, eq-eqb there.1 h.0.ts (sym h.3)) refl
