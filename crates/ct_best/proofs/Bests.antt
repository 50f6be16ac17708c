-- A search for the smallest run that fails.
use Rattle.std.specs.List.{AllZip}
use Rattle.std.specs.Prelude.{option_map, slice_get, IfErr, IsErrAnd}
use Rattle.std.proofs.Common.{◌≡◌, ◌∙◌, ◌<◌, ℕ, zero, suc, List, [], ◌∷◌, Option, None, Result, Ok, Err, get_or, length, take}
use Rattle.std.proofs.Common.{ap, arith, refl, subst, sym}
use Rattle.std.proofs.lemmas.Option.{get_or_from_slice_get, slice_get-get_or}
use Rattle.ct_grammar.specs.declared.goal.Goal.{Goal}
use Rattle.ct_shrink.specs.declared.options.ShrinkOptions.{ShrinkOptions}
use Rattle.ct_walk.specs.declared.call.Seeds.{Seeds}
use Rattle.ct_walk.specs.declared.fault.WalkFault.{WalkFault}
use Rattle.ct_walk.specs.declared.options.WalkOptions.{WalkOptions}
use Rattle.ct_walk.specs.Faults.{IsShort}
use Rattle.ct_walk.specs.Finding.{first_of}
use Rattle.ct_best.specs.declared.fault.BestFault.{BestFault}
use Rattle.ct_best.specs.declared.fault.BestFault.TheVariants.{Walk}
use Rattle.ct_find.specs.declared.hit.Hit.{Hit}
use Rattle.ct_best.specs.declared.shrinking.Left.{Left}
use Rattle.ct_best.specs.declared.smaller_walk.SmallerWalk.{SmallerWalk}
use Rattle.ct_best.specs.Best.{run_of, FailsOn, FailsOnOne, IsBest, IsToldOf}
use Rattle.ct_find.specs.Hits.{hits_of}
use Rattle.ct_find.proofs.Hits.{first_hit}

-- a fault that is handed on
pub handed : {T : Type 0} (P : BestFault → Type 0) (r : Result T BestFault) (fault : BestFault) → IsErrAnd r (λ e. e ≡ fault) → P fault →
    IfErr r P
handed P (Ok x) fault same h = tt
handed P (Err e) fault same h = subst P (sym same) h

-- there is none where there are no hits
pub no_hits : {A B : Type 0} (R : A → B → Type 0) (xs : List A) (ys : List B) → ys ≡ [] → AllZip R xs ys → xs ≡ []
no_hits R [] ys none all = refl
no_hits R (x ∷ xs) [] none all = absurd all
no_hits R (x ∷ xs) (y ∷ ys) none all = absurd (cc none)

pub best_none : (o : WalkOptions) (goal : Goal) (shrink : ShrinkOptions) (hits : List Hit) (walks : List SmallerWalk) (best : Option Left) →
    best ≡ None → AllZip (IsToldOf o goal shrink) hits walks → IsBest o goal shrink walks (option_map run_of best) → hits ≡ []
best_none o goal shrink hits walks best is all none =
    no_hits (IsToldOf o goal shrink) hits walks
    (subst (λ (b : Option Left). IsBest o goal shrink walks (option_map run_of b)) is none) all

no_first : (hits : List Hit) (count : ℕ) → take count hits ≡ [] → 0 < count → take 1 hits ≡ []
no_first [] count none some = refl
no_first (hit ∷ hits) zero none some = absurd (omega (arith, some))
no_first (hit ∷ hits) (suc count) none some = absurd (omega (arith, ap length none))

pub none_first : (o : WalkOptions) (goal : Goal) (seeds : Seeds) (count : ℕ) (hits : List Hit) →
    hits ≡ take count (hits_of o goal seeds) → hits ≡ [] → 0 < count → first_of o goal seeds ≡ None
none_first o goal seeds count hits same none some =
    sym (first_hit o goal _ seeds.first)
    ∙ ap (λ found. option_map (λ (hit : Hit). hit.seed) (slice_get found 0)) (no_first (hits_of o goal seeds) count (sym same ∙ none) some)

-- one of the hits fails
pub one_fails : (o : WalkOptions) (goal : Goal) (hits : List Hit) (i : ℕ) (d : Hit) (fault : BestFault) → i < length hits →
    FailsOn o goal (get_or hits i d) fault → FailsOnOne o goal hits fault
one_fails o goal hits i d fault inside fails =
    let hit = get_or hits i d in
    (hit, (i, inside, get_or_from_slice_get hits i hit hit (slice_get-get_or hits i d inside)), fails)

-- memory or the board is short beside one of the hits
pub short_fails : (o : WalkOptions) (goal : Goal) (hits : List Hit) (i : ℕ) (fault : WalkFault) → i < length hits → IsShort fault →
    FailsOnOne o goal hits (Walk fault)
short_fails o goal [] i fault inside short = absurd (omega (arith, inside))
short_fails o goal (hit ∷ hits) i fault inside short = (hit, (0, omega arith, refl), short)
