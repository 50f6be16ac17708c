-- Folds that a fault ends.
use Rattle.std.proofs.Common.{◌≡◌, ℕ, ◌<◌, List, length, take, get_or, Ok, Err, Result, ap, sym, ◌∙◌, refl}
use Rattle.std.specs.Prelude.{fold}
use Rattle.std.proofs.lemmas.List.Folds.{fold_stuck}
use Rattle.ct_play.specs.declared.line_fault.LineFault.{LineFault}
use Rattle.ct_play.specs.Acting.{go_on}
use Rattle.ct_play.specs.Faults.{IsFaultOf}
use Rattle.ct_play.proofs.Faulty.{fault_by}

-- one element after another, up to a fault
abbrev pub each : {A X : Type 0} → (A → X → Result A LineFault) → A → List X → Result A LineFault
each f a xs = fold (λ r x. go_on r (λ t. f t x)) (Ok a) xs

-- the fault of one element is that of all
pub each_failed : {A X : Type 0} (f : A → X → Result A LineFault) (a b : A) (xs : List X) (i : ℕ) (d : X) (fault : LineFault) →
    i < length xs → each f a (take i xs) ≡ Ok b → IsFaultOf (f b (get_or xs i d)) fault → IsFaultOf (each f a xs) fault
each_failed f a b xs i d fault lt before h =
    fault_by (f b (get_or xs i d)) (each f a xs) fault
    (λ e. sym (fold_stuck (λ r x. go_on r (λ t. f t x)) (Err fault) (λ x. refl) (Ok a) xs i d lt
    (ap (λ r. go_on r (λ t. f t (get_or xs i d))) before ∙ e))) h
