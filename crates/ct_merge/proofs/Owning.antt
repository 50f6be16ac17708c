-- The own steps of members after one step more.
use Rattle.ct_merge.proofs.Common.{◌≡◌, ℕ, ◌+◌, Bool, true, false, List, [], ◌∷◌, ◌++◌, ap, sym, ◌∙◌, append-nil, append_assoc, length}
use Rattle.ct_merge.proofs.Common.{length-append, filter, if◌then◌else◌, filter-append, Rehearsal, empty, extended, Step, Moment, is_own}
use Rattle.ct_merge.specs.Logs.{moments, own}

-- the record with these steps behind its own
abbrev pub longer : Rehearsal → List Step → Rehearsal
longer w steps = record w { steps = w.steps ++ steps }

abbrev pub at : Rehearsal → Step → Moment
at w step = record { before = w; step = step }

moments_more : (w : Rehearsal) (steps : List Step) (step : Step) →
    moments w (steps ++ step ∷ []) ≡ moments w steps ++ at (longer w steps) step ∷ []
unfolding moments
moments_more w [] step = ap (λ (l : List Step). at (record w { steps = l }) step ∷ []) (sym (append-nil w.steps))
moments_more w (first ∷ steps) step =
    ap (λ (l : List Moment). at w first ∷ l) (moments_more (extended w first) steps step)
    ∙ ap (λ (l : List Step). at w first ∷ moments (extended w first) steps ++ at (record w { steps = l }) step ∷ [])
    (append_assoc w.steps (first ∷ []) steps)

abbrev pub only : Bool → Moment → List Moment
only b m = if b then m ∷ [] else []

pub own_more : (w : Rehearsal) (p : ℕ) (step : Step) → own (extended w step) p ≡ own w p ++ only (is_own p (at w step)) (at w step)
unfolding own
own_more w p step =
    ap (filter (is_own p)) (moments_more (empty w.setting w.cells) w.steps step)
    ∙ filter-append (is_own p) (moments (empty w.setting w.cells) w.steps) (at w step ∷ [])

-- a step of p's own joins p's own steps
pub own_joins : (w : Rehearsal) (p : ℕ) (step : Step) → is_own p (at w step) ≡ true →
    own (extended w step) p ≡ own w p ++ at w step ∷ []
own_joins w p step e = own_more w p step ∙ ap (λ b. own w p ++ only b (at w step)) e

-- another doesn't
pub own_stays : (w : Rehearsal) (p : ℕ) (step : Step) → is_own p (at w step) ≡ false → own (extended w step) p ≡ own w p
own_stays w p step e = own_more w p step ∙ (ap (λ b. own w p ++ only b (at w step)) e ∙ append-nil (own w p))

pub own_grown : (w : Rehearsal) (p : ℕ) (step : Step) (b : Bool) → is_own p (at w step) ≡ b →
    length (own (extended w step) p) ≡ length (own w p) + length (only b (at w step))
own_grown w p step b is =
    ap length (own_more w p step) ∙ (ap (λ b. length (own w p ++ only b (at w step))) is ∙ length-append (own w p) (only b (at w step)))
