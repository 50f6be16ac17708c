-- Steps that fit, one more each time.
use Rattle.ct_records.proofs.Common.{ℕ, ◌+◌, ◌<◌, ◌≤◌, List, [], ◌∷◌, ◌++◌, length, take, get_or, subst, take_more, take_all, Step}
use Rattle.ct_records.proofs.Common.{StepFits, AllFit}

pub fit_push : (ss : List Step) (s : Step) → AllFit ss → StepFits s → AllFit (ss ++ s ∷ [])
fit_push [] s h k = (k, tt)
fit_push (t ∷ ss) s h k = (h.0, fit_push ss s h.1 k)

pub fit_more : (ss : List Step) (i : ℕ) (d : Step) → i < length ss → StepFits (get_or ss i d) → AllFit (take i ss) →
    AllFit (take (i + 1) ss)
fit_more ss i d lt k h = rw (take_more ss i d lt) (fit_push (take i ss) (get_or ss i d) h k)

pub fit_all : (ss : List Step) (i : ℕ) → length ss ≤ i → AllFit (take i ss) → AllFit ss
fit_all ss i le h = subst AllFit (take_all i ss le) h
