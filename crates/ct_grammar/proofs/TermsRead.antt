-- The terms of goals, one by one.
use Rattle.std.proofs.Common.{◌≡◌, ◌<◌, List, [], ◌∷◌, ◌++◌, Ok, Err, length, ap, sym, refl, ◌∙◌, append_assoc, arith}
use Rattle.std.specs.Prelude.{Result}
use Rattle.std.proofs.lemmas.List.Splits.{length-slice_split}
use Rattle.ct_grammar.specs.declared.misfit.Misfit.{Misfit}
use Rattle.ct_grammar.specs.declared.term.Term.{Term}
use Rattle.ct_grammar.specs.Words.{Word}
use Rattle.ct_grammar.specs.Goals.{is_and, term_of, parts_of, terms_of, told_before_and}
use Rattle.ct_grammar.specs.Unfits.{◌>>=◌}

-- these terms, and the others behind them
abbrev pub behind_terms : List Term → Result (List Term) Misfit → Result (List Term) Misfit
behind_terms terms (Ok others) = Ok (terms ++ others)
behind_terms terms (Err misfit) = Err misfit

-- a part with others behind it
before_others : (part : List Word) (parts : List (List Word)) → 0 < length parts →
    terms_of (part ∷ parts) ≡ (told_before_and part (term_of part) >>= (λ term. terms_of parts >>= (λ terms. Ok (term ∷ terms))))
before_others part [] h = absurd (omega arith)
before_others part (next ∷ parts) h = refl

-- the first of the parts
first_of : (words part behind : List Word) (first : Result Term Misfit) → parts_of words ≡ part ∷ parts_of behind →
    first ≡ told_before_and part (term_of part) →
    terms_of (parts_of words) ≡ (first >>= (λ term. terms_of (parts_of behind) >>= (λ terms. Ok (term ∷ terms))))
first_of words part behind first e found =
    ap terms_of e ∙ rw found (before_others part (parts_of behind) (omega (arith, length-slice_split is_and behind)))

one_more : (terms : List Term) (term : Term) (others : Result (List Term) Misfit) →
    behind_terms (terms ++ term ∷ []) others ≡ behind_terms terms (others >>= (λ more. Ok (term ∷ more)))
one_more terms term (Ok others) = ap Ok (append_assoc terms (term ∷ []) others)
one_more terms term (Err misfit) = refl

pub term_read : (words part behind : List Word) (terms : List Term) (term : Term) → parts_of words ≡ part ∷ parts_of behind →
    Ok term ≡ told_before_and part (term_of part) →
    behind_terms (terms ++ term ∷ []) (terms_of (parts_of behind)) ≡ behind_terms terms (terms_of (parts_of words))
term_read words part behind terms term e found =
    one_more terms term (terms_of (parts_of behind)) ∙ sym (ap (behind_terms terms) (first_of words part behind (Ok term) e found))

pub misfit_read : (words part behind : List Word) (terms : List Term) (misfit : Misfit) → parts_of words ≡ part ∷ parts_of behind →
    Err misfit ≡ told_before_and part (term_of part) → Err misfit ≡ behind_terms terms (terms_of (parts_of words))
misfit_read words part behind terms misfit e found =
    sym (ap (behind_terms terms) (first_of words part behind (Err misfit) e found))
