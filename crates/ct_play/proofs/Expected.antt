-- What goals ask for, one term more at a time.
use Rattle.std.proofs.Common.{◌≡◌, ℕ, ◌+◌, ◌<◌, Bool, true, false, not, List, Some, None}
use Rattle.std.proofs.Common.{ap, sym, ◌∙◌, arith, take, get_or, length}
use Rattle.std.specs.Prelude.{find}
use Rattle.ct_grammar.specs.declared.term.Term.{Term}
use Rattle.ct_play.specs.Expecting.{unmet}
use Rattle.ct_play.specs.Goals.{is_met}
use Rattle.ct_play.specs.Played.{Played}
use Rattle.ct_play.proofs.Finding.{found_here, passed_over}

-- ---- the first term that does not hold

read_here : (ts us : List Term) (i : ℕ) (t : Term) → us ≡ ts → t ≡ get_or us i t → t ≡ get_or ts i t
read_here ts us i t same here = here ∙ ap (λ l. get_or l i t) same

-- it is here
pub unmet_here : (s : Played) (ts us : List Term) (i : ℕ) (t : Term) (met : Bool) → us ≡ ts → i < length us → t ≡ get_or us i t →
    met ≡ is_met s t → met ≡ false → find (λ t. not (is_met s t)) (take i ts) ≡ None → Some t ≡ unmet s ts
unfolding unmet
unmet_here s ts us i t met same lt here of not_met before =
    let within : i < length ts = omega (arith, ap length same) in
    let read = read_here ts us i t same here in
    ap Some read
    ∙ sym (found_here (λ t. not (is_met s t)) ts i t within before
    (ap (λ (t : Term). not (is_met s t)) (sym read) ∙ ap not (sym of ∙ not_met)))

-- this one holds
pub met_here : (s : Played) (ts us : List Term) (i : ℕ) (t : Term) (met : Bool) → us ≡ ts → i < length us → t ≡ get_or us i t →
    met ≡ is_met s t → met ≡ true → find (λ t. not (is_met s t)) (take i ts) ≡ None → find (λ t. not (is_met s t)) (take (i + 1) ts) ≡ None
met_here s ts us i t met same lt here of is before =
    let within : i < length ts = omega (arith, ap length same) in
    passed_over (λ t. not (is_met s t)) ts i t within before
    (ap (λ (t : Term). not (is_met s t)) (sym (read_here ts us i t same here)) ∙ ap not (sym of ∙ is))
