-- As many rounds as a record may have steps: a further one changes nothing.
use Rattle.std.proofs.Common.{◌≡◌, ◌⊎◌, ℕ, zero, suc, ◌≤◌, List, Ok, refl, ap, sym, ◌∙◌, inl, inr, arith}
use Rattle.std.proofs.lemmas.Bool.{cases_eq}
use Rattle.ct_names.specs.declared.limit.TheConstants.{MAX_STEPS}
use Rattle.ct_names.specs.Group.{members}
use Rattle.ct_model.specs.Lawful.{IsLawful}
use Rattle.ct_grammar.specs.declared.play.Play.{Play}
use Rattle.ct_grammar.specs.declared.play.Play.TheVariants.{Turns}
use Rattle.ct_grammar.specs.declared.who.Who.TheVariants.{All}
use Rattle.ct_play.specs.Played.{Played}
use Rattle.ct_play.specs.Playing.{played}
use Rattle.ct_play.specs.Turning.{after_round, after_rounds, after_turn}
use Rattle.ct_play.proofs.Trying.{no_rounds, one_more}
use Rattle.ct_settled.proofs.Still.{AreTurns, grows, lawful_round, lawful_rounds, steps, still, turns_turns}
use Rattle.ct_settled.proofs.Turned.{comes_to, line_later}

module _ (line : Play) (set : List ℕ) (are : AreTurns line set) (ps : List ℕ) (s : Played) where
  abbrev after : ℕ → Played
  after k = after_rounds line ps s k

  -- nothing moves any more, or a step joined the record in each round
  abbrev HasMoved : ℕ → Type 0
  HasMoved k = (after_round line ps (after k) ≡ after k) ⊎ (k ≤ steps (after k))

  moved_more : (k : ℕ) (t : Played) → t ≡ after_round line ps (after k) → HasMoved k → (after_round line ps t ≡ t) ⊎ (suc k ≤ steps t)
  moved_more k t e (inl same) = inl (ap (after_round line ps) (e ∙ same) ∙ sym e)
  moved_more k t e (inr many) = elim (cases_eq (steps (after_round line ps (after k))) (steps (after k))) [
    | inl equal ↦
        let same = (still line set are ps (after k) equal).same in
        inl (ap (after_round line ps) (e ∙ same) ∙ sym e)
    | inr other ↦
        let more = grows line set are ps (after k) in
        let at : steps t ≡ steps (after_round line ps (after k)) = ap steps e in
        inr (omega arith)
  ]

  moved : (k : ℕ) → HasMoved k
  moved zero = inr (omega arith)
  moved (suc k) = moved_more k (after (suc k)) (one_more line ps s k) (moved k)

  ended : (n : ℕ) → MAX_STEPS ≤ n → IsLawful s.rehearsal → after_round line ps (after n) ≡ after n
  ended n many law = elim (moved n) [
    | inl same ↦ same
    | inr full ↦
        let few = (lawful_round line set are ps (after n) (lawful_rounds line set are ps s n law)).within.few_steps in
        let more = grows line set are ps (after n) in
        (still line set are ps (after n) (omega arith)).same
  ]

same_round : (n m : ℕ) (set : List ℕ) (ps : List ℕ) (t : Played) →
    after_round (Turns All m set) ps t ≡ after_round (Turns All n set) ps t
unfolding after_turn
same_round n m set ps t = refl

-- so the line of one more round leaves all as it is
pub ends : (s t : Played) (n : ℕ) (set : List ℕ) → MAX_STEPS ≤ n → IsLawful s.rehearsal → played s (Turns All n set) ≡ Ok t →
    played t (Turns All 1 set) ≡ Ok t
ends s t n set many law e =
    let ps = members s.rehearsal.setting.members in
    let one = Turns All 1 set in
    let is : t ≡ after_rounds (Turns All n set) ps s n = (let is = comes_to s n set in cc) in
    let fixed : t.rehearsal.setting ≡ s.rehearsal.setting = ap (λ (u : Played). u.rehearsal.setting) (line_later s t n set e).is in
    let still = ended (Turns All n set) set (turns_turns All n set) ps s n many law in
    comes_to t 1 set
    ∙ (ap (λ g. Ok (after_rounds one (members g.members) t 1)) fixed
    ∙ ap Ok (one_more one ps t 0 ∙ (ap (after_round one ps) (no_rounds one ps t)
    ∙ (same_round n 1 set ps t ∙ (ap (after_round (Turns All n set) ps) is ∙ (still ∙ sym is))))))
