-- A round in which nothing moved: what each turn of it tried is refused.
use Rattle.std.proofs.Common.{◌≡◌, ℕ, zero, suc, ◌≤◌, ◌<◌, List, [], ◌∷◌, length, Option, Some, None, Ok, refl}
use Rattle.std.proofs.Common.{◌⊎◌, eqb-true, arith}
use Rattle.std.proofs.lemmas.List.{length-append}
use Rattle.ct_names.specs.Membership.{IsIn}
use Rattle.ct_model.specs.Cause.{cause}
use Rattle.ct_model.specs.Lawful.{IsLawful}
use Rattle.ct_model.specs.declared.step.Step.{Step}
use Rattle.ct_model.proofs.Record.Allowed.{allowed-lawful, cause-allowed}
use Rattle.ct_grammar.specs.declared.play.Play.{Play}
use Rattle.ct_grammar.specs.declared.play.Play.TheVariants.{Settle, Turns}
use Rattle.ct_grammar.specs.declared.who.Who.{Who}
use Rattle.ct_play.specs.Acting.{go_on}
use Rattle.ct_play.specs.Played.{Played}
use Rattle.ct_play.specs.Playing.{played}
use Rattle.ct_play.specs.Turning.{tried_at, after_attempt, after_turn, after_round, after_rounds, after_last, rested, settled}
use Rattle.ct_play.specs.Who.{known, named, stranger, unless_strange}

-- this is no step that is allowed
abbrev pub IsRefused : Played → Option Step → Type 0
IsRefused s o = (step : Step) → o ≡ Some step → cause s.rehearsal step ≡ None → ⊥

-- how many steps there are
abbrev pub steps : Played → ℕ
steps s = length s.rehearsal.steps

-- a step that is tried is refused, and changes nothing, or it is allowed, and joins the record
abbrev HasTried : Played → Option Step → Played → Type 0
HasTried s o t = ((t ≡ s) × IsRefused s o) ⊎ ((steps s < steps t) × (IsLawful s.rehearsal → IsLawful t.rehearsal))

attempt : (s : Played) (o : Option Step) → HasTried s o (after_attempt s o)
attempt s o = grind (arith, length-append, allowed-lawful, cause-allowed)

-- a line whose turns are those of drivers that suspect these
abbrev pub AreTurns : Play → List ℕ → Type 0
AreTurns line set = (s : Played) (p : ℕ) → after_turn line s p ≡ after_attempt s (tried_at s p set)

pub settle_turns : (who : Who) (set : List ℕ) → AreTurns (Settle who set) set
unfolding after_turn
settle_turns who set s p = refl

pub turns_turns : (who : Who) (n : ℕ) (set : List ℕ) → AreTurns (Turns who n set) set
unfolding after_turn
turns_turns who n set s p = refl

module _ (line : Play) (set : List ℕ) (are : AreTurns line set) where
  turn : (s : Played) (p : ℕ) → HasTried s (tried_at s p set) (after_turn line s p)
  turn s p = rw (are s p) (attempt s (tried_at s p set))

  pub lawful_round : (ps : List ℕ) (s : Played) → IsLawful s.rehearsal → IsLawful (after_round line ps s).rehearsal
  lawful_round [] s law = law
  lawful_round (p ∷ ps) s law = grind (arith, turn s p, lawful_round ps (after_turn line s p))

  pub lawful_rounds : (ps : List ℕ) (s : Played) (n : ℕ) → IsLawful s.rehearsal → IsLawful (after_rounds line ps s n).rehearsal
  unfolding after_rounds
  lawful_rounds ps s zero law = law
  lawful_rounds ps s (suc n) law = lawful_round ps (after_rounds line ps s n) (lawful_rounds ps s n law)

  pub grows : (ps : List ℕ) (s : Played) → steps s ≤ steps (after_round line ps s)
  grows [] s = omega arith
  grows (p ∷ ps) s = grind (arith, turn s p, grows ps (after_turn line s p))

  -- nothing moved in the round
  pub record IsStill (ps : List ℕ) (s : Played) : Type 0 where
    pub same : after_round line ps s ≡ s
    pub refused : (p : ℕ) → IsIn p ps → IsRefused s (tried_at s p set)

  pub still : (ps : List ℕ) (s : Played) → steps (after_round line ps s) ≡ steps s → IsStill ps s
  still [] s e = record { same = refl; refused = λ p h. absurd h }
  still (q ∷ ps) s e = grind (arith, turn s q, still ps s, grows ps (after_turn line s q))

module _ (who : Who) (set : List ℕ) where
  abbrev line : Play
  line = Settle who set

  -- the record is one that a world keeps, and what each turn tries then is refused
  pub record IsLeft (ps : List ℕ) (t : Played) : Type 0 where
    pub lawful : IsLawful t.rehearsal
    pub refused : (p : ℕ) → IsIn p ps → IsRefused t (tried_at t p set)

  last : (ps : List ℕ) (before t : Played) → IsLawful before.rehearsal → after_last before (after_round line ps before) ≡ Ok t → IsLeft ps t
  last ps before t law e = grind (arith, still line set (settle_turns who set) ps before, eqb-true)

  -- where the line was played
  pub left : (s t : Played) → IsLawful s.rehearsal → played s line ≡ Ok t → IsLeft (named s.rehearsal.setting.members who) t
  unfolding settled known rested
  left s t law e = go (stranger s.rehearsal.setting.members (named s.rehearsal.setting.members who)) e
    where
      go : (o : Option ℕ) → go_on (unless_strange (named s.rehearsal.setting.members who) o) (λ ps. rested line ps s) ≡ Ok t →
          IsLeft (named s.rehearsal.setting.members who) t
      go None e = last (named s.rehearsal.setting.members who) _ t
          (lawful_rounds line set (settle_turns who set) (named s.rehearsal.setting.members who) s _ law) e
      go (Some q) e = absurd (cc)
