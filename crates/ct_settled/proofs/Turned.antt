-- What the line of a completion comes to.
use Rattle.std.proofs.Common.{◌≡◌, ℕ, zero, suc, ◌+◌, ◌≤◌, Bool, true, false, List, [], ◌∷◌, Option, Some, None, Ok}
use Rattle.std.proofs.Common.{arith, ap, ◌∙◌, refl, take}
use Rattle.std.specs.Prelude.{is_none, if◌then◌else◌, not}
use Rattle.std.proofs.lemmas.Bool.Decides.{nat_tests}
use Rattle.ct_names.specs.Group.{is_member, members}
use Rattle.ct_names.specs.declared.refusal.Refusal.{Refusal}
use Rattle.ct_model.specs.Cause.{cause}
use Rattle.ct_model.specs.Rehearsal.{extended}
use Rattle.ct_model.specs.declared.step.Step.{Step}
use Rattle.ct_grammar.specs.declared.play.Play.{Play}
use Rattle.ct_grammar.specs.declared.play.Play.TheVariants.{Turns}
use Rattle.ct_grammar.specs.declared.who.Who.{Who}
use Rattle.ct_grammar.specs.declared.who.Who.TheVariants.{All}
use Rattle.ct_play.specs.declared.line_fault.LineFault.{LineFault}
use Rattle.ct_play.specs.Acting.{go_on}
use Rattle.ct_play.specs.Faults.{IsFaultOf, IsShort, UnlessShort, is_short}
use Rattle.ct_play.specs.Parts.{IsPartOf}
use Rattle.ct_play.specs.Played.{IsLater, Played, with_record}
use Rattle.ct_play.specs.Playing.{played}
use Rattle.ct_play.specs.Turning.{after_attempt, after_round, after_rounds, after_turn, tried_at, turned}
use Rattle.ct_play.specs.Who.{known, named, stranger, unless_strange}
use Rattle.ct_play.proofs.Later.{later_on, later_same, later_step}
use Rattle.ct_play.proofs.Looking.{member_passed}

-- ---- more steps

tried_later : (s : Played) (step : Step) (o : Option Refusal) →
    IsLater s (with_record s (if is_none o then extended s.rehearsal step else s.rehearsal))
tried_later s step None = later_step s (with_record s (extended s.rehearsal step)) step refl
tried_later s step (Some refusal) = later_same s s refl

attempt_later : (s : Played) (o : Option Step) → IsLater s (after_attempt s o)
attempt_later s None = later_same s s refl
attempt_later s (Some step) = tried_later s step (cause s.rehearsal step)

module _ (who : Who) (n : ℕ) (set : List ℕ) where
  abbrev line : Play
  line = Turns who n set

  turn_later : (s : Played) (p : ℕ) → IsLater s (after_turn line s p)
  unfolding after_turn
  turn_later s p = attempt_later s (tried_at s p set)

  round_later : (ps : List ℕ) (s : Played) → IsLater s (after_round line ps s)
  round_later [] s = later_same s s refl
  round_later (p ∷ ps) s =
      later_on s (after_turn line s p) (after_round line ps (after_turn line s p)) (turn_later s p) (round_later ps (after_turn line s p))

  rounds_later : (ps : List ℕ) (s : Played) (k : ℕ) → IsLater s (after_rounds line ps s k)
  unfolding after_rounds
  rounds_later ps s zero = later_same s s refl
  rounds_later ps s (suc k) =
      later_on s (after_rounds line ps s k) (after_round line ps (after_rounds line ps s k)) (rounds_later ps s k)
      (round_later ps (after_rounds line ps s k))

  -- a part of the line leaves more steps
  pub part_later : (s t : Played) → IsPartOf s (Turns who n set) t → IsLater s t
  part_later s t part =
      let ps = named s.rehearsal.setting.members who in
      let mid = after_rounds line ps s part.rounds in
      later_on s mid t (rounds_later ps s part.rounds)
      (later_on mid (after_round line (take part.members ps) mid) t (round_later (take part.members ps) mid)
      (later_same (after_round line (take part.members ps) mid) t part.is))

-- ---- all of it

no_stranger_to : (n i : ℕ) → i ≤ n → stranger n (members i) ≡ None
unfolding members
no_stranger_to n zero le = refl
no_stranger_to n (suc i) le =
    let next : suc i ≡ i + 1 = omega arith in
    ap (λ k. stranger n (members k)) next
    ∙ member_passed (λ p. not (is_member n p)) i (no_stranger_to n i (omega arith)) (grind (arith, nat_tests))

-- the line of all members isn't refused
pub comes_to : (s : Played) (n : ℕ) (set : List ℕ) →
    played s (Turns All n set) ≡ Ok (after_rounds (Turns All n set) (members s.rehearsal.setting.members) s n)
unfolding turned known
comes_to s n set =
    let ps = members s.rehearsal.setting.members in
    ap (λ o. go_on (unless_strange ps o) (λ qs. Ok (after_rounds (Turns All n set) qs s n)))
    (no_stranger_to s.rehearsal.setting.members s.rehearsal.setting.members (omega arith))

pub line_later : (s t : Played) (n : ℕ) (set : List ℕ) → played s (Turns All n set) ≡ Ok t → IsLater s t
line_later s t n set e =
    let ps = members s.rehearsal.setting.members in
    let u = after_rounds (Turns All n set) ps s n in
    let same : t ≡ u = (let is = comes_to s n set in cc) in
    later_on s u t (rounds_later All n set ps s n) (later_same u t same)

short_of : (t : Played) (fault : LineFault) (b : Bool) → is_short fault ≡ b → IsFaultOf (Ok t) fault → IsShort fault
short_of t fault true e h = e
short_of t fault false e h =
    let never : UnlessShort false (Ok t ≡ _) = rw e at h in
    absurd (cc)

-- so it stops for want of memory or of the board alone
pub only_short : (s : Played) (n : ℕ) (set : List ℕ) (fault : LineFault) → IsFaultOf (played s (Turns All n set)) fault → IsShort fault
only_short s n set fault h =
    short_of (after_rounds (Turns All n set) (members s.rehearsal.setting.members) s n) fault (is_short fault) refl
    (rw (comes_to s n set) at h)
