-- Lines that are played in a world that is not cut.
use Rattle.std.proofs.Common.{◌≡◌, ◌-◌, ℕ, Bool, true, false, [], ◌∷◌, ap, refl, ◌∙◌, arith, Option, Some, None, Result, Ok, Err}
use Rattle.std.proofs.Common.{get_or, cond}
use Rattle.std.proofs.lemmas.List.{get_or-replicate}
use Rattle.std.proofs.lemmas.Bool.Decides.{nat_tests}
use Rattle.ct_names.specs.Group.{is_member}
use Rattle.ct_names.specs.declared.limit.TheConstants.{MAX_MEMBERS}
use Rattle.ct_model.specs.Cause.{cause}
use Rattle.ct_model.specs.declared.step.Step.{Step}
use Rattle.ct_model.specs.declared.step.Step.TheVariants as step
use Rattle.ct_grammar.specs.declared.act.Act.{Act}
use Rattle.ct_grammar.specs.declared.act.Act.TheVariants.{LoseFrom}
use Rattle.ct_grammar.specs.declared.fact.Fact.{Fact}
use Rattle.ct_grammar.specs.declared.play.Play.TheVariants.{Act as Acts, Expect}
use Rattle.ct_grammar.specs.declared.who.Who.TheVariants.{One}
use Rattle.ct_grammar.specs.Sides.{side_of, whole}
use Rattle.ct_play.specs.Acting.{after_step, done, go_on, step_of, stepped}
use Rattle.ct_play.specs.Cuts.{barred, is_beside, is_near}
use Rattle.ct_play.specs.Claims.{is_true_of}
use Rattle.ct_play.specs.Expecting.{expected, unmet}
use Rattle.ct_play.specs.Facts.{holds, is_as_said}
use Rattle.ct_play.specs.Faults.{IsFaultOf, IsShort, UnlessShort, is_short}
use Rattle.ct_play.specs.Goals.{holds_for, unshown}
use Rattle.ct_play.specs.Picking.{sender_of}
use Rattle.ct_play.specs.Played.{Played, with_step}
use Rattle.ct_play.specs.Playing.{played}
use Rattle.ct_play.specs.Strangers.{stranger}
use Rattle.ct_play.specs.Strangers as strangers
use Rattle.ct_play.specs.declared.line_fault.LineFault.{LineFault}
use Rattle.ct_listing.specs.Expecting.{IsLone, fact_goal}

-- ---- no cut

one_side : (p : ℕ) → side_of whole p ≡ 0
one_side p = by_test (is_member MAX_MEMBERS p) refl
  where
    by_test : (b : Bool) → is_member MAX_MEMBERS p ≡ b → cond b (get_or whole (p - 1) 0) 0 ≡ 0
    by_test true e = get_or-replicate 16 (p - 1) 0 0 (grind (arith, nat_tests))
    by_test false e = refl

beside : (p : ℕ) (sender : Option ℕ) → is_beside whole p sender ≡ true
beside p None = refl
beside p (Some q) = rw (one_side p, one_side q) refl

near_all : (s : Played) (p k : ℕ) → s.sides ≡ whole → is_near s p k ≡ true
unfolding is_near
near_all s p k e = rw e (beside p (sender_of s.rehearsal k))

no_bar : (s : Played) (step : Step) → s.sides ≡ whole → barred s step ≡ None
no_bar s (step.Receive p k) e = rw (near_all s p k e) refl
no_bar s _ e = refl

-- ---- acts

step_joins : (s : Played) (step : Step) → s.sides ≡ whole → cause s.rehearsal step ≡ None → after_step s step ≡ Ok (with_step s step)
unfolding after_step stepped
step_joins s step e allowed = rw (allowed, no_bar s step e) refl

done_lone : (s : Played) (p : ℕ) (act : Act) → IsLone act → done s p act ≡ go_on (step_of s.rehearsal p act) (after_step s)
done_lone s p (LoseFrom set) h = absurd h
done_lone s p _ h = refl

-- an act whose step is allowed
pub lone_played : (s : Played) (p : ℕ) (act : Act) (step : Step) → IsLone act → s.sides ≡ whole → step_of s.rehearsal p act ≡ Ok step →
    cause s.rehearsal step ≡ None → played s (Acts (One p) act) ≡ Ok (with_step s step)
lone_played s p act step lone e is allowed =
    done_lone s p act lone
    ∙ ap (λ (r : Result Step LineFault). go_on r (after_step s)) is
    ∙ step_joins s step e allowed

-- ---- expectations

pub there_played : (s : Played) (p : ℕ) (fact : Fact) → is_member s.rehearsal.setting.members p ≡ true →
    strangers.expected s.rehearsal.setting.members fact ≡ None → is_as_said s p fact ≡ true → played s (Expect (fact_goal p fact)) ≡ Ok s
unfolding expected unmet holds_for unshown is_true_of holds stranger
there_played s p fact member known e = rw (member, known, e) refl

-- ---- faults

-- what comes to something has no fault but want of memory or of the board
pub short_fault : {A : Type 0} (r : Result A LineFault) (x : A) (fault : LineFault) → r ≡ Ok x → IsFaultOf r fault → IsShort fault
short_fault r x fault e h = by_test (is_short fault) refl h
  where
    by_test : (b : Bool) → is_short fault ≡ b → UnlessShort b (r ≡ Err fault) → is_short fault ≡ true
    by_test true same h = same
    by_test false same h = absurd (cc)
