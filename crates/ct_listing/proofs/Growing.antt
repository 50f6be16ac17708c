-- A schedule with a step, a fact or an empty line more.
use Rattle.std.proofs.Common.{◌≡◌, ◌≤◌, ℕ, true, List, refl, ap, None, Ok, Result}
use Rattle.ct_names.specs.Group.{is_member}
use Rattle.ct_model.specs.Cause.{cause}
use Rattle.ct_model.specs.declared.step.Step.{Step}
use Rattle.ct_grammar.specs.declared.act.Act.{Act}
use Rattle.ct_grammar.specs.declared.fact.Fact.{Fact}
use Rattle.ct_grammar.specs.declared.line.Line.TheVariants.{Blank, Play as Plays}
use Rattle.ct_grammar.specs.declared.play.Play.TheVariants.{Act as Acts, Expect}
use Rattle.ct_grammar.specs.declared.who.Who.TheVariants.{One}
use Rattle.ct_grammar.specs.Numbers.{max_u8}
use Rattle.ct_print.specs.Lines.{line_text}
use Rattle.ct_print.specs.Writable.{ActFits}
use Rattle.ct_play.specs.Acting.{step_of}
use Rattle.ct_play.specs.Faults.{IsFaultOf, IsShort}
use Rattle.ct_play.specs.Played.{Played, with_step}
use Rattle.ct_play.specs.Playing.{played}
use Rattle.ct_play.specs.declared.line_fault.LineFault.{LineFault}
use Rattle.ct_listing.specs.Expecting.{IsLone, IsThere, fact_goal}
use Rattle.ct_listing.specs.Leading.{AddsLine, Leads}
use Rattle.ct_listing.proofs.Leading.{line_on, play_on}
use Rattle.ct_listing.proofs.Playing.{lone_played, short_fault, there_played}
use Rattle.ct_listing.proofs.Shown.{acts_brace, acts_line, expect_brace, expect_line}

-- what is known of an act that is written
pub record IsNext (w : Played) (p : ℕ) (act : Act) (step : Step) : Type 0 where
  pub lone : IsLone act
  pub fits : ActFits act
  pub member : p ≤ max_u8
  pub step_is : step_of w.rehearsal p act ≡ Ok step
  pub allowed : cause w.rehearsal step ≡ None

next_played : (text : List ℕ) (w : Played) (p : ℕ) (act : Act) (step : Step) → Leads text w → IsNext w p act step →
    played w (Acts (One p) act) ≡ Ok (with_step w step)
next_played text w p act step h next = lone_played w p act step next.lone h.uncut next.step_is next.allowed

ok_same : {A E : Type 0} (x y : A) (r : Result A E) → r ≡ Ok x → r ≡ Ok y → x ≡ y
ok_same x y r e f = cc

pub step_is : (text : List ℕ) (w v : Played) (p : ℕ) (act : Act) (step : Step) → Leads text w → IsNext w p act step →
    played w (Acts (One p) act) ≡ Ok v → v ≡ with_step w step
step_is text w v p act step h next took = ok_same v (with_step w step) _ took (next_played text w p act step h next)

pub step_on : (old new : List ℕ) (w v : Played) (p : ℕ) (act : Act) (step : Step) → Leads old w → IsNext w p act step →
    AddsLine old new (line_text (Plays (Acts (One p) act))) → played w (Acts (One p) act) ≡ Ok v → Leads new v
step_on old new w v p act step h next adds took =
    play_on old new (Acts (One p) act) w v h adds (next.member, next.fits) (acts_line p act next.lone) (λ rest e. acts_brace p act rest)
    took
    (ap (λ (u : Played). u.sides) (step_is old w v p act step h next took))

pub step_short : (text : List ℕ) (w : Played) (p : ℕ) (act : Act) (step : Step) (fault : LineFault) → Leads text w → IsNext w p act step →
    IsFaultOf (played w (Acts (One p) act)) fault → IsShort fault
step_short text w p act step fault h next e =
    short_fault (played w (Acts (One p) act)) (with_step w step) fault (next_played text w p act step h next) e

pub fact_on : (old new : List ℕ) (w : Played) (p : ℕ) (fact : Fact) → Leads old w → p ≤ max_u8 →
    is_member w.rehearsal.setting.members p ≡ true → IsThere w p fact →
    AddsLine old new (line_text (Plays (Expect (fact_goal p fact)))) → Leads new w
fact_on old new w p fact h small member there adds =
    play_on old new (Expect (fact_goal p fact)) w w h adds (small, there.fits) (expect_line p fact there.line)
    (λ rest e. expect_brace p fact rest) (there_played w p fact member there.known there.same) refl

pub blank_on : (old new : List ℕ) (w : Played) → Leads old w → AddsLine old new (line_text Blank) → Leads new w
unfolding line_text
blank_on old new w h adds = record {
  standing = h.standing;
  there = line_on old new Blank h.standing h.standing h.there adds tt refl (λ rest e. e) refl;
  world = h.world;
  uncut = h.uncut;
}
