-- Lines that are taken.
use Rattle.ct_merge.proofs.Common.{◌≡◌, ◌≢◌, ℕ, ◌+◌, ◌<◌, ◌==◌, Bool, true, false, ◌&&◌, List, [], ◌∷◌, ◌++◌, Some, None, IfSome, ap, sym}
use Rattle.ct_merge.proofs.Common.{◌∙◌, refl, length, take, arith, subst, length-append, option_map, slice_get, AllZip, take_more}
use Rattle.ct_merge.proofs.Common.{get_or_from_slice_get, Rehearsal, extended, Step, Repeat, some-none, some-same, self_number, is_stated}
use Rattle.ct_merge.proofs.Common.{outcome, IsTold, act_of, is_own, own, IsLater, IsReady, IsSerialOf, IsTakenTo, LeavesAll}
use Rattle.ct_merge.proofs.Common.{LeavesOthers, Takes, received, step_of, IsUnsent, IsWaiting, WaitsIn, FullName, LogAct, LogLine}
use Rattle.std.proofs.lemmas.Bool.{ne_eqb}
use Rattle.std.proofs.lemmas.Slice.Zip.{all_zipped_more}
use Rattle.ct_merge.proofs.Moments.{get_below}
use Rattle.ct_merge.proofs.Owning.{at, own_joins, own_stays}
use Rattle.ct_merge.specs.declared.log_act.LogAct.TheVariants as told

-- ---- one step

other_member : (p q : ℕ) → q ≢ p → (p == q) ≡ false
other_member p q ne = ne_eqb p q (λ e. ne (sym e))

-- the step of a log's act is its member's own
pub own_step : (w : Rehearsal) (p k : ℕ) (act : LogAct) → is_own p (at w (step_of p k act)) ≡ true
own_step w p k (told.Submit c) = ap (λ b. b && true) (self_number p)
own_step w p k _ = ap (λ b. b && true) (self_number p)

-- and no other's
others_step : (w : Rehearsal) (p k q : ℕ) (act : LogAct) → q ≢ p → is_own q (at w (step_of p k act)) ≡ false
others_step w p k q (told.Submit c) ne = ap (λ b. b && true) (other_member p q ne)
others_step w p k q _ ne = ap (λ b. b && true) (other_member p q ne)

and_false : (b : Bool) → (b && false) ≡ false
and_false true = refl
and_false false = refl

-- a repetition is nobody's own
pub repeats : (old new : Rehearsal) (p k : ℕ) → new ≡ extended old (Repeat p k) → LeavesAll old new
repeats old new p k e q = ap (λ (w : Rehearsal). own w q) e ∙ own_stays old q (Repeat p k) (and_false (p == q))

pub leaves_same : (old new : Rehearsal) → new ≡ old → LeavesAll old new
leaves_same old new e q = ap (λ (w : Rehearsal). own w q) e

abbrev pub same_later : (w : Rehearsal) → IsLater w w
same_later w = record { setting = refl; cells = refl; steps = omega arith }

pub later_same : (old new : Rehearsal) → new ≡ old → IsLater old new
later_same old new e = subst (λ w. IsLater old w) (sym e) (same_later old)

pub later_step : (old new : Rehearsal) (step : Step) → new ≡ extended old step → IsLater old new
later_step old new step e =
    subst (λ w. IsLater old w) (sym e)
    (record { setting = refl; cells = refl; steps = omega (arith, length-append old.steps (step ∷ [])) })

pub later_on : (old mid new : Rehearsal) → IsLater old mid → IsLater mid new → IsLater old new
later_on old mid new a b = record { setting = b.setting ∙ a.setting; cells = b.cells ∙ a.cells; steps = omega (arith, a.steps, b.steps) }

-- the step behind what was the same group
pub later_more : (old mid new : Rehearsal) (step : Step) → IsLater old mid → new ≡ extended mid step → IsLater old new
later_more old mid new step a e = later_on old mid new a (later_step mid new step e)

-- has a step more
pub steps_more : (old mid new : Rehearsal) (step : Step) → IsLater old mid → new ≡ extended mid step →
    length old.steps < length new.steps
steps_more old mid new step a e =
    let more : length new.steps ≡ length mid.steps + 1 = ap (λ (w : Rehearsal). length w.steps) e ∙ length-append mid.steps (step ∷ []) in
    omega (arith, a.steps, more)

pub ruleset left = (repeats, leaves_same)

pub ruleset later = (later_same, later_step, later_more, steps_more)

-- ---- what an act receives

pub act_is : (w : Rehearsal) (p k : ℕ) (act : LogAct) → IsSerialOf w p act k → act_of w (step_of p k act) ≡ Some act
act_is w p k (told.Receive name) serial = ap (option_map told.Receive) serial.named
act_is w p k _ serial = refl

-- a line waits for nothing whose act has a serial
pub ready : (w : Rehearsal) (p : ℕ) (log : List LogLine) (count k : ℕ) (line : LogLine) → slice_get log count ≡ Some line →
    IsSerialOf w p line.act k → IsReady w p log count k
ready w p log count k line there serial = record { line = line; there = there; serial = serial }

-- one that receives what was not sent waits, and so does a log that is over
waits_on : (w : Rehearsal) (p : ℕ) (line : LogLine) (act : LogAct) (name : FullName) → line.act ≡ act → received act ≡ Some name →
    IsUnsent w p name → IsWaiting w p line
waits_on w p line (told.Receive other) name is e unsent =
    record { name = name; act = is ∙ ap told.Receive (some-same other name e); unsent = unsent }
waits_on w p line _ name is e unsent = some-none name e

pub waits_there : (w : Rehearsal) (p : ℕ) (log : List LogLine) (count : ℕ) (line : LogLine) (name : FullName) →
    slice_get log count ≡ Some line → received line.act ≡ Some name → IsUnsent w p name → WaitsIn w p log count
waits_there w p log count line name there e unsent other at =
    subst (λ l. IsWaiting w p l) (some-same line other (sym there ∙ at)) (waits_on w p line line.act name refl e unsent)

pub waits_over : (w : Rehearsal) (p : ℕ) (log : List LogLine) (count : ℕ) → slice_get log count ≡ None → WaitsIn w p log count
waits_over w p log count none line at = some-none line (sym none ∙ at)

pub ruleset found = (ready, waits_there, waits_over)

pub ready_serial : (w : Rehearsal) (p : ℕ) (log : List LogLine) (count k : ℕ) (line : LogLine) → IsReady w p log count k →
    slice_get log count ≡ Some line → IsSerialOf w p line.act k
ready_serial w p log count k line r there =
    subst (λ (l : LogLine). IsSerialOf w p l.act k) (some-same r.line line (sym r.there ∙ there)) r.serial

pub ready_there : (w : Rehearsal) (p : ℕ) (log : List LogLine) (count k : ℕ) → IsReady w p log count k → slice_get log count ≡ None → ⊥
ready_there w p log count k r none = some-none r.line (sym none ∙ r.there)

-- the line is taken by its step, which came to what it states
pub takes : (old mid new : Rehearsal) (p k : ℕ) (line : LogLine) → LeavesAll old mid → IsSerialOf mid p line.act k →
    new ≡ extended mid (step_of p k line.act) →
    IfSome line.said (λ said. is_stated (outcome new (step_of p k line.act)) said ≡ true) → Takes old p line new
takes old mid new p k line same serial e said =
    let step : Step = step_of p k line.act in
    record {
      moment = at mid step;
      told = record {
        act = act_is mid p k line.act serial;
        said = subst (λ (w : Rehearsal). IfSome line.said (λ said. is_stated (outcome w step) said ≡ true)) e said;
      };
      own =
          ap (λ (w : Rehearsal). own w p) e
          ∙ (own_joins mid p step (own_step mid p k line.act) ∙ ap (λ l. l ++ at mid step ∷ []) (same p));
      others = λ q ne.
          ap (λ (w : Rehearsal). own w q) e ∙ (own_stays mid q step (others_step mid p k q line.act ne) ∙ same q);
    }

-- ---- lines of a log

-- a line that waits leaves what was taken
pub taken_still : (old new : Rehearsal) (p : ℕ) (log : List LogLine) (count : ℕ) → LeavesAll old new → IsTakenTo old p log count →
    IsTakenTo new p log count
taken_still old new p log count same h =
    record { within = h.within; is = subst (λ l. AllZip IsTold l (take count log)) (sym (same p)) h.is }

pub taken_more : (old new : Rehearsal) (p : ℕ) (log : List LogLine) (count more : ℕ) (line : LogLine) → slice_get log count ≡ Some line →
    Takes old p line new → IsTakenTo old p log count → more ≡ count + 1 → IsTakenTo new p log more
taken_more old new p log count more line there t h next =
    let lt : count < length log = get_below log count line there in
    let lines : take (count + 1) log ≡ take count log ++ line ∷ [] =
    take_more log count line lt ∙ ap (λ x. take count log ++ x ∷ []) (get_or_from_slice_get log count line line there) in
    let both : AllZip IsTold (own old p ++ t.moment ∷ []) (take count log ++ line ∷ []) =
    all_zipped_more IsTold (own old p) (take count log) t.moment line h.is t.told in
    let whole : IsTakenTo new p log (count + 1) =
    record {
      within = omega (arith, lt);
      is = subst (λ l. AllZip IsTold (own new p) l) (sym lines)
          (subst (λ l. AllZip IsTold l (take count log ++ line ∷ [])) (sym t.own) both);
    } in
    subst (λ n. IsTakenTo new p log n) (sym next) whole

pub others_taken : (old new : Rehearsal) (p : ℕ) (line : LogLine) → Takes old p line new → LeavesOthers p old new
others_taken old new p line t = t.others

pub ruleset taken_next = (ready_serial, ready_there, taken_more, others_taken)

pub others_on : (p : ℕ) (old mid new : Rehearsal) → LeavesOthers p old mid → LeavesOthers p mid new → LeavesOthers p old new
others_on p old mid new a b q ne = b q ne ∙ a q ne

pub ruleset on = (others_on, later_on)
