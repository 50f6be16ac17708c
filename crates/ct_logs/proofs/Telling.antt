-- Faults of texts that are no logs, and what texts say.
use Rattle.std.proofs.Common.{◌≡◌, ℕ, ◌+◌, ◌<◌, List, get_or, length, Result, Ok, Err, Some, None, false, true}
use Rattle.std.proofs.Common.{ap, refl, subst, sym, ◌∙◌}
use Rattle.std.specs.Prelude.{if◌then◌else◌, Bool, option_and_then, option_map, slice_get}
use Rattle.std.specs.Global.{Vec}
use Rattle.std.proofs.lemmas.Option.{slice_get-get_or, slice_get-map}
use Rattle.ct_logs.specs.Files.{texts_of}
use Rattle.ct_logs.specs.Sets.{CanTake, LogsSoFar}
use Rattle.ct_merge.specs.Texts.{LogSoFar, Unread}
use Rattle.ct_logs.specs.Owners.{Said, is_record, log_for, said_at, said_for, said_in, said_of}
use Rattle.ct_logs.specs.Silence.{IsNoLogs, IsSilent}
use Rattle.ct_logs.specs.declared.merge_fault.MergeFault.{MergeFault}
use Rattle.ct_logs.specs.declared.merge_fault.MergeFault.TheVariants as faults

-- a fault that says that texts are none is one for another reason, or is silent
pub no_logs_for : (R S : Type 0) (fault : MergeFault) → (R → S) → IsNoLogs R fault → IsNoLogs S fault
no_logs_for R S (faults.NoLogs text) f h = f h
no_logs_for R S fault f h = h

pub silent_no_logs : (R : Type 0) (fault : MergeFault) → IsSilent fault → IsNoLogs R fault
silent_no_logs R (faults.NoLogs text) h = absurd h
silent_no_logs R fault h = h

-- ---- what a text says

pub said_read : (place : ℕ) (text : List ℕ) (log : LogSoFar) → is_record text ≡ false → log_for (place + 1) text ≡ Ok log →
    said_in place text ≡ Some (said_of (place + 1) log)
unfolding said_in
said_read place text log none is =
    ap (λ (b : Bool). if b then None else said_for (place + 1) (log_for (place + 1) text)) none ∙ ap (said_for (place + 1)) is

-- what is no record and says something was read
record WasRead (place : ℕ) (text : List ℕ) (said : Said) : Type 0 where
  pub none : is_record text ≡ false
  pub log : LogSoFar
  pub is : log_for (place + 1) text ≡ Ok log

read_by : (place : ℕ) (text : List ℕ) (said : Said) (b : Bool) (r : Result LogSoFar Unread) → is_record text ≡ b →
    log_for (place + 1) text ≡ r → (if b then None else said_for (place + 1) r) ≡ Some said → WasRead place text said
read_by place text said true r e is h = absurd (cc)
read_by place text said false (Ok log) e is h = record { none = e; log = log; is = is }
read_by place text said false (Err fault) e is h = absurd (cc)

was_read : (place : ℕ) (text : List ℕ) (said : Said) → said_in place text ≡ Some said → WasRead place text said
unfolding said_in
was_read place text said h = read_by place text said (is_record text) (log_for (place + 1) text) refl refl h

-- a text that is no log says nothing
pub not_read : (place : ℕ) (text : List ℕ) → (is_record text ≡ false → (log : LogSoFar) → log_for (place + 1) text ≡ Ok log → ⊥) →
    (said : Said) → said_in place text ≡ Some said → ⊥
not_read place text never said h =
    let r = was_read place text said h in
    never r.none r.log r.is

-- ---- what a set takes

module _ (place position : ℕ) (text : List ℕ) (log : LogSoFar) (at : position ≡ place + 1) (none : is_record text ≡ false)
    (is : log_for position text ≡ Ok log) where
  pub said_here : said_in place text ≡ Some (said_of position log)
  said_here = said_read place text log none (subst (λ p. log_for p text ≡ Ok log) at is) ∙ ap (λ p. Some (said_of p log)) (sym at)

  pub not_taken : (s : LogsSoFar) → (CanTake s place (said_of position log) → ⊥) → (said : Said) → said_in place text ≡ Some said →
      CanTake s place said → ⊥
  not_taken s never said says can =
      let e : Some said ≡ Some (said_of position log) = sym says ∙ said_here in
      let same : said ≡ said_of position log = cc in
      never (subst (λ d. CanTake s place d) same can)

pub said_of_text : (texts : List (Vec ℕ)) (i : ℕ) (d : Vec ℕ) (text : List ℕ) → i < length texts → text ≡ (get_or texts i d).items →
    said_at (texts_of texts) i ≡ said_in i text
said_of_text texts i d text lt is =
    let there : slice_get (texts_of texts) i ≡ Some (get_or texts i d).items =
    slice_get-map (λ (v : Vec ℕ). v.items) texts i ∙ ap (option_map (λ (v : Vec ℕ). v.items)) (slice_get-get_or texts i d lt) in
    ap (option_and_then (said_in i)) (there ∙ ap Some (sym is))
