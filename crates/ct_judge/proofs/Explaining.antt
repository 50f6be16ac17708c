-- Faults that are explained.
use Rattle.std.proofs.Common.{◌≡◌, List, ℕ, Ok, Err, Result, Bool, true, false, ap, sym, ◌∙◌}
use Rattle.ct_grammar.specs.declared.line.Line.{Line}
use Rattle.ct_play.specs.declared.line_fault.LineFault.{LineFault}
use Rattle.ct_play.specs.Faults.{IsFaultOf, IsKept, UnlessShort, is_short}
use Rattle.ct_judging.specs.Printing.{printed}
use Rattle.ct_judging.specs.Standing.{Standing, played_of}
use Rattle.ct_judging.specs.Telling.{explained, fault_text}

-- what is said of a fault that doesn't tell of memory or of the board
said : {P : Type 0} (b : Bool) → b ≡ false → UnlessShort b P → P
said true short h = absurd (cc)
said false short h = h

module _ (s t : Standing) (line : Line) (text : List ℕ) where
  explained_err : (r : Result Standing LineFault) (fault : LineFault) → r ≡ Err fault → t ≡ s →
      text ≡ printed (fault_text (played_of t) line fault) →
      explained s line r ≡ Err (record { fault = fault; text = text })
  explained_err (Ok x) fault e same is = absurd (cc)
  explained_err (Err other) fault e same is =
      let one : other ≡ fault = cc in
      ap (λ (f : LineFault). Err (record { fault = f; text = printed (fault_text (played_of s) line f) })) one
      ∙ ap (λ l. Err (record { fault = fault; text = l })) (ap (λ v. printed (fault_text (played_of v) line fault)) (sym same) ∙ sym is)

  pub explained_fault : (r : Result Standing LineFault) (fault : LineFault) → is_short fault ≡ false → IsFaultOf r fault →
      IsKept s t fault → text ≡ printed (fault_text (played_of t) line fault) →
      explained s line r ≡ Err (record { fault = fault; text = text })
  explained_fault r fault short h k is = explained_err r fault (said (is_short fault) short h) (said (is_short fault) short k) is

pub kept_same : {A : Type 0} (old new : A) (fault : LineFault) → is_short fault ≡ false → IsKept old new fault → new ≡ old
kept_same old new fault short k = said (is_short fault) short k
