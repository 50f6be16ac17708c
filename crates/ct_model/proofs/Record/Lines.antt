-- A waiting line after one more step.
use Rattle.std.proofs.Common.{◌≡◌, ℕ, ◌<◌, Bool, true, false, not, List, [], ◌∷◌, ◌++◌, refl, arith, append-nil}
use Rattle.std.specs.Prelude.{◌==◌, ◌&&◌, ◌||◌, filter, fold}
use Rattle.std.proofs.lemmas.Bool.{cases_Bool, cond_both}
use Rattle.ct_model.specs.declared.step.Step.{Step}
use Rattle.ct_model.specs.Setting.{Setting}
use Rattle.ct_model.specs.State.{State, first_state}
use Rattle.ct_model.specs.Next.{stepped}
use Rattle.ct_model.specs.Waiting.{LineChange, changed, without, alone, has_serial, line_after, line_from}
use Rattle.ct_model.specs.Waiting.{waiting}
use Rattle.ct_model.specs.Lawful.{is_distinct}
use Rattle.ct_model.specs.Stamps.{IsRising}
use Rattle.ct_model.proofs.Record.Stamps.{takes, moves, restores, rising-same, rising-filter, rising-push}
use Rattle.ct_model.proofs.Basics.Tests.{and_left, and_right}
use Rattle.ct_model.proofs.Basics.Serials.{has_serial-append, has_serial-filter, is_distinct-append, is_distinct-filter}

line_from-push : (s : Setting) (p : ℕ) (g : State) (line : List ℕ) (steps : List Step) (step : Step)
    → line_from s p g line (steps ++ step ∷ []) ≡ line_after s p (fold (stepped s) g steps) (line_from s p g line steps) step
line_from-push s p g line [] step = refl
line_from-push s p g line (x ∷ later) step = line_from-push s p (stepped s g x) (line_after s p g line x) later step

pub waiting-push : (s : Setting) (p : ℕ) (steps : List Step) (step : Step)
    → waiting s (steps ++ step ∷ []) p ≡ line_after s p (fold (stepped s) (first_state s) steps) (waiting s steps p) step
unfolding waiting
waiting-push s p steps step = line_from-push s p (first_state s) [] steps step

-- what waits once still does after a change, where what is put back didn't wait

parted : (k j : ℕ) (line : List ℕ) → has_serial j (without k line) ≡ true → has_serial j (alone k line) ≡ false
parted k j line m = grind (arith, has_serial-filter (λ i. not (i == k)) j line, has_serial-filter (λ i. i == k) j line)

pub changed-distinct : (p : ℕ) (change : LineChange) (line : List ℕ) → is_distinct line ≡ true →
    ((k : ℕ) → restores p k change ≡ true → has_serial k line ≡ false) → is_distinct (changed p change line) ≡ true
changed-distinct p change line d away = grind (arith, is_distinct-filter, is_distinct-append, parted)

-- what waits after a change waited before and isn't taken, or is put back

pub changed-has : (p k : ℕ) (change : LineChange) (line : List ℕ)
    → has_serial k (changed p change line) ≡ ((has_serial k line && not (takes p k change)) || restores p k change)
changed-has p k change line = grind (arith, has_serial-filter, has_serial-append)

-- a serial that waits once is one

alone-none : (k : ℕ) (line : List ℕ) → has_serial k line ≡ false → alone k line ≡ []
alone-none k [] h = refl
alone-none k (i ∷ line) h = grind (arith, alone-none k line)

pub alone-is : (k : ℕ) (line : List ℕ) → is_distinct line ≡ true → has_serial k line ≡ true → alone k line ≡ k ∷ []
alone-is k [] d m = absurd (cc)
alone-is k (i ∷ line) d m = grind (arith, alone-none k line, alone-is k line)

-- a line is by rising number after a change, where what is moved gets a number above those of all that waited, and the
-- others keep theirs

module _ (p : ℕ) (line : List ℕ) (one other : ℕ → ℕ) (n : ℕ) (distinct : is_distinct line ≡ true) (rising : IsRising one line)
    (small : (k : ℕ) → has_serial k line ≡ true → one k < n) where
  -- some of the line, without what moves
  kept-rising : (f : ℕ → Bool) → ((k : ℕ) → has_serial k line ≡ true → f k ≡ true → other k ≡ one k) → IsRising other (filter f line)
  kept-rising f stay = grind (arith, rising-same, has_serial-filter, and_left, and_right, rising-filter)

  -- and what moves behind it
  moved-rising : (f : ℕ → Bool) (k : ℕ) → ((i : ℕ) → has_serial i line ≡ true → f i ≡ true → other i ≡ one i) → other k ≡ n →
      IsRising other (filter f line ++ k ∷ [])
  moved-rising f k stay last = grind (arith, rising-push, kept-rising, has_serial-filter)

  pub changed-rising : (change : LineChange) → ((k : ℕ) → restores p k change ≡ true → has_serial k line ≡ false) →
      ((k : ℕ) → has_serial k line ≡ true → moves p k change ≡ false → other k ≡ one k) →
      ((k : ℕ) → moves p k change ≡ true → other k ≡ n) → IsRising other (changed p change line)
  changed-rising change away stay last =
      grind (arith, cond_both, kept-rising, rising-same, cases_Bool, alone-is, moved-rising, alone-none, append-nil, rising-push)
