-- Stamps, and what is gone, after one more step.
use Rattle.std.proofs.Common.{◌≡◌, ℕ, suc, zero, ◌-◌, ◌<◌, ◌≤◌, Bool, true, false, not, List, [], ◌∷◌, ◌++◌, length, refl, ap}
use Rattle.std.proofs.Common.{◌∙◌, arith, Some}
use Rattle.std.specs.Prelude.{◌==◌, ◌&&◌, ◌||◌, nat_lt, filter, slice_get, if◌then◌else◌}
use Rattle.std.proofs.lemmas.Bool.Decides.{nat_tests}
use Rattle.std.proofs.lemmas.List.{take-append-le, length-append}
use Rattle.std.proofs.Math.Seq.{take-length}
use Rattle.ct_model.specs.declared.step.Step.{Step}
use Rattle.ct_model.specs.Waiting.{LineChange, line_change, has_serial}
use Rattle.ct_model.specs.Waiting.LineChange.{Takes, Defers, Restores}
use Rattle.ct_model.specs.Rehearsal.{Rehearsal, extended}
use Rattle.ct_model.specs.Stamps.{last_passing, is_step, removes, postpones, repeats, is_gone, beginning, is_sent, sends, stamp}
use Rattle.ct_model.specs.Stamps.{IsRising}
use Rattle.ct_model.proofs.Basics.Options.{some-none, some-same}
use Rattle.ct_model.proofs.Basics.Tests.{or_left, or_right, or_cases, number_same, same_number}
use Rattle.ct_model.proofs.Basics.Serials.{has_serial-append, has_serial-filter}

-- the last number that passes

pub last_passing-within : (test : ℕ → Bool) (n : ℕ) → last_passing test n ≤ n
last_passing-within test zero = omega arith
last_passing-within test (suc n) = grind (arith, last_passing-within test n)

last_passing-same : (one other : ℕ → Bool) (n : ℕ) → ((i : ℕ) → i ≤ n → one i ≡ other i) → last_passing one n ≡ last_passing other n
last_passing-same one other zero h = refl
last_passing-same one other (suc n) h = grind (arith, last_passing-same one other n (λ i le. h i (omega arith)))

-- a step by its number, after one more step

get-kept : {A : Type 0} (xs ys : List A) (i : ℕ) → i < length xs → slice_get (xs ++ ys) i ≡ slice_get xs i
get-kept [] ys i h = absurd (omega arith)
get-kept (x ∷ xs) ys zero h = refl
get-kept (x ∷ xs) ys (suc i) h = get-kept xs ys i (omega arith)

get-last : {A : Type 0} (xs : List A) (x : A) → slice_get (xs ++ x ∷ []) (length xs) ≡ Some x
get-last [] x = refl
get-last (y ∷ xs) x = get-last xs x

is_step-old : (test : Step → Bool) (steps : List Step) (step : Step) (n : ℕ) → n ≤ length steps →
    is_step test (steps ++ step ∷ []) n ≡ is_step test steps n
is_step-old test steps step zero h = refl
is_step-old test steps step (suc i) h = rw (get-kept steps (step ∷ []) i (omega arith)) refl

is_step-new : (test : Step → Bool) (steps : List Step) (step : Step) → is_step test (steps ++ step ∷ []) (suc (length steps)) ≡ test step
is_step-new test steps step = rw (get-last steps step) refl

last_step-push : (test : Step → Bool) (steps : List Step) (step : Step) →
    last_passing (is_step test (steps ++ step ∷ [])) (length (steps ++ step ∷ []))
    ≡ (if test step then suc (length steps) else last_passing (is_step test steps) (length steps))
last_step-push test steps step =
    let more : length (steps ++ step ∷ []) ≡ suc (length steps) = omega (arith, length-append steps (step ∷ [])) in
    rw (more, is_step-new test steps step)
    (ap (λ n. if test step then suc (length steps) else n)
    (last_passing-same (is_step test (steps ++ step ∷ [])) (is_step test steps) (length steps) (is_step-old test steps step)))

-- the change takes the serial out of p's line, moves it to the end, or puts it back there

abbrev pub takes : ℕ → ℕ → LineChange → Bool
takes p k (Takes q i) = (q == p) && (i == k)
takes p k _ = false

abbrev pub moves : ℕ → ℕ → LineChange → Bool
moves p k (Defers q i) = (q == p) && (i == k)
moves p k (Restores q i) = (q == p) && (i == k)
moves p k _ = false

abbrev pub restores : ℕ → ℕ → LineChange → Bool
restores p k (Restores q i) = (q == p) && (i == k)
restores p k _ = false

removes-takes : (p k : ℕ) (step : Step) → removes p k step ≡ takes p k (line_change step)
removes-takes p k step = grind arith

repeats-restores : (p k : ℕ) (step : Step) → repeats p k step ≡ restores p k (line_change step)
repeats-restores p k step = grind arith

moved-moves : (p k : ℕ) (step : Step) → (postpones p k step || repeats p k step) ≡ moves p k (line_change step)
moved-moves p k step = grind arith

one_change : (p k : ℕ) (change : LineChange) → takes p k change ≡ true → restores p k change ≡ false
one_change p k change h = grind arith

-- what is gone, by the last numbers of either kind, where this step may be of one or the other
gone_test : (back out : Bool) (last_back last_out n : ℕ) → (out ≡ true → back ≡ false) → last_back ≤ n → last_out ≤ n →
    nat_lt (if back then suc n else last_back) (if out then suc n else last_out) ≡ ((nat_lt last_back last_out || out) && not back)
gone_test back out last_back last_out n one b o = grind (arith, nat_tests)

-- a serial is gone after the step, where it was so or the step takes it out, and it isn't put back
pub is_gone-push : (w : Rehearsal) (step : Step) (p k : ℕ)
    → is_gone (extended w step) p k ≡ ((is_gone w p k || takes p k (line_change step)) && not (restores p k (line_change step)))
unfolding is_gone
is_gone-push w step p k =
    grind (arith, nat_tests, last_step-push, removes-takes, repeats-restores, gone_test, one_change, last_passing-within)

-- stamps

-- the step sends the serial to p
abbrev pub is_new : Rehearsal → Step → ℕ → ℕ → Bool
is_new w step p k = is_sent (extended w step) p k && not (is_sent w p k)

beginning-old : (w : Rehearsal) (step : Step) (n : ℕ) → n ≤ length w.steps → beginning (extended w step) n ≡ beginning w n
beginning-old w step n h = ap (λ (steps : List Step). record w { steps = steps }) (take-append-le n w.steps (step ∷ []) h)

beginning-all : (w : Rehearsal) → beginning w (length w.steps) ≡ w
beginning-all w = ap (λ (steps : List Step). record w { steps = steps }) (take-length w.steps)

sends-old : (w : Rehearsal) (step : Step) (p k n : ℕ) → n ≤ length w.steps → sends (extended w step) p k n ≡ sends w p k n
sends-old w step p k n h = grind (arith, beginning-old)

sends-new : (w : Rehearsal) (step : Step) (p k : ℕ) → sends (extended w step) p k (suc (length w.steps)) ≡ is_new w step p k
sends-new w step p k =
    let number : suc (length w.steps) ≡ length (w.steps ++ step ∷ []) = omega (arith, length-append w.steps (step ∷ [])) in
    let before : suc (length w.steps) - 1 ≡ length w.steps = omega arith in
    rw (before, number, beginning-all (extended w step), beginning-old w step (length w.steps) (omega arith), beginning-all w)

-- the step of this number is one that the stamp looks for
abbrev stamps : Rehearsal → ℕ → ℕ → ℕ → Bool
stamps w p k n = sends w p k n || is_step (postpones p k) w.steps n || is_step (repeats p k) w.steps n

stamps-old : (w : Rehearsal) (step : Step) (p k n : ℕ) → n ≤ length w.steps → stamps (extended w step) p k n ≡ stamps w p k n
stamps-old w step p k n h = grind (arith, sends-old, is_step-old)

stamps-new : (w : Rehearsal) (step : Step) (p k : ℕ)
    → stamps (extended w step) p k (suc (length w.steps)) ≡ (is_new w step p k || moves p k (line_change step))
stamps-new w step p k = grind (arith, nat_tests, sends-new, is_step-new, moved-moves)

-- the stamp is the step's number, where the step sends the serial or moves it, and else stays
pub stamp-push : (w : Rehearsal) (step : Step) (p k : ℕ)
    → stamp (extended w step) p k ≡ (if is_new w step p k || moves p k (line_change step) then suc (length w.steps) else stamp w p k)
unfolding stamp
stamp-push w step p k =
    let more : length (w.steps ++ step ∷ []) ≡ suc (length w.steps) = omega (arith, length-append w.steps (step ∷ [])) in
    ap (last_passing (stamps (extended w step) p k)) more
    ∙ rw (stamps-new w step p k) (ap (λ n. if is_new w step p k || moves p k (line_change step) then suc (length w.steps) else n)
    (last_passing-same (stamps (extended w step) p k) (stamps w p k) (length w.steps) (stamps-old w step p k)))

-- and no larger than the number of steps
pub stamp-within : (w : Rehearsal) (p k : ℕ) → stamp w p k ≤ length w.steps
unfolding stamp
stamp-within w p k = last_passing-within (stamps w p k) (length w.steps)

-- rising lists

pub rising-same : (one other : ℕ → ℕ) (line : List ℕ) → ((k : ℕ) → has_serial k line ≡ true → other k ≡ one k) → IsRising one line →
    IsRising other line
rising-same one other [] h r = tt
rising-same one other (k ∷ line) h r = grind (arith, rising-same one other line (λ i m. h i (or_right (k == i) (has_serial i line) m)) r.1)

pub rising-filter : (number : ℕ → ℕ) (f : ℕ → Bool) (line : List ℕ) → IsRising number line → IsRising number (filter f line)
rising-filter number f [] r = tt
rising-filter number f (k ∷ line) r = grind (arith, has_serial-filter, rising-filter number f line r.1)

pub rising-push : (number : ℕ → ℕ) (line : List ℕ) (k : ℕ) → IsRising number line →
    ((i : ℕ) → has_serial i line ≡ true → number i < number k) → IsRising number (line ++ k ∷ [])
rising-push number [] k r h = (λ i m. absurd (cc), tt)
rising-push number (j ∷ line) k r h =
    let rest = rising-push number line k r.1 (λ i m. h i (or_right (j == i) (has_serial i line) m)) in
    grind (arith, or_cases, has_serial-append, same_number, rest)

-- by places in the list

pub get-has : (line : List ℕ) (i k : ℕ) → slice_get line i ≡ Some k → has_serial k line ≡ true
get-has [] i k e = some-none k e
get-has (x ∷ line) zero k e = or_left (x == k) (has_serial k line) (number_same x k (some-same x k e))
get-has (x ∷ line) (suc i) k e = or_right (x == k) (has_serial k line) (get-has line i k e)

pub rising-places : (number : ℕ → ℕ) (line : List ℕ) (i j k l : ℕ) → IsRising number line → slice_get line i ≡ Some k →
    slice_get line j ≡ Some l → i < j → number k < number l
rising-places number [] i j k l r e f lt = some-none k e
rising-places number (x ∷ line) i zero k l r e f lt = absurd (omega arith)
rising-places number (x ∷ line) zero (suc j) k l r e f lt = grind (arith, get-has)
rising-places number (x ∷ line) (suc i) (suc j) k l r e f lt = rising-places number line i j k l r.1 e f (omega arith)
