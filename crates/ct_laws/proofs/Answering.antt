-- What detectors answer, one question after the other.
use Rattle.std.proofs.Common.{◌≡◌, inl, inr, ◌<◌, ◌≤◌, ◌+◌, ◌-◌, ℕ, zero, suc, Bool, true, false, List, [], ◌∷◌, ◌++◌, refl, ap, ap₂}
use Rattle.std.proofs.Common.{sym, ◌∙◌, subst, append-nil, arith, length, length-append, set}
use Rattle.std.proofs.lemmas.Bool.Decides.{nat_tests}
use Rattle.std.proofs.Math.Nat.{eq-or-lt_of_le}
use Rattle.std.specs.Prelude.{◌==◌, ◌%◌, if◌then◌else◌, nat_lt, Option, Some, None, is_some, option_to_list, slice_get}
use Rattle.ct_detect.specs.Seeded.{SeededState, after_word, next_word}
use Rattle.ct_detect.specs.declared.ask.Ask.{Ask}
use Rattle.ct_program.specs.Seeding.{detector_of, first_detectors}
use Rattle.ct_program.specs.declared.free_options.FreeOptions.{FreeOptions}
use Rattle.ct_walk.specs.Walking.{after_answer, after_ask, answer, says_yes}
use Rattle.ct_laws.specs.Tries.{WalkTurn, answers_to, first_answers, once_asked}
use Rattle.ct_laws.specs.Tries.WalkTurn.{OfMember, OfScript}
use Rattle.ct_laws.proofs.Rates.{first_many}

-- the answer, where something is asked
abbrev pub answered : Option Ask → Bool → Option Bool
answered None said = None
answered (Some ask) said = Some said

pub asks_so : (asks : Option Ask) (said : Bool) → is_some (answered asks said) ≡ is_some asks
asks_so asks said = grind arith

-- ---- lists of answers

same_answers : (k : ℕ) (d e : SeededState) → d.words ≡ e.words → d.rate ≡ e.rate → first_answers d k ≡ first_answers e k
same_answers zero d e words rate = refl
same_answers (suc k) d e words rate =
    ap₂ (λ a b. a ∷ b) (ap₂ (λ ws r. nat_lt (next_word ws % 256) r) words rate)
    (same_answers k (once_asked d) (once_asked e) (ap after_word words) rate)

answers_if : (b : Bool) (own more : List Bool) → (if b then own ++ more else more) ≡ (if b then own ++ [] else []) ++ more
answers_if true own more = ap (λ l. l ++ more) (sym (append-nil own))
answers_if false own more = refl

pub answers_first : (p : ℕ) (turn : WalkTurn) (turns : List WalkTurn) →
    answers_to p (turn ∷ turns) ≡ answers_to p (turn ∷ []) ++ answers_to p turns
answers_first p (OfMember q said suspects serial) turns = answers_if (p == q) (option_to_list said) (answers_to p turns)
answers_first p (OfScript i entry) turns = refl

-- ---- detectors after a turn

-- after these answers p's detector, which was this one, is among those
abbrev pub Follows : List Bool → List SeededState → ℕ → SeededState → Type 0
Follows answers ds p d =
    (e : SeededState) × (slice_get ds (p - 1) ≡ Some e) × ((k : ℕ) → first_answers d (length answers + k) ≡ answers ++ first_answers e k)

pub follows_not : (ds : List SeededState) (p : ℕ) (d : SeededState) → slice_get ds (p - 1) ≡ Some d → Follows [] ds p d
follows_not ds p d is = (d, is, λ k. let same : 0 + k ≡ k = omega arith in ap (first_answers d) same)

get_own : (xs : List SeededState) (i : ℕ) (x y : SeededState) → slice_get xs i ≡ Some x → slice_get (set xs i y) i ≡ Some y
get_own [] i x y h = absurd (cc h)
get_own (z ∷ xs) i x y h = grind (arith, get_own xs)

get_other : (xs : List SeededState) (i j : ℕ) (y : SeededState) → (j ≡ i → ⊥) → slice_get (set xs i y) j ≡ slice_get xs j
get_other [] i j y h = refl
get_other (z ∷ xs) i j y h = grind (arith, get_other xs)

follows_own : (ds : List SeededState) (p : ℕ) (d : SeededState) (ask : Ask) → slice_get ds (p - 1) ≡ Some d →
    Follows (says_yes d ∷ []) (set ds (p - 1) (after_ask d ask)) p d
follows_own ds p d ask is = (
  after_ask d ask,
  get_own ds (p - 1) d (after_ask d ask) is,
  λ k. let same : 1 + k ≡ suc k = omega arith in
      ap (first_answers d) same ∙ ap (λ l. says_yes d ∷ l) (same_answers k (once_asked d) (after_ask d ask) refl refl),
)

own_by : (ds : List SeededState) (p : ℕ) (d : SeededState) (asks : Option Ask) → slice_get ds (p - 1) ≡ Some d →
    Follows (option_to_list (answered asks (answer asks (Some d))) ++ []) (after_answer ds p asks (Some d)) p d
own_by ds p d None is = follows_not ds p d is
own_by ds p d (Some ask) is = follows_own ds p d ask is

own : (ds : List SeededState) (p : ℕ) (d : SeededState) (asks : Option Ask) → slice_get ds (p - 1) ≡ Some d →
    Follows (option_to_list (answered asks (answer asks (slice_get ds (p - 1)))) ++ [])
    (after_answer ds p asks (slice_get ds (p - 1))) p d
own ds p d asks is =
    subst (λ o. Follows (option_to_list (answered asks (answer asks o)) ++ []) (after_answer ds p asks o) p d) (sym is)
    (own_by ds p d asks is)

other_by : (ds : List SeededState) (p q : ℕ) (d : SeededState) (asks : Option Ask) (o : Option SeededState) → (p - 1 ≡ q - 1 → ⊥) →
    slice_get ds (p - 1) ≡ Some d → Follows [] (after_answer ds q asks o) p d
other_by ds p q d None o apart is = follows_not ds p d is
other_by ds p q d (Some ask) None apart is = follows_not ds p d is
other_by ds p q d (Some ask) (Some x) apart is =
    follows_not (set ds (q - 1) (after_ask x ask)) p d (get_other ds (q - 1) (p - 1) (after_ask x ask) apart ∙ is)

-- after a turn of q
pub follows_by : (ds : List SeededState) (p q : ℕ) (d : SeededState) (asks : Option Ask) (b : Bool) → (p == q) ≡ b → 1 ≤ p → 1 ≤ q →
    slice_get ds (p - 1) ≡ Some d →
    Follows (if b then option_to_list (answered asks (answer asks (slice_get ds (q - 1)))) ++ [] else [])
    (after_answer ds q asks (slice_get ds (q - 1))) p d
follows_by ds p q d asks true same low from is =
    let one : p ≡ q = grind (arith, nat_tests) in
    subst (λ n. Follows (option_to_list (answered asks (answer asks (slice_get ds (n - 1)))) ++ [])
    (after_answer ds n asks (slice_get ds (n - 1))) p d) one (own ds p d asks is)
follows_by ds p q d asks false other low from is =
    let two : p ≡ q → ⊥ = λ h. grind (arith, nat_tests) in
    let apart : p - 1 ≡ q - 1 → ⊥ = λ h. two (omega (arith, h, low, from)) in
    other_by ds p q d asks (slice_get ds (q - 1)) apart is

-- those of a turn and those of the turns after it
pub joined_answers : (p : ℕ) (d : SeededState) (a b : List Bool) (ds : List SeededState) → Follows a ds p d →
    ((e : SeededState) → slice_get ds (p - 1) ≡ Some e → b ≡ first_answers e (length b)) → a ++ b ≡ first_answers d (length (a ++ b))
joined_answers p d a b ds f more =
    ap (λ l. a ++ l) (more f.0 f.1) ∙ sym (f.2 (length b)) ∙ ap (first_answers d) (sym (length-append a b))

-- ---- the detectors at first

last_there : (xs : List SeededState) (x : SeededState) → slice_get (xs ++ x ∷ []) (length xs) ≡ Some x
last_there [] x = refl
last_there (y ∷ xs) x = last_there xs x

before_there : (xs : List SeededState) (x : SeededState) (i : ℕ) → i < length xs → slice_get (xs ++ x ∷ []) i ≡ slice_get xs i
before_there [] x i low = absurd (omega (arith, low))
before_there (y ∷ xs) x i low = grind (arith, before_there xs)

pub detector_at : (o : FreeOptions) (n p : ℕ) → 1 ≤ p → p ≤ n → slice_get (first_detectors o n) (p - 1) ≡ Some (detector_of o p)
detector_at o zero p low high = absurd (omega (arith, low, high))
detector_at o (suc k) p low high =
    let ds = first_detectors o k in
    let last = detector_of o (suc k) in
    let many : length ds ≡ k = first_many o k in
    elim (eq-or-lt_of_le high) [
      | inl same ↦
          let place : length ds ≡ p - 1 = omega (arith, many, same) in
          subst (λ i. slice_get (ds ++ last ∷ []) i ≡ Some (detector_of o p)) place
          (last_there ds last ∙ ap (λ n. Some (detector_of o n)) (sym same))
      | inr less ↦ before_there ds last (p - 1) (omega (arith, many, low, less)) ∙ detector_at o k p low (omega (arith, less))
    ]
