-- Detectors of one rate, and suspicions that last.
use Rattle.ct_laws.proofs.Finding.{Each, each_both, each_set}
use Rattle.std.proofs.Common.{◌≡◌, ◌-◌, ℕ, zero, suc, Bool, true, false, List, [], ◌∷◌, length, refl}
use Rattle.std.proofs.Common.{arith, length-append, length-set}
use Rattle.std.proofs.lemmas.Bool.Decides.{nat_tests}
use Rattle.std.specs.Prelude.{Option, Some, None, slice_get}
use Rattle.rand_pcg.specs.Lcg.{Lcg}
use Rattle.ct_detect.specs.Seeded.{SeededState}
use Rattle.ct_detect.specs.declared.ask.Ask.{Ask}
use Rattle.ct_program.specs.Seeding.{detector_of, first_detectors}
use Rattle.ct_program.specs.declared.free_options.FreeOptions.{FreeOptions}
use Rattle.ct_walk.specs.Adversary.{may_last, suspects_by}
use Rattle.ct_walk.specs.Walking.{after_answer, after_ask, says_yes}
use Rattle.ct_walk.specs.declared.options.WalkOptions.{WalkOptions}

pub always_yes : (d : SeededState) → d.rate ≡ 256 → says_yes d ≡ true
always_yes d h = grind (arith, nat_tests)

pub never_yes : (d : SeededState) → d.rate ≡ 0 → says_yes d ≡ false
never_yes d h = grind (arith, nat_tests)

abbrev pub AllRated : ℕ → List SeededState → Type 0
AllRated rate ds = Each (λ (d : SeededState). d.rate ≡ rate) ds

pub rated_there : (rate : ℕ) (ds : List SeededState) (i : ℕ) (d : SeededState) → AllRated rate ds → slice_get ds i ≡ Some d → d.rate ≡ rate
rated_there rate [] i d h is = absurd (cc is)
rated_there rate (x ∷ ds) i d h is = grind (arith, rated_there rate ds)

answered_rated : (rate : ℕ) (ds : List SeededState) (p : ℕ) (ask : Option Ask) (o : Option SeededState) → slice_get ds (p - 1) ≡ o →
    AllRated rate ds → AllRated rate (after_answer ds p ask o)
answered_rated rate ds p None o is h = h
answered_rated rate ds p (Some ask) None is h = h
answered_rated rate ds p (Some ask) (Some d) is h =
    each_set (λ (d : SeededState). d.rate ≡ rate) ds (p - 1) (after_ask d ask) h (rated_there rate ds (p - 1) d h is)

-- an answer keeps the rates
pub still_rated : (rate : ℕ) (ds : List SeededState) (p : ℕ) (ask : Option Ask) → AllRated rate ds →
    AllRated rate (after_answer ds p ask (slice_get ds (p - 1)))
still_rated rate ds p ask h = answered_rated rate ds p ask (slice_get ds (p - 1)) refl h

-- and their number
pub still_many : (ds : List SeededState) (p : ℕ) (ask : Option Ask) (o : Option SeededState) → length (after_answer ds p ask o) ≡ length ds
still_many ds p None o = refl
still_many ds p (Some ask) None = refl
still_many ds p (Some ask) (Some d) = length-set ds (p - 1) (after_ask d ask)

pub rated_first : (o : FreeOptions) (k : ℕ) → AllRated o.rate (first_detectors o k)
rated_first o zero = tt
rated_first o (suc k) = each_both (λ (d : SeededState). d.rate ≡ o.rate) _ (detector_of o (suc k) ∷ []) (rated_first o k) (refl, tt)

pub first_many : (o : FreeOptions) (k : ℕ) → length (first_detectors o k) ≡ k
first_many o zero = refl
first_many o (suc k) = omega (arith, length-append (first_detectors o k) (detector_of o (suc k) ∷ []), first_many o k)

-- ---- whether a suspicion lasts

abbrev pub AreFalse : List Bool → Type 0
AreFalse bs = Each (λ b. b ≡ false) bs

-- where the detector says yes no word is drawn
yes_lasts : (o : WalkOptions) (s : List Bool) (asks : Option Ask) → may_last o s asks true ≡ false
yes_lasts o s asks = grind arith

-- nor where no suspicion lasts
pub never_lasts : (o : WalkOptions) (s : List Bool) (asks : Option Ask) (said : Bool) → o.lasting ≡ 0 → may_last o s asks said ≡ false
never_lasts o s asks said h = grind arith

pub suspects_said : (o : WalkOptions) (draws : Lcg) (lasts said : Bool) → lasts ≡ false → suspects_by o draws lasts said ≡ said
suspects_said o draws lasts said h = grind arith

pub suspects_yes : (o : WalkOptions) (draws : Lcg) (s : List Bool) (asks : Option Ask) (said : Bool) → said ≡ true →
    suspects_by o draws (may_last o s asks said) said ≡ true
suspects_yes o draws s asks true h = suspects_said o draws (may_last o s asks true) true (yes_lasts o s asks)
suspects_yes o draws s asks false h = absurd (cc h)
