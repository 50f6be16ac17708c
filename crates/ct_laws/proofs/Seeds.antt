-- The first seed of a search.
use Rattle.std.proofs.Common.{◌≡◌, ◌<◌, ◌≤◌, ◌+◌, ℕ, zero, suc, Bool, true, false, refl, subst, arith}
use Rattle.std.specs.Prelude.{if◌then◌else◌, Some, None}
use Rattle.ct_grammar.specs.declared.goal.Goal.{Goal}
use Rattle.ct_walk.specs.Finding.{finds, first_of, first_seed, seeds_to}
use Rattle.ct_walk.specs.declared.call.Seeds.{Seeds}
use Rattle.ct_walk.specs.declared.options.WalkOptions.{WalkOptions}
use Rattle.ct_laws.specs.Walks.{IsLeast, NoneBelow}
use Rattle.ct_laws.proofs.Cases.{fails_from}

-- the first of so many seeds from this one on
record IsFound (o : WalkOptions) (goal : Goal) (first more seed : ℕ) : Type 0 where
  pub from : first ≤ seed
  pub to : seed < first + more
  pub shows : finds o goal seed ≡ true
  pub none : NoneBelow o goal first seed

none_here : (o : WalkOptions) (goal : Goal) (first : ℕ) → NoneBelow o goal first first
none_here o goal first s low high = absurd (omega (arith, low, high))

-- none of those from the first one on, either
none_more : (o : WalkOptions) (goal : Goal) (first end : ℕ) → finds o goal first ≡ false → NoneBelow o goal (first + 1) end →
    NoneBelow o goal first end
none_more o goal first end here later =
    fails_from (finds o goal) (λ s. s < end) first here (λ s more high. later s (omega (arith, more)) high)

found_if : (o : WalkOptions) (goal : Goal) (first more seed : ℕ) (c : Bool) → finds o goal first ≡ c →
    ((s : ℕ) → first_seed o goal (first + 1) more ≡ Some s → IsFound o goal (first + 1) more s) →
    (if c then Some first else first_seed o goal (first + 1) more) ≡ Some seed → IsFound o goal first (suc more) seed
found_if o goal first more seed true is later h =
    let same : first ≡ seed = cc h in
    subst (λ s. IsFound o goal first (suc more) s) same
    (record { from = omega arith; to = omega arith; shows = is; none = none_here o goal first })
found_if o goal first more seed false is later h =
    let f = later seed h in
    record {
      from = omega (arith, f.from);
      to = omega (arith, f.to);
      shows = f.shows;
      none = none_more o goal first seed is f.none;
    }

found : (o : WalkOptions) (goal : Goal) (more first seed : ℕ) → first_seed o goal first more ≡ Some seed → IsFound o goal first more seed
unfolding first_seed
found o goal zero first seed h = absurd (cc h)
found o goal (suc more) first seed h =
    found_if o goal first more seed (finds o goal first) refl (λ s. found o goal more (first + 1) s) h

missing_if : (o : WalkOptions) (goal : Goal) (first more : ℕ) (c : Bool) → finds o goal first ≡ c →
    (first_seed o goal (first + 1) more ≡ None → NoneBelow o goal (first + 1) (first + 1 + more)) →
    (if c then Some first else first_seed o goal (first + 1) more) ≡ None → NoneBelow o goal first (first + suc more)
missing_if o goal first more true is later h = absurd (cc h)
missing_if o goal first more false is later h =
    λ s low high. none_more o goal first (first + 1 + more) is (later h) s low (omega (arith, high))

missing : (o : WalkOptions) (goal : Goal) (more first : ℕ) → first_seed o goal first more ≡ None → NoneBelow o goal first (first + more)
unfolding first_seed
missing o goal zero first h = λ s low high. absurd (omega (arith, low, high))
missing o goal (suc more) first h =
    missing_if o goal first more (finds o goal first) refl (missing o goal more (first + 1)) h

pub least : (o : WalkOptions) (goal : Goal) (seeds : Seeds) (seed : ℕ) → first_of o goal seeds ≡ Some seed → IsLeast o goal seeds seed
least o goal seeds seed h =
    let f = found o goal (seeds_to seeds.first seeds.last) seeds.first seed h in
    record { from = f.from; to = omega (arith, f.from, f.to); shows = f.shows; none = f.none }

pub nowhere : (o : WalkOptions) (goal : Goal) (seeds : Seeds) → first_of o goal seeds ≡ None → NoneBelow o goal seeds.first (seeds.last + 1)
nowhere o goal seeds h s low high =
    missing o goal (seeds_to seeds.first seeds.last) seeds.first h s low (omega (arith, low, high))
