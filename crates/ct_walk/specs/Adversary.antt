-- What the adversary of a walk draws: places in lines, suspicions that last, cuts of the group, crashes.
use Rattle.std.specs.Prelude.{ℕ, zero, suc, ◌+◌, ◌*◌, ◌-◌, ◌/◌, ◌%◌, ◌^◌, ◌==◌, Bool, true, false, not, ◌&&◌, nat_lt, List, [], ◌∷◌}
use Rattle.std.specs.Prelude.{drop, find, get_or, set, slice_get, length, max, replicate, Option, Some, None, if◌then◌else◌}
use Rattle.rand_pcg.specs.Lcg.{Lcg}
use Rattle.ct_names.specs.Group.{is_member}
use Rattle.ct_names.specs.declared.limit.TheConstants.{MAX_MEMBERS}
use Rattle.ct_model.specs.Rehearsal.{Rehearsal}
use Rattle.ct_model.specs.declared.step.Step.{Step}
use Rattle.ct_choices.specs.Choices.{chosen, has_crashed}
use Rattle.ct_detect.specs.declared.ask.Ask.{Ask}
use Rattle.ct_detect.specs.Seeded.{after_word, next_word, words_of_seed}
use Rattle.ct_play.specs.Picking.{sender_of, waiting_at}
use Rattle.ct_rehearse.specs.declared.disturbance.Disturbance.{Disturbance}
use Rattle.ct_rehearse.specs.declared.disturbance.Disturbance.TheVariants.{Crash}
use Rattle.ct_walk.specs.declared.options.WalkOptions.{WalkOptions}
use Rattle.ct_world.specs.Driving.{next_local}

-- one word of 64
abbrev pub is_rare : ℕ → Bool
is_rare word = word % 64 == 0

-- so many words of 256
abbrev pub is_within : ℕ → ℕ → Bool
is_within rate word = nat_lt (word % 256) rate

-- ---- where a member receives from

-- the place in a line of this length: drawn by so many words of 256, else the first
abbrev pub place_by : ℕ → ℕ → ℕ → ℕ
place_by scatter word many = if is_within scatter word then (word / 256) % max 1 many else 0

-- a word is drawn for the place
abbrev pub is_scattered : WalkOptions → Bool
is_scattered o = not (o.scatter == 0)

unfoldable pub place_of : WalkOptions → Lcg → Rehearsal → ℕ → ℕ
place_of o draws w p = if is_scattered o then place_by o.scatter (next_word draws) (length (waiting_at w p)) else 0

abbrev pub after_place : WalkOptions → Lcg → Lcg
after_place o draws = if is_scattered o then after_word draws else draws

-- p's side of a cut: a bit of it
abbrev pub side_of : ℕ → ℕ → ℕ
side_of cut p = if is_member MAX_MEMBERS p then cut / 2 ^ (p - 1) % 2 else 0

-- both are on the same side
abbrev pub is_beside : ℕ → ℕ → Option ℕ → Bool
is_beside cut p None = true
is_beside cut p (Some q) = side_of cut p == side_of cut q

-- the envelope of the serial was sent on p's side
unfoldable pub is_near : ℕ → Rehearsal → ℕ → ℕ → Bool
is_near cut w p k = is_beside cut p (sender_of w k)

-- the serial that p receives, where its line is looked at from this place on: of a group that is not cut, whose cut is 0, that at the
-- place, else the first that was sent on p's side
unfoldable pub received : ℕ → Rehearsal → ℕ → ℕ → Option ℕ
received cut w p place =
    if cut == 0 then slice_get (waiting_at w p) place else find (is_near cut w p) (drop place (waiting_at w p))

-- what a turn of p tries that receives this serial, where p suspects or not
unfoldable pub tries : Rehearsal → ℕ → Option ℕ → Bool → Option Step
tries w p serial suspects = if has_crashed w p then None else chosen p serial suspects (next_local w p)

-- ---- suspicions that last

-- whom each of 16 members suspected when it last asked about it: of member p's 16, the (q - 1)-th is of q
abbrev pub nobody : List Bool
nobody = replicate 256 false

abbrev pub at_ask : Ask → ℕ
at_ask ask = 16 * (ask.member - 1) + (ask.coordinator - 1)

-- a word is drawn for whether the suspicion lasts: the detector says no, and it was suspected
abbrev pub may_last : WalkOptions → List Bool → Option Ask → Bool → Bool
may_last o suspected None said = false
may_last o suspected (Some ask) said = not (o.lasting == 0) && (not said && get_or suspected (at_ask ask) false)

-- whether it suspects, where its detector says this
abbrev pub suspects_by : WalkOptions → Lcg → Bool → Bool → Bool
suspects_by o draws lasts said = if lasts then is_within o.lasting (next_word draws) else said

abbrev pub after_last : Lcg → Bool → Lcg
after_last draws lasts = if lasts then after_word draws else draws

abbrev pub after_suspicion : List Bool → Option Ask → Bool → List Bool
after_suspicion suspected None suspects = suspected
after_suspicion suspected (Some ask) suspects = set suspected (at_ask ask) suspects

-- ---- crashes

-- as many members of n crash as are asked for, each named by a word
abbrev pub crashes_by : ℕ → ℕ → Lcg → List Disturbance
crashes_by n zero draws = []
crashes_by n (suc more) draws = Crash (next_word draws % n + 1) ∷ crashes_by n more (after_word draws)

-- the generator of these words starts behind the seeds of all walks
unfoldable pub fifth_script : WalkOptions → List Disturbance
fifth_script o = crashes_by o.run.members o.crashes (words_of_seed (2 ^ 32 + o.run.seed))
