-- The turns of a walk one by one, for a world that others may change between them.
use Rattle.std.specs.Prelude.{ℕ, ◌+◌, ◌-◌, ◌%◌, ◌==◌, Bool, not, ◌&&◌, ◌||◌, nat_lt, List, [], length, filter, get_or}
use Rattle.std.specs.Prelude.{slice_get, Option, Some, None, if◌then◌else◌, option_and_then}
use Rattle.std.specs.List.{range_with_len}
use Rattle.rand_pcg.specs.Lcg.{Lcg}
use Rattle.ct_model.specs.Rehearsal.{Rehearsal}
use Rattle.ct_model.specs.declared.step.Step.{Step}
use Rattle.ct_detect.specs.Seeded.{SeededState, next_word, after_word}
use Rattle.ct_rehearse.specs.declared.disturbance.Disturbance.{Disturbance}
use Rattle.ct_rehearse.specs.Entries.{entry_step}
use Rattle.ct_walk.specs.declared.options.WalkOptions.{WalkOptions}
use Rattle.ct_walk.specs.declared.turn.Turn.{Turn}
use Rattle.ct_walk.specs.declared.turn.Turn.TheVariants as turn
use Rattle.ct_walk.specs.Adversary.{tries}
use Rattle.ct_walk.specs.Walking.{Walk, after_chance, changed_now, drawn_scripts, is_due, is_struck, left_of, most_turns, receives_at}
use Rattle.ct_walk.specs.Walking.{start, suspects, turned, workers}

-- ---- what a turn tries

-- what an entry of a script tries, where there is one
abbrev pub step_of_entry : Rehearsal → Option Disturbance → Option Step
step_of_entry w entry = option_and_then (entry_step w) entry

-- the next entry of script i, counted from 0
abbrev pub entry_tried : Walk → ℕ → Option Step
entry_tried w i = step_of_entry w.rehearsal (slice_get (left_of w i) 0)

-- a turn of p
abbrev pub driver_tries : WalkOptions → Walk → ℕ → Option Step
driver_tries o w p = tries w.rehearsal p (receives_at o w p) (suspects o w p)

-- the script's next entry, where there is one
abbrev pub script_tries : Walk → Option ℕ → Option Step
script_tries w None = None
script_tries w (Some i) = entry_tried w i

-- a turn of the worker of this number, from 0: the members, then the scripts that are drawn
unfoldable pub worker_tries : WalkOptions → Walk → ℕ → Option Step
worker_tries o w k =
    let n = w.rehearsal.setting.members in
    if nat_lt k n then driver_tries o w (k + 1) else script_tries w (slice_get (drawn_scripts o w) (k - n))

-- a turn of a worker that is drawn
abbrev pub drawn_tries : WalkOptions → Walk → Option Step
drawn_tries o w = worker_tries o (record w { draws = after_word w.draws }) (next_word w.draws % workers o w)

-- the turn of this number, of the fifth script, of the first without a draw, or of a worker that is drawn
abbrev pub turn_tries : WalkOptions → ℕ → Bool → Walk → Option Step
turn_tries o number struck w =
    if struck then entry_tried w 4 else (if is_due o number w then entry_tried w 0 else drawn_tries o w)

-- what the turn of this number tries, from 1, in the walk that is there before it; None where it tries nothing
unfoldable pub tried_in : WalkOptions → ℕ → Walk → Option Step
tried_in o number w = let v = changed_now w in turn_tries o number (is_struck v) (after_chance v)

-- ---- what turns are drawn from

-- all that the next turns depend on besides the world: the fields of a walk without its record and its goal
pub record Drawing : Type 0 where
  pub draws : Lcg
  pub detectors : List SeededState
  pub scripts : List (List Disturbance)
  pub suspected : List Bool
  pub cuts : ℕ
  pub cut : ℕ

-- a walk's
abbrev pub drawing_of : Walk → Drawing
drawing_of w = record {
  draws = w.draws;
  detectors = w.detectors;
  scripts = w.scripts;
  suspected = w.suspected;
  cuts = w.cuts;
  cut = w.cut;
}

-- the walk whose turns are drawn from this, in the world of this record; it is made until no goal
abbrev pub walk_in : Rehearsal → Drawing → Walk
walk_in w d = record {
  rehearsal = w;
  until = None;
  draws = d.draws;
  detectors = d.detectors;
  scripts = d.scripts;
  suspected = d.suspected;
  cuts = d.cuts;
  cut = d.cut;
}

-- entries of script i are left, counted from 0
abbrev pub any_left : Drawing → ℕ → Bool
any_left d i = nat_lt 0 (length (get_or d.scripts i []))

-- the turn of this number is a script's without a draw, where entries of it are left: it is a multiple of `every`, which isn't 0
abbrev pub is_multiple : WalkOptions → ℕ → Bool
is_multiple o number = not (o.every == 0) && number % o.every == 0

-- script i is drawn: it has entries left, and is not the first one, unless `every` is 0
abbrev pub is_open : WalkOptions → Drawing → ℕ → Bool
is_open o d i = any_left d i && (nat_lt 0 i || o.every == 0)

-- those that are, of the first four
abbrev pub open_scripts : WalkOptions → Drawing → List ℕ
open_scripts o d = filter (is_open o d) (range_with_len 0 4)

-- ---- turns one by one

-- the options; how many turns were made, and how many there are at most; what the next ones are drawn from
pub record Turning : Type 0 where
  pub options : WalkOptions
  pub made : ℕ
  pub most : ℕ
  pub drawing : Drawing

-- before the first turn
abbrev pub first_turning : WalkOptions → Turning
first_turning o = record { options = o; made = 0; most = most_turns o; drawing = drawing_of (start o None) }

-- turns are left
abbrev pub goes_on : Turning → Bool
goes_on t = nat_lt t.made t.most

-- what is told of a turn that tries this
abbrev pub told : Option Step → Turn
told None = turn.Rest
told (Some step) = turn.Step step

-- what the next turn tries in the world of this record, of whatever group; Over where none is left
unfoldable pub turn_of : Turning → Rehearsal → Turn
turn_of t w = if goes_on t then told (tried_in t.options (t.made + 1) (walk_in w t.drawing)) else turn.Over

-- after it; where none is left nothing changes
unfoldable pub after_turn_of : Turning → Rehearsal → Turning
after_turn_of t w =
    if goes_on t
    then record t { made = t.made + 1; drawing = drawing_of (turned t.options (t.made + 1) (walk_in w t.drawing)) }
    else t
