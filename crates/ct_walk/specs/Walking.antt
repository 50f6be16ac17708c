-- A walk: what its turns come to, as a function of the options.
use Rattle.std.specs.Prelude.{ℕ, zero, suc, ◌+◌, ◌*◌, ◌-◌, ◌%◌, ◌==◌, Bool, false, not, ◌&&◌, ◌||◌, nat_lt, List, [], length, drop, filter}
use Rattle.std.specs.Prelude.{get_or, slice_get, set, sum_by, Option, Some, None, if◌then◌else◌, ◌++◌, ◌∷◌}
use Rattle.rand_pcg.specs.Lcg.{Lcg}
use Rattle.ct_grammar.specs.declared.goal.Goal.{Goal}
use Rattle.std.specs.List.{range_with_len}
use Rattle.ct_model.specs.Rehearsal.{Rehearsal, empty}
use Rattle.ct_detect.specs.declared.ask.Ask.{Ask}
use Rattle.ct_detect.specs.Seeded.{SeededState, words_of_seed, next_word, after_word}
use Rattle.ct_rehearse.specs.declared.disturbance.Disturbance.{Disturbance}
use Rattle.ct_choices.specs.Choices.{after_try, question}
use Rattle.ct_rehearse.specs.Entries.{entry_step}
use Rattle.ct_program.specs.FreeOptions.{setting_of}
use Rattle.ct_program.specs.Planning.{scripts_of}
use Rattle.ct_program.specs.Seeding.{first_detectors}
use Rattle.ct_walk.specs.declared.options.WalkOptions.{WalkOptions}
use Rattle.ct_walk.specs.Adversary.{after_last, after_place, after_suspicion, fifth_script, is_rare, may_last, nobody, place_of, received}
use Rattle.ct_walk.specs.Adversary.{suspects_by, tries}
use Rattle.ct_walk.specs.Shown.{is_shown_by}

-- the record; the goal that the walk is made until, where there is one; the generator of the words that turns are drawn by; the
-- members' detectors, member 1's first; what is left of each script, the first one's first; whom each member suspected when it last
-- asked; how many cuts are left; the cut that there is, 0 where the group is whole
pub record Walk : Type 0 where
  pub rehearsal : Rehearsal
  pub until : Option Goal
  pub draws : Lcg
  pub detectors : List SeededState
  pub scripts : List (List Disturbance)
  pub suspected : List Bool
  pub cuts : ℕ
  pub cut : ℕ

-- ---- what one turn comes to

-- whether a detector says yes to what it is asked next: its next word, modulo 256, is below its rate
abbrev pub says_yes : SeededState → Bool
says_yes d = nat_lt (next_word d.words % 256) d.rate

-- the detector once it answered
abbrev pub after_ask : SeededState → Ask → SeededState
after_ask d ask = record d { words = after_word d.words; last = Some (ask, says_yes d) }

-- the answer to a question of p, where this is its detector; no answer is no
abbrev pub answer : Option Ask → Option SeededState → Bool
answer (Some ask) (Some d) = says_yes d
answer _ _ = false

-- the detectors once p had its question answered, where this is its detector
abbrev pub after_answer : List SeededState → ℕ → Option Ask → Option SeededState → List SeededState
after_answer all p (Some ask) (Some d) = set all (p - 1) (after_ask d ask)
after_answer all p _ _ = all

-- the words that a turn of p is drawn by besides: the place that it receives from, and whether a suspicion lasts
abbrev pub lasts : WalkOptions → Walk → ℕ → Bool
lasts o w p =
    may_last o w.suspected (question w.rehearsal p) (answer (question w.rehearsal p) (slice_get w.detectors (p - 1)))

-- whether p suspects the coordinator that it asks about: its detector says yes, or the suspicion lasts
abbrev pub suspects : WalkOptions → Walk → ℕ → Bool
suspects o w p =
    suspects_by o (after_place o w.draws) (lasts o w p) (answer (question w.rehearsal p) (slice_get w.detectors (p - 1)))

-- the serial that p receives, where it receives one
abbrev pub receives_at : WalkOptions → Walk → ℕ → Option ℕ
receives_at o w p = received w.cut w.rehearsal p (place_of o w.draws w.rehearsal p)

-- after a turn of p: it tries what a driver does that suspects or not, and receives this serial
unfoldable pub driven : WalkOptions → Walk → ℕ → Walk
driven o w p =
    let asks = question w.rehearsal p in
    record w {
      rehearsal = after_try w.rehearsal (tries w.rehearsal p (receives_at o w p) (suspects o w p));
      draws = after_last (after_place o w.draws) (lasts o w p);
      detectors = after_answer w.detectors p asks (slice_get w.detectors (p - 1));
      suspected = after_suspicion w.suspected asks (suspects o w p);
    }

-- the record after an entry of a script is made
abbrev pub after_entry : Rehearsal → Option Disturbance → Rehearsal
after_entry w None = w
after_entry w (Some entry) = after_try w (entry_step w entry)

-- what is left of script i, counted from 0
abbrev pub left_of : Walk → ℕ → List Disturbance
left_of w i = get_or w.scripts i []

-- after the next entry of script i
unfoldable pub entered : Walk → ℕ → Walk
entered w i =
    record w { rehearsal = after_entry w.rehearsal (slice_get (left_of w i) 0); scripts = set w.scripts i (drop 1 (left_of w i)) }

-- ---- whose turn it is

-- entries of script i are left
abbrev pub has_left : Walk → ℕ → Bool
has_left w i = nat_lt 0 (length (left_of w i))

-- the turn of this number, from 1, is the first script's without a draw: it is a multiple of `every`, which isn't 0
unfoldable pub is_due : WalkOptions → ℕ → Walk → Bool
is_due o number w = has_left w 0 && (not (o.every == 0) && number % o.every == 0)

-- script i is drawn: it has entries left, and is not the first one, unless `every` is 0
abbrev pub is_drawn : WalkOptions → Walk → ℕ → Bool
is_drawn o w i = has_left w i && (nat_lt 0 i || o.every == 0)

-- the scripts that are drawn, of the first four
abbrev pub drawn_scripts : WalkOptions → Walk → List ℕ
drawn_scripts o w = filter (is_drawn o w) (range_with_len 0 4)

-- how many workers the coming turn is drawn from: the members, and the scripts that are drawn
unfoldable pub workers : WalkOptions → Walk → ℕ
workers o w = w.rehearsal.setting.members + length (drawn_scripts o w)

-- after an entry of the script, where there is one
abbrev pub after_script : Walk → Option ℕ → Walk
after_script w None = w
after_script w (Some i) = entered w i

-- after a turn of the worker of this number, from 0: the members, then the scripts that are drawn
unfoldable pub made_by : WalkOptions → Walk → ℕ → Walk
made_by o w k =
    let n = w.rehearsal.setting.members in
    if nat_lt k n then driven o w (k + 1) else after_script w (slice_get (drawn_scripts o w) (k - n))

-- after a turn of a worker that is drawn: the generator's next word, modulo the number of workers
unfoldable pub drawn : WalkOptions → Walk → Walk
drawn o w = made_by o (record w { draws = after_word w.draws }) (next_word w.draws % workers o w)

-- ---- what comes before a turn

-- a word is drawn for the cut: the group is cut, or is to be cut yet
abbrev pub may_change : Walk → Bool
may_change w = not (w.cut == 0 && w.cuts == 0)

-- a cut begins, by whose word each member's side is drawn; or it ends
abbrev pub changed : Walk → Walk
changed w =
    if w.cut == 0
    then record w { cut = next_word w.draws % 65536; cuts = w.cuts - 1; draws = after_word w.draws }
    else record w { cut = 0 }

-- where one word of 64 comes
unfoldable pub changed_now : Walk → Walk
changed_now w =
    let v = record w { draws = after_word w.draws } in
    if may_change w then (if is_rare (next_word w.draws) then changed v else v) else w

-- a word is drawn for the fifth script while entries of it are left
unfoldable pub after_chance : Walk → Walk
after_chance w = if has_left w 4 then record w { draws = after_word w.draws } else w

-- the turn is that script's: one word of 64 comes
abbrev pub is_struck : Walk → Bool
is_struck w = has_left w 4 && is_rare (next_word w.draws)

-- after the turn of this number, of the fifth script, of the first without a draw, or of a worker that is drawn
abbrev pub after_turn : WalkOptions → ℕ → Bool → Walk → Walk
after_turn o number struck w = if struck then entered w 4 else (if is_due o number w then entered w 0 else drawn o w)

unfoldable pub turned : WalkOptions → ℕ → Walk → Walk
turned o number w = let v = changed_now w in after_turn o number (is_struck v) (after_chance v)

-- ---- the walk

-- after so many turns more at most, where some were made: the walk stops after the turn that shows what it is made until
unfoldable pub walked_for : WalkOptions → ℕ → ℕ → Walk → Walk
walked_for o made zero w = w
walked_for o made (suc more) w =
    let v = turned o (made + 1) w in
    if is_shown_by v.until v.rehearsal then v else walked_for o (made + 1) more v

-- the scripts of a free run, and the crashes
abbrev pub all_scripts : WalkOptions → List (List Disturbance)
all_scripts o = scripts_of o.run ++ fifth_script o ∷ []

-- before the first turn. The generator of draws starts from the seed, and the detector of member m from the seed and m
unfoldable pub start : WalkOptions → Option Goal → Walk
start o until = record {
  rehearsal = empty (setting_of o.run) o.run.cells;
  until = until;
  draws = words_of_seed o.run.seed;
  detectors = first_detectors o.run o.run.members;
  scripts = all_scripts o;
  suspected = nobody;
  cuts = o.cuts;
  cut = 0;
}

-- how many entries these scripts have together
abbrev pub entries_left : List (List Disturbance) → ℕ
entries_left scripts = sum_by (λ script. length script) scripts

-- how many turns a walk has at most: those of the members, and an entry each of the scripts
abbrev pub most_turns : WalkOptions → ℕ
most_turns o = o.run.members * o.run.turns + entries_left (all_scripts o)

-- the record of the walk that these options ask for, made until the goal, where there is one
unfoldable pub walked : WalkOptions → Option Goal → Rehearsal
walked o until = (walked_for o 0 (most_turns o) (start o until)).rehearsal
