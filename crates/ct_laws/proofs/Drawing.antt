-- Walks, turn by turn.
use Rattle.std.proofs.Common.{◌≡◌, ◌+◌, ◌-◌, ℕ, zero, suc, Bool, true, false, List, [], ◌∷◌, ◌++◌, refl, ap, sym, ◌∙◌, subst, arith}
use Rattle.std.proofs.lemmas.Bool.{cond_both}
use Rattle.std.proofs.lemmas.List.{append_cancel_left}
use Rattle.std.specs.Prelude.{if◌then◌else◌, Option, Some, None, is_none, option_map, slice_get, ⊤}
use Rattle.ct_names.specs.Prefix.{IsPrefix}
use Rattle.ct_names.specs.declared.refusal.Refusal.{Refusal}
use Rattle.ct_model.specs.Cause.{cause}
use Rattle.ct_model.specs.Rehearsal.{Rehearsal, empty, extended}
use Rattle.ct_model.specs.declared.step.Step.{Step}
use Rattle.ct_model.specs.declared.step.Step.TheVariants as step
use Rattle.ct_world.specs.Driving.{next_local}
use Rattle.ct_detect.specs.Seeded.{SeededState, after_word}
use Rattle.ct_detect.specs.declared.ask.Ask.{Ask}
use Rattle.ct_choices.specs.Choices.{after_try, chosen, first_waiting, has_crashed, question, receives}
use Rattle.ct_rehearse.specs.Entries.{entry_step}
use Rattle.ct_rehearse.specs.declared.disturbance.Disturbance.{Disturbance}
use Rattle.ct_rehearse.specs.declared.disturbance.Disturbance.TheVariants as entry
use Rattle.ct_grammar.specs.declared.goal.Goal.{Goal}
use Rattle.ct_program.specs.FreeOptions.{setting_of}
use Rattle.ct_program.specs.Seeding.{first_detectors}
use Rattle.ct_play.specs.Played.{Played}
use Rattle.ct_walk.specs.Shown.{is_shown_by}
use Rattle.ct_walk.specs.Adversary.{after_place, after_suspicion, at_ask, may_last, tries}
use Rattle.ct_walk.specs.Walking.{Walk, after_chance, after_entry, after_script, answer, changed_now, drawn}
use Rattle.ct_walk.specs.Walking.{driven, entered, lasts, left_of, made_by, most_turns}
use Rattle.ct_walk.specs.Walking.{receives_at, start, suspects, turned, walked, walked_for}
use Rattle.ct_walk.specs.declared.options.WalkOptions.{WalkOptions}
use Rattle.ct_laws.specs.Places.{AreAllowed, behind}
use Rattle.ct_laws.specs.Walks.{HaveNoSuspicion, is_suspicion}
use Rattle.ct_laws.proofs.Deeds.{Grows, grows_not, grows_on}
use Rattle.ct_laws.proofs.Finding.{each_get, each_replicate, each_set}
use Rattle.ct_laws.proofs.Rates.{AllRated, AreFalse, never_yes, rated_first, rated_there, still_rated, suspects_said, suspects_yes}

-- ---- what is tried without a yes

abbrev IsCalm : Option Step → Type 0
IsCalm None = ⊤
IsCalm (Some step) = is_suspicion step ≡ false

receipt_calm : (p : ℕ) (o : Option ℕ) → IsCalm (receives p o)
receipt_calm p None = tt
receipt_calm p (Some k) = refl

chosen_calm : (p : ℕ) (serial : Option ℕ) (o : Option Step) → IsCalm (chosen p serial false o)
chosen_calm p serial None = receipt_calm p serial
chosen_calm p serial (Some (step.Suspect q)) = receipt_calm p serial
chosen_calm p serial (Some other) = refl

tries_calm : (w : Rehearsal) (p : ℕ) (serial : Option ℕ) → IsCalm (tries w p serial false)
unfolding tries
tries_calm w p serial =
    let o = next_local w p in
    cond_both (has_crashed w p) None (chosen p serial false o) IsCalm (λ e. tt) (λ e. chosen_calm p serial o)

some_calm : (f : ℕ → Step) → ((k : ℕ) → is_suspicion (f k) ≡ false) → (o : Option ℕ) → IsCalm (option_map f o)
some_calm f is None = tt
some_calm f is (Some k) = is k

entry_calm : (w : Rehearsal) (e : Disturbance) → IsCalm (entry_step w e)
unfolding entry_step
entry_calm w (entry.Submit p c) = refl
entry_calm w (entry.Crash p) = refl
entry_calm w (entry.Postpone p) = some_calm (step.Postpone p) (λ k. refl) (first_waiting w p)
entry_calm w (entry.Lose p) = some_calm (step.Lose p) (λ k. refl) (first_waiting w p)
entry_calm w (entry.Repeat p k) = refl

-- ---- records that grow

-- a stage with this record
abbrev stage : Rehearsal → Played
stage w = record { rehearsal = w; sides = [] }

-- where it is asked for, nobody is suspected
abbrev AreQuiet : Bool → List Step → Type 0
AreQuiet true steps = HaveNoSuspicion steps
AreQuiet false steps = ⊤

abbrev IsQuiet : Bool → Option Step → Type 0
IsQuiet true o = IsCalm o
IsQuiet false o = ⊤

Goes : Bool → Rehearsal → Rehearsal → Type 0
Goes quiet w v = Grows (AreQuiet quiet) (stage w) (stage v)

no_steps : (quiet : Bool) → AreQuiet quiet []
no_steps true = tt
no_steps false = tt

one_step : (quiet : Bool) (step : Step) → IsQuiet quiet (Some step) → AreQuiet quiet (step ∷ [])
one_step true step h = (h, tt)
one_step false step h = tt

both_quiet : (a b : List Step) → HaveNoSuspicion a → HaveNoSuspicion b → HaveNoSuspicion (a ++ b)
both_quiet [] b h k = k
both_quiet (step ∷ a) b h k = (h.0, both_quiet a b h.1 k)

all_quiet : (quiet : Bool) (a b : List Step) → AreQuiet quiet a → AreQuiet quiet b → AreQuiet quiet (a ++ b)
all_quiet true a b h k = both_quiet a b h k
all_quiet false a b h k = tt

goes_not : (quiet : Bool) (w : Rehearsal) → Goes quiet w w
unfolding Goes
goes_not quiet w = grows_not (AreQuiet quiet) (stage w) (no_steps quiet)

goes_on : (quiet : Bool) (u v w : Rehearsal) → Goes quiet u v → Goes quiet v w → Goes quiet u w
unfolding Goes
goes_on quiet u v w g h =
    grows_on (AreQuiet quiet) (AreQuiet quiet) (AreQuiet quiet) (stage u) (stage v) (stage w) g h
    (λ a b _ _ here later. all_quiet quiet a b here later)

free_goes : (quiet : Bool) (w : Rehearsal) (step : Step) (o : Option Refusal) → cause w step ≡ o → IsQuiet quiet (Some step) →
    Goes quiet w (if is_none o then extended w step else w)
unfolding Goes
free_goes quiet w step None free h = record { steps = step ∷ []; is = refl; allowed = (free, tt); so = one_step quiet step h }
free_goes quiet w step (Some refusal) free h = grows_not (AreQuiet quiet) (stage w) (no_steps quiet)

try_goes : (quiet : Bool) (w : Rehearsal) (o : Option Step) → IsQuiet quiet o → Goes quiet w (after_try w o)
try_goes quiet w None h = goes_not quiet w
try_goes quiet w (Some step) h = free_goes quiet w step (cause w step) refl h

-- ---- detectors of rate 0

-- and nobody was suspected
record IsSilent (w : Walk) : Type 0 where
  pub rated : AllRated 0 w.detectors
  pub none : AreFalse w.suspected

abbrev AreSilent : Bool → Walk → Type 0
AreSilent true w = IsSilent w
AreSilent false w = ⊤

never_answers : (ds : List SeededState) (p : ℕ) (ask : Option Ask) (o : Option SeededState) → slice_get ds (p - 1) ≡ o → AllRated 0 ds →
    answer ask o ≡ false
never_answers ds p None o is h = refl
never_answers ds p (Some ask) None is h = refl
never_answers ds p (Some ask) (Some d) is h = never_yes d (rated_there 0 ds (p - 1) d h is)

tries_no : (w : Rehearsal) (p : ℕ) (serial : Option ℕ) (yes : Bool) → yes ≡ false → IsCalm (tries w p serial yes)
tries_no w p serial said nay = subst (λ b. IsCalm (tries w p serial b)) (sym nay) (tries_calm w p serial)

none_lasts : (o : WalkOptions) (s : List Bool) (asks : Option Ask) (said : Bool) → AreFalse s → may_last o s asks said ≡ false
none_lasts o s None said h = refl
none_lasts o s (Some ask) said h = let no = each_get (λ b. b ≡ false) s (at_ask ask) false h refl in grind arith

never_suspects : (o : WalkOptions) (w : Walk) (p : ℕ) → IsSilent w → suspects o w p ≡ false
never_suspects o w p h =
    let asks = question w.rehearsal p in
    let said = answer asks (slice_get w.detectors (p - 1)) in
    suspects_said o (after_place o w.draws) (lasts o w p) said (none_lasts o w.suspected asks said h.none)
    ∙ (never_answers w.detectors p asks (slice_get w.detectors (p - 1)) refl h.rated)

tries_quiet : (quiet : Bool) (o : WalkOptions) (w : Walk) (p : ℕ) (serial : Option ℕ) → AreSilent quiet w →
    IsQuiet quiet (tries w.rehearsal p serial (suspects o w p))
tries_quiet true o w p serial h = tries_no w.rehearsal p serial (suspects o w p) (never_suspects o w p h)
tries_quiet false o w p serial h = tt

still_false : (s : List Bool) (asks : Option Ask) (b : Bool) → AreFalse s → b ≡ false → AreFalse (after_suspicion s asks b)
still_false s None b h nay = h
still_false s (Some ask) b h nay = each_set (λ b. b ≡ false) s (at_ask ask) b h nay

driven_silent : (quiet : Bool) (o : WalkOptions) (w : Walk) (p : ℕ) → AreSilent quiet w → AreSilent quiet (driven o w p)
unfolding driven
driven_silent true o w p h = record {
  rated = still_rated 0 w.detectors p (question w.rehearsal p) h.rated;
  none = still_false w.suspected (question w.rehearsal p) (suspects o w p) h.none (never_suspects o w p h);
}
driven_silent false o w p h = tt

-- of one with the same detectors and suspicions
same_silent : (quiet : Bool) (w v : Walk) → v.detectors ≡ w.detectors → v.suspected ≡ w.suspected → AreSilent quiet w → AreSilent quiet v
same_silent true w v detectors suspected h = record {
  rated = subst (λ (ds : List SeededState). AllRated 0 ds) (sym detectors) h.rated;
  none = subst (λ (s : List Bool). AreFalse s) (sym suspected) h.none;
}
same_silent false w v detectors suspected h = tt

-- ---- turns

-- after a walk went on
record HasGone (quiet : Bool) (w v : Walk) : Type 0 where
  pub goes : Goes quiet w.rehearsal v.rehearsal
  pub silent : AreSilent quiet v

stays : (quiet : Bool) (w v : Walk) → v.rehearsal ≡ w.rehearsal → v.detectors ≡ w.detectors → v.suspected ≡ w.suspected →
    AreSilent quiet w → HasGone quiet w v
stays quiet w v same detectors suspected h = record {
  goes = subst (λ (r : Rehearsal). Goes quiet w.rehearsal r) (sym same) (goes_not quiet w.rehearsal);
  silent = same_silent quiet w v detectors suspected h;
}

if_on : (quiet c : Bool) (w u v : Walk) → HasGone quiet w u → HasGone quiet w v → HasGone quiet w (if c then u else v)
if_on quiet true w u v h k = h
if_on quiet false w u v h k = k

gone_on : (quiet : Bool) (u v w : Walk) → HasGone quiet u v → HasGone quiet v w → HasGone quiet u w
gone_on quiet u v w g h = record { goes = goes_on quiet u.rehearsal v.rehearsal w.rehearsal g.goes h.goes; silent = h.silent }

driven_on : (quiet : Bool) (o : WalkOptions) (w : Walk) (p : ℕ) → AreSilent quiet w → HasGone quiet w (driven o w p)
unfolding driven
driven_on quiet o w p h =
    let step = tries w.rehearsal p (receives_at o w p) (suspects o w p) in
    record {
      goes = try_goes quiet w.rehearsal step (tries_quiet quiet o w p (receives_at o w p) h);
      silent = driven_silent quiet o w p h;
    }

quiet_of : (quiet : Bool) (o : Option Step) → IsCalm o → IsQuiet quiet o
quiet_of true o h = h
quiet_of false o h = tt

entry_goes : (quiet : Bool) (w : Rehearsal) (o : Option Disturbance) → Goes quiet w (after_entry w o)
entry_goes quiet w None = goes_not quiet w
entry_goes quiet w (Some e) = try_goes quiet w (entry_step w e) (quiet_of quiet (entry_step w e) (entry_calm w e))

entered_on : (quiet : Bool) (w : Walk) (i : ℕ) → AreSilent quiet w → HasGone quiet w (entered w i)
unfolding entered
entered_on quiet w i h = record {
  goes = entry_goes quiet w.rehearsal (slice_get (left_of w i) 0);
  silent = same_silent quiet w (entered w i) refl refl h;
}

script_on : (quiet : Bool) (w : Walk) (o : Option ℕ) → AreSilent quiet w → HasGone quiet w (after_script w o)
script_on quiet w None h = stays quiet w w refl refl refl h
script_on quiet w (Some i) h = entered_on quiet w i h

drawn_on : (quiet : Bool) (o : WalkOptions) (w : Walk) → AreSilent quiet w → HasGone quiet w (drawn o w)
unfolding drawn made_by
drawn_on quiet o w h =
    let v = record w { draws = after_word w.draws } in
    let same = same_silent quiet w v refl refl h in
    let gone : HasGone quiet v (drawn o w) = search (if_on, driven_on, script_on, same) in
    record { goes = gone.goes; silent = gone.silent }

changed_on : (quiet : Bool) (w : Walk) → AreSilent quiet w → HasGone quiet w (changed_now w)
unfolding changed_now
changed_on quiet w h = search (if_on, stays)

chance_on : (quiet : Bool) (w : Walk) → AreSilent quiet w → HasGone quiet w (after_chance w)
unfolding after_chance
chance_on quiet w h = search (if_on, stays)

-- before the turn itself
before_on : (quiet : Bool) (w : Walk) → AreSilent quiet w → HasGone quiet w (after_chance (changed_now w))
before_on quiet w h =
    let changed = changed_on quiet w h in
    gone_on quiet w (changed_now w) (after_chance (changed_now w)) changed (chance_on quiet (changed_now w) changed.silent)

turned_on : (quiet : Bool) (o : WalkOptions) (number : ℕ) (w : Walk) → AreSilent quiet w → HasGone quiet w (turned o number w)
unfolding turned
turned_on quiet o number w h =
    let u = after_chance (changed_now w) in
    let before = before_on quiet w h in
    let rest : HasGone quiet u (turned o number w) = search (if_on, entered_on, drawn_on, before.silent) in
    gone_on quiet w u (turned o number w) before rest

-- the steps of a record begin those after a turn
pub turn_begins : (o : WalkOptions) (number : ℕ) (w : Walk) → IsPrefix w.rehearsal.steps (turned o number w).rehearsal.steps
unfolding Goes
turn_begins o number w =
    let g = (turned_on false o number w tt).goes in
    (g.steps, sym (ap (λ (s : Played). s.rehearsal.steps) g.is))

-- ---- the walk

walk_goes : (quiet : Bool) (o : WalkOptions) (made more : ℕ) (w : Walk) → AreSilent quiet w →
    Goes quiet w.rehearsal (walked_for o made more w).rehearsal
unfolding walked_for
walk_goes quiet o made zero w h = goes_not quiet w.rehearsal
walk_goes quiet o made (suc more) w h =
    let v = turned o (made + 1) w in
    let gone = turned_on quiet o (made + 1) w h in
    let rest = walked_for o (made + 1) more v in
    cond_both (is_shown_by v.until v.rehearsal) v rest (λ (u : Walk). Goes quiet w.rehearsal u.rehearsal) (λ e. gone.goes)
    (λ e. goes_on quiet w.rehearsal v.rehearsal rest.rehearsal gone.goes (walk_goes quiet o (made + 1) more v gone.silent))

first_silent : (o : WalkOptions) (until : Option Goal) → o.run.rate ≡ 0 → IsSilent (start o until)
unfolding start
first_silent o until h = record {
  rated = subst (λ rate. AllRated rate (first_detectors o.run o.run.members)) h (rated_first o.run o.run.members);
  none = each_replicate (λ b. b ≡ false) 256 false refl;
}

walked_goes : (quiet : Bool) (o : WalkOptions) (until : Option Goal) → AreSilent quiet (start o until) →
    Goes quiet (empty (setting_of o.run) o.run.cells) (walked o until)
unfolding walked start
walked_goes quiet o until h = walk_goes quiet o 0 (most_turns o) (start o until) h

steps_of : (quiet : Bool) (o : WalkOptions) (until : Option Goal) (g : Goes quiet (empty (setting_of o.run) o.run.cells) (walked o until)) →
    AreAllowed (empty (setting_of o.run) o.run.cells) (walked o until).steps × AreQuiet quiet (walked o until).steps
unfolding Goes
steps_of quiet o until g =
    let same : g.steps ≡ (walked o until).steps = sym (ap (λ (s : Played). s.rehearsal.steps) g.is) in
    (subst (λ l. AreAllowed (empty (setting_of o.run) o.run.cells) l) same g.allowed, subst (λ l. AreQuiet quiet l) same g.so)

pub walk_allowed : (o : WalkOptions) (until : Option Goal) → AreAllowed (empty (setting_of o.run) o.run.cells) (walked o until).steps
walk_allowed o until = (steps_of false o until (walked_goes false o until tt)).0

pub walk_quiet : (o : WalkOptions) (until : Option Goal) → o.run.rate ≡ 0 → HaveNoSuspicion (walked o until).steps
walk_quiet o until h = (steps_of true o until (walked_goes true o until (first_silent o until h))).1

-- ---- a member that doesn't suspect, and one whose detector says yes

pub only_asked : (o : WalkOptions) (w : Walk) (p : ℕ) (steps : List Step) → suspects o w p ≡ false →
    (driven o w p).rehearsal ≡ behind w.rehearsal steps → HaveNoSuspicion steps
unfolding driven Goes
only_asked o w p steps nay is =
    let step = tries w.rehearsal p (receives_at o w p) (suspects o w p) in
    let g = try_goes true w.rehearsal step (tries_no w.rehearsal p (receives_at o w p) (suspects o w p) nay) in
    let same : w.rehearsal.steps ++ g.steps ≡ w.rehearsal.steps ++ steps =
    ap (λ (s : Played). s.rehearsal.steps) (sym g.is) ∙ ap (λ (v : Rehearsal). v.steps) is in
    subst (λ l. HaveNoSuspicion l) (append_cancel_left w.rehearsal.steps g.steps steps same) g.so

pub says_so : (o : WalkOptions) (w : Walk) (p : ℕ) → answer (question w.rehearsal p) (slice_get w.detectors (p - 1)) ≡ true →
    suspects o w p ≡ true
says_so o w p h =
    suspects_yes o (after_place o w.draws) w.suspected (question w.rehearsal p)
    (answer (question w.rehearsal p) (slice_get w.detectors (p - 1))) h
