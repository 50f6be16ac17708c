-- What one step more adds to what is drawn.
use Rattle.std.proofs.Common.{◌≡◌, ℕ, zero, suc, ◌+◌, ◌≤◌, List, [], ◌∷◌, ◌++◌, drop, length, take, Option, Some, None, Result, Ok, Err}
use Rattle.std.proofs.Common.{refl}
use Rattle.std.proofs.Common.{sym, ap, ◌-◌, ◌<◌, ◌∙◌, subst, inl, inr, arith, Bool, true, false, leb-true, length-append, nat_le, get_or}
use Rattle.std.proofs.lemmas.List.{get_or-drop}
use Rattle.std.proofs.lemmas.Option.{get_or_from_slice_get}
use Rattle.std.specs.Prelude.{IfErr, IsErrAnd, if◌then◌else◌, slice_get}
use Rattle.ct_names.proofs.Lists.{both-left}
use Rattle.ct_model.specs.declared.step.Step.{Step}
use Rattle.ct_model.specs.Rehearsal.{Rehearsal, state_of, extended}
use Rattle.ct_model.specs.Senders.{senders}
use Rattle.ct_model.specs.Setting.{Setting}
use Rattle.ct_records.proofs.Refused.{is_refused}
use Rattle.ct_world.specs.declared.replay.Replayed.{Replayed}
use Rattle.ct_world.specs.declared.replay_fault.ReplayFault.{ReplayFault}
use Rattle.ct_world.specs.Replay.{IsFaultOf, first_steps}
use Rattle.ct_diagram.specs.declared.drawn.Drawn.{Drawn}
use Rattle.ct_told.specs.declared.show_fault.ShowFault.{ShowFault}
use Rattle.ct_told.specs.declared.show_fault.ShowFault.TheVariants.{NoMember, Program, TooManySteps, Unread}
use Rattle.ct_diagram.specs.declared.sight.Glance.{Glance}
use Rattle.ct_diagram.specs.declared.window.Window.{Window}
use Rattle.ct_diagram.specs.Diagram.{Layer, drawn_next, first_layer, first_trail, layer_next, one_drawn, one_of, FailsWith, IsOfReplay}
use Rattle.ct_diagram.specs.declared.window.TheConstants.{MOST_STEPS}
use Rattle.ct_told.specs.Faults.{IsOfReplayFault}
use Rattle.ct_diagram.specs.Sight.{glance_of}
use Rattle.ct_diagram.specs.Window.{is_drawn, part_of, steps_in}

-- what is known of step i of a record, counted from 0, once it is done, with the record up to it, and what was seen before it
pub record IsStep (w : Rehearsal) (i : ℕ) (it : Replayed) (v : Rehearsal) (glance : Glance) : Type 0 where
  pub there : slice_get w.steps i ≡ Some it.step
  pub number : it.number ≡ i + 1
  pub before : it.before ≡ length (state_of (first_steps w.setting w.cells w.steps i)).sent
  pub joined : v ≡ extended (first_steps w.setting w.cells w.steps i) it.step
  pub seen : glance ≡ glance_of (first_steps w.setting w.cells w.steps i) it.step

-- the steps that were drawn
pub trail_more : (window : Window) (w v : Rehearsal) (i : ℕ) (it : Replayed) (seen : Glance) (old new : List Drawn) →
    IsStep w i it v seen → old ≡ first_trail window w.setting w.cells w.steps i →
    new ≡ old ++ one_drawn window v old it.before it.number it.step seen → new ≡ first_trail window w.setting w.cells w.steps (i + 1)
trail_more window w v i it seen old new h so_far more =
    let next : i + 1 ≡ suc i = omega arith in
    let base = first_steps w.setting w.cells w.steps i in
    let trail = first_trail window w.setting w.cells w.steps i in
    let one : first_trail window w.setting w.cells w.steps (suc i) ≡ trail ++ drawn_next window base trail i (Some it.step) =
    ap (λ o. trail ++ drawn_next window base trail i o) h.there in
    more ∙ rw (so_far, h.joined, h.before, h.number, h.seen) refl
    ∙ sym (ap (first_trail window w.setting w.cells w.steps) next ∙ one)

-- what a layer has of them
pub layer_more : (layer : Layer) (window : Window) (w v : Rehearsal) (i : ℕ) (it : Replayed) (seen : Glance) (from : List ℕ)
    (trail : List Drawn) (later : List Step) (old new : List ℕ) → IsStep w i it v seen →
    from ≡ senders w.setting (take (i + 1) w.steps) → trail ≡ first_trail window w.setting w.cells w.steps i →
    later ≡ drop (i + 1) w.steps → old ≡ first_layer layer window w.setting w.cells w.steps i →
    new ≡ old ++ one_of layer window v from trail it.before it.number it.step seen later →
    new ≡ first_layer layer window w.setting w.cells w.steps (i + 1)
layer_more layer window w v i it seen from trail later old new h sent drawn rest so_far more =
    let next : i + 1 ≡ suc i = omega arith in
    let base = first_steps w.setting w.cells w.steps i in
    let so_far_drawn = first_trail window w.setting w.cells w.steps i in
    let all = senders w.setting (take (i + 1) w.steps) in
    let one : first_layer layer window w.setting w.cells w.steps (suc i) ≡ first_layer layer window w.setting w.cells w.steps i
    ++ layer_next layer window base all so_far_drawn i (drop (i + 1) w.steps) (Some it.step) =
    ap (λ o. first_layer layer window w.setting w.cells w.steps i
    ++ layer_next layer window base all so_far_drawn i (drop (i + 1) w.steps) o) h.there in
    more ∙ rw (so_far, h.joined, h.before, h.number, h.seen, sent, drawn, rest) refl
    ∙ sym (ap (first_layer layer window w.setting w.cells w.steps) next ∙ one)

-- the first one of those that are left
pub left_first : (steps : List Step) (i : ℕ) (it d : Step) → slice_get steps i ≡ Some it → get_or (drop i steps) 0 d ≡ it
left_first steps i it d there =
    let same : i ≡ i + 0 = omega arith in
    get_or-drop i steps 0 d ∙ get_or_from_slice_get steps (i + 0) it d (subst (λ k. slice_get steps k ≡ Some it) same there)

-- how many steps are drawn of the first k: at most those from the window's first one on
one_few : (b : Bool) (one : Drawn) (from number : ℕ) → (b ≡ true → from ≤ number) →
    length (if b then one ∷ [] else []) + (number - from) ≤ (number + 1) - from
one_few true one from number h = let reached = h refl in omega arith
one_few false one from number h = omega arith

next_few : (window : Window) (w : Rehearsal) (trail : List Drawn) (k : ℕ) (step : Option Step) →
    length (drawn_next window w trail k step) + ((k + 1) - window.from) ≤ (k + 1 + 1) - window.from
next_few window w trail k None = omega arith
next_few window w trail k (Some step) =
    one_few (is_drawn window (k + 1)) _ window.from (k + 1)
    (λ drawn. leb-true window.from (k + 1) (both-left (nat_le window.from (k + 1)) (nat_le (k + 1) window.to) drawn))

pub trail_few : (window : Window) (s : Setting) (cells : ℕ) (steps : List Step) (k : ℕ) →
    length (first_trail window s cells steps k) ≤ (k + 1) - window.from
trail_few window s cells steps zero = omega arith
trail_few window s cells steps (suc k) =
    let trail = first_trail window s cells steps k in
    let more = drawn_next window (first_steps s cells steps k) trail k (slice_get steps k) in
    let so_far : length trail ≤ (k + 1) - window.from = trail_few window s cells steps k in
    let one : length more + ((k + 1) - window.from) ≤ (k + 1 + 1) - window.from =
    next_few window (first_steps s cells steps k) trail k (slice_get steps k) in
    let all : length (trail ++ more) ≡ length trail + length more = length-append trail more in
    omega arith

-- so many as a diagram can have, and fewer where a step is still to come
pub trail_within : (window : Window) (s : Setting) (cells : ℕ) (steps : List Step) (k : ℕ) (trail : List Drawn) →
    trail ≡ first_trail window s cells steps k → k ≡ length steps → (length steps + 1) - window.from ≤ 400 → length trail ≤ 400
trail_within window s cells steps k trail is within narrow =
    let few = trail_few window s cells steps k in
    rw is (omega arith)

pub trail_below : (window : Window) (s : Setting) (cells : ℕ) (steps : List Step) (k : ℕ) (trail : List Drawn) →
    trail ≡ first_trail window s cells steps k → k < length steps → (length steps + 1) - window.from ≤ 400 → length trail < 400
trail_below window s cells steps k trail is within narrow =
    let few = trail_few window s cells steps k in
    rw is (omega arith)

-- a step that is refused is the fault of the record
pub of_replay : (w : Rehearsal) (replay : ReplayFault) (fault : ShowFault) →
    IsFaultOf w.setting w.cells w.steps replay.at replay.refusal → IsOfReplayFault replay fault → IsOfReplay fault w
of_replay w replay (NoMember member members) h none = absurd none
of_replay w replay (TooManySteps steps) h none = absurd none
of_replay w replay (Unread told) h none = absurd none
of_replay w replay (Program fault) h (inl memory) = rw memory.1 tt
of_replay w replay (Program fault) h (inr other) = rw other.1 (is_refused w replay.at replay.refusal h other.0)

-- the fault that is handed on
pub handed_on : {T : Type 0} (r : Result T ShowFault) (w : Rehearsal) (replay : ReplayFault) →
    IsFaultOf w.setting w.cells w.steps replay.at replay.refusal → IsErrAnd r (IsOfReplayFault replay) → IfErr r (λ e. IsOfReplay e w)
handed_on (Ok x) w replay h given = tt
handed_on (Err fault) w replay h given = of_replay w replay fault h given

-- the same where so many steps can be drawn
pub fails_on : (window : Window) (fault : ShowFault) (w : Rehearsal) → steps_in window (part_of window w).steps ≤ MOST_STEPS →
    IsOfReplay fault (part_of window w) → FailsWith window fault w
fails_on window (NoMember member members) w few h = absurd h
fails_on window (TooManySteps steps) w few h = absurd h
fails_on window (Unread told) w few h = absurd h
fails_on window (Program fault) w few h = (few, h)

pub handed_over : {T : Type 0} (r : Result T ShowFault) (window : Window) (fault : ShowFault) (w part : Rehearsal) →
    IsOfReplay fault part → IsErrAnd r (λ e. e ≡ fault) → part ≡ part_of window w → steps_in window part.steps ≤ MOST_STEPS →
    IfErr r (λ e. FailsWith window e w)
handed_over (Ok x) window fault w part h is same few = tt
handed_over (Err e) window fault w part h is same few =
    rw is (fails_on window fault w (subst (λ (p : Rehearsal). steps_in window p.steps ≤ MOST_STEPS) same few)
    (subst (IsOfReplay fault) same h))
