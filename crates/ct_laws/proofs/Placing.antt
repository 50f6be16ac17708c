-- The places of lines.
use Rattle.std.proofs.Common.{◌≡◌, ℕ, ◌+◌, Bool, true, false, List, [], ◌∷◌, length, refl, ap, sym, ◌∙◌, subst, arith, length-append}
use Rattle.std.proofs.lemmas.Bool.Decides.{nat_tests}
use Rattle.std.proofs.lemmas.List.{nil_from_length}
use Rattle.std.specs.List.{list_all}
use Rattle.std.specs.Prelude.{◌&&◌, find, not, if◌then◌else◌, Option, Some, None, Result, Ok, Err, is_some}
use Rattle.ct_names.proofs.Lists.{contrary}
use Rattle.ct_model.specs.Rehearsal.{Rehearsal, empty}
use Rattle.ct_model.specs.Setting.{Setting}
use Rattle.ct_model.specs.declared.step.Step.{Step}
use Rattle.ct_grammar.specs.Sides.{whole}
use Rattle.ct_grammar.specs.Texts.{lines_of}
use Rattle.ct_grammar.specs.declared.goal.Goal.{Goal}
use Rattle.ct_grammar.specs.declared.line.Line.{Line}
use Rattle.ct_grammar.specs.declared.line.Line.TheVariants.{Blank, Given, Play as Plays}
use Rattle.ct_grammar.specs.declared.play.Play.{Play}
use Rattle.ct_grammar.specs.declared.play.Play.TheVariants.{Act, Stated, Turns, Settle, Until, Cut, Heal, Expect, Ask}
use Rattle.ct_grammar.specs.declared.term.Term.{Term}
use Rattle.ct_grammar.specs.declared.who.Who.{Who}
use Rattle.ct_play.specs.Acting.{go_on}
use Rattle.ct_play.specs.Expecting.{all_known, expected, expected_of, unless_unmet, unmet}
use Rattle.ct_play.specs.Goals.{is_met, shows, uncut}
use Rattle.ct_play.specs.Played.{Played, with_record}
use Rattle.ct_play.specs.Playing.{played}
use Rattle.ct_play.specs.Turning.{after_round, after_rounds, is_still, reached, rested, settled, turned}
use Rattle.ct_play.specs.Who.{known, named, stranger, unless_strange}
use Rattle.ct_play.specs.declared.line_fault.LineFault.{LineFault}
use Rattle.ct_play.specs.declared.line_fault.LineFault.TheVariants.{Restless}
use Rattle.ct_judging.specs.Judging.{after_play, in_world, taken}
use Rattle.ct_judging.specs.Reading.{line_in}
use Rattle.ct_judging.specs.Schedule.{after_line, after_lines, finished, line_over, schedule}
use Rattle.ct_judging.specs.Standing.{Standing, given_in, headed, made_of, made_with, played_of, played_or_made, record_in, start, world_of}
use Rattle.ct_judging.specs.Telling.{Explained, told, told_if}
use Rattle.ct_judging.specs.declared.heading.Heading.{Heading}
use Rattle.ct_judging.specs.declared.misread.Misread.{Misread}
use Rattle.ct_laws.specs.Places.{AreAllowed, AreDeeds, ArePlaces, AreSettling, AreUntil, EachIsAllowed, HasPlaces, IsLine, IsPlay, IsTurn}
use Rattle.ct_laws.specs.Places.{IsTurnBefore, behind, joined, rounds, sides_behind, stage_behind, with_steps}
use Rattle.ct_laws.specs.Showing.{AreMet}
use Rattle.ct_laws.proofs.Deeds.{Grows, GrowsIf, act_grows, allowed_both, both_behind, going_on, grows_more, grows_not, grown_whole}
use Rattle.ct_laws.proofs.Deeds.{nothing_behind, stated_grows, whole_behind}
use Rattle.ct_laws.proofs.Expecting.Showing.{shows_so, so_shows}
use Rattle.ct_laws.proofs.Silent.{asked_same, ends_at, if_free, plainly, unless_same}
use Rattle.ct_laws.proofs.Taking.{Makes}
use Rattle.ct_laws.proofs.Turns.{all_grow, in_turns, rounds_grow, turns_grow}

-- ---- what is played

unless_named : (ps qs : List ℕ) (o : Option ℕ) → unless_strange ps o ≡ Ok qs → ps ≡ qs
unless_named ps qs None h = cc h
unless_named ps qs (Some p) h = absurd (cc h)

known_named : (n : ℕ) (by : Who) (ps : List ℕ) → known n by ≡ Ok ps → named n by ≡ ps
unfolding known
known_named n by ps h = unless_named (named n by) ps (stranger n (named n by)) h

known_on : (n : ℕ) (by : Who) (f : List ℕ → Result Played LineFault) (t : Played) → go_on (known n by) f ≡ Ok t →
    f (named n by) ≡ Ok t
known_on n by f t h = let on = going_on (known n by) f t h in ap f (known_named n by on.0 on.1) ∙ on.2

-- ---- what is shown

met_if : (c : Bool) (t : Term) (rest : Bool) (o : Option Term) → (if not c then Some t else o) ≡ None → (o ≡ None → rest ≡ true) →
    (c && rest) ≡ true
met_if true t rest o h more = more h
met_if false t rest o h more = absurd (cc h)

all_met : (s : Played) (goal : List Term) → find (λ t. not (is_met s t)) goal ≡ None → list_all (is_met s) goal ≡ true
all_met s [] h = refl
all_met s (t ∷ goal) h =
    met_if (is_met s t) t (list_all (is_met s) goal) (find (λ t. not (is_met s t)) goal) h (all_met s goal)

none_unmet : (s t : Played) (o : Option Term) → unless_unmet s o ≡ Ok t → o ≡ None
none_unmet s t None h = refl
none_unmet s t (Some term) h = absurd (cc h)

expected_shows : (s t : Played) (goal : Goal) → expected_of s goal ≡ Ok t → EachIsAllowed s.rehearsal → AreMet s goal
unfolding unmet shows
expected_shows s t goal h whole = shows_so goal s whole (all_met s goal (none_unmet s t (unmet s goal) h))

-- ---- turns

turned_grows : (s t : Played) (by : Who) (n : ℕ) (set : List ℕ) → turned s (Turns by n set) by n ≡ Ok t →
    GrowsIf (IsPlay s (Turns by n set)) s t
unfolding turned
turned_grows s t by n set h =
    let ps = named s.rehearsal.setting.members by in
    let is = known_on s.rehearsal.setting.members by (λ qs. Ok (after_rounds (Turns by n set) qs s n)) t h in
    let same : after_rounds (Turns by n set) ps s n ≡ t = cc is in
    subst (λ u. GrowsIf (IsPlay s (Turns by n set)) s u) same (rounds_grow (Turns by n set) (λ u. refl) ps s n)

still_same : (c : Bool) (t u : Played) → (if c then Ok t else Err Restless) ≡ Ok u → (c ≡ true) × (t ≡ u)
still_same true t u h = (refl, cc h)
still_same false t u h = absurd (cc h)

none_more : (s t : Played) (steps : List Step) → t ≡ with_steps s steps → is_still s t ≡ true → steps ≡ []
none_more s t steps is still =
    let same : length t.rehearsal.steps ≡ length s.rehearsal.steps = grind (arith, nat_tests) in
    let all : length t.rehearsal.steps ≡ length s.rehearsal.steps + length steps =
    ap (λ (u : Played). length u.rehearsal.steps) is ∙ length-append s.rehearsal.steps steps in
    nil_from_length steps (omega (arith, same, all))

settled_by : (s t : Played) (by : Who) (set ps : List ℕ) → rested (Settle by set) ps s ≡ Ok t → GrowsIf (AreSettling set s ps) s t
unfolding rested
settled_by s t by set ps h =
    let before = after_rounds (Settle by set) ps s 9999 in
    let last = after_round (Settle by set) ps before in
    let still = still_same (is_still before last) last t h in
    let g = rounds_grow (Settle by set) (λ u. refl) ps s 9999 in
    let k = all_grow (Settle by set) (λ u. refl) ps before in
    let none : k.steps ≡ [] = none_more before last k.steps k.is still.0 in
    record {
      steps = g.steps;
      is = sym still.1 ∙ k.is ∙ ap (with_steps before) none ∙ ap (with_record before) (nothing_behind before.rehearsal) ∙ g.is;
      allowed = g.allowed;
      so = λ whole. (
        9999,
        omega arith,
        g.so whole,
        subst (λ v. AreDeeds (IsTurn set) v ps []) g.is
            (subst (AreDeeds (IsTurn set) before ps) none (k.so (grown_whole s before g.steps g.is g.allowed whole))),
      );
    }

settled_grows : (s t : Played) (by : Who) (set : List ℕ) → settled s (Settle by set) by ≡ Ok t → GrowsIf (IsPlay s (Settle by set)) s t
unfolding settled
settled_grows s t by set h =
    let n = s.rehearsal.setting.members in
    settled_by s t by set (named n by) (known_on n by (λ ps. rested (Settle by set) ps s) t h)

reached_by : (s t : Played) (by : Who) (set : List ℕ) (goal : Goal) (ps : List ℕ) →
    expected_of (after_rounds (Until by set goal) ps s 10000) goal ≡ Ok t → GrowsIf (AreUntil goal set s ps) s t
reached_by s t by set goal ps h =
    let play = Until by set goal in
    let end = after_rounds play ps s 10000 in
    let before : (u : Played) → EachIsAllowed u.rehearsal → shows goal u ≡ false → AreMet u goal → ⊥ =
    λ u whole not met. contrary (shows goal u) (so_shows goal u whole met) not in
    let g = turns_grow play (IsTurnBefore goal set) (λ u p steps whole not here. (before u whole not, here)) (rounds 10000 ps) s in
    let is : end ≡ with_steps s g.steps = in_turns play ps s 10000 ∙ g.is in
    record {
      steps = g.steps;
      is = unless_same end t (unmet end goal) h ∙ is;
      allowed = g.allowed;
      so = λ whole. let turns = g.so whole in (
        turns.0,
        turns.1,
        turns.3,
        subst (λ v. AreMet v goal) is (expected_shows end t goal h (grown_whole s end g.steps is g.allowed whole)),
      );
    }

reached_grows : (s t : Played) (by : Who) (set : List ℕ) (goal : Goal) → reached s (Until by set goal) by goal ≡ Ok t →
    GrowsIf (IsPlay s (Until by set goal)) s t
unfolding reached
reached_grows s t by set goal h =
    let n = s.rehearsal.setting.members in
    let end : List ℕ → Played = λ ps. after_rounds (Until by set goal) ps s 10000 in
    let on = known_on n by (λ ps. go_on (all_known n goal) (λ _. expected_of (end ps) goal)) t h in
    reached_by s t by set goal (named n by) (going_on (all_known n goal) (λ _. expected_of (end (named n by)) goal) t on).2

-- ---- any line

-- nothing joined the record
grows_same : (P : List Step → Type 0) (s t : Played) → t ≡ s → (EachIsAllowed s.rehearsal → P []) → GrowsIf P s t
grows_same P s t same so = subst (GrowsIf P s) (sym same) (grows_not (λ steps. EachIsAllowed s.rehearsal → P steps) s so)

expects_grows : (s t : Played) (goal : Goal) → expected s goal ≡ Ok t → GrowsIf (IsPlay s (Expect goal)) s t
unfolding expected
expects_grows s t goal h =
    let on = (going_on (all_known s.rehearsal.setting.members goal) (λ _. expected_of s goal) t h).2 in
    grows_same (IsPlay s (Expect goal)) s t (unless_same s t (unmet s goal) on) (λ whole. (refl, expected_shows s t goal on whole))

-- whatever the record is
anyhow : (P : List Step → Type 0) (s t : Played) → Grows P s t → GrowsIf P s t
anyhow P s t g = grows_more P (λ steps. EachIsAllowed s.rehearsal → P steps) s t (λ steps h whole. h) g

-- from the stage whose sides are those behind the line
play_grows : (s t : Played) (play : Play) → played s play ≡ Ok t →
    GrowsIf (IsPlay s play) (record s { sides = sides_behind {E = Misread} s.sides (Ok (Plays play)) }) t
play_grows s t (Act by act) h = anyhow _ s t (act_grows by act (named s.rehearsal.setting.members by) s t h)
play_grows s t (Stated by act said) h = anyhow _ s t (stated_grows by act said (named s.rehearsal.setting.members by) s t h)
play_grows s t (Turns by n set) h = turned_grows s t by n set h
play_grows s t (Settle by set) h = settled_grows s t by set h
play_grows s t (Until by set goal) h = reached_grows s t by set goal h
play_grows s t (Cut sides) h = grows_same _ (record s { sides = sides }) t (cc h) (λ _. refl)
play_grows s t Heal h = grows_same _ (record s { sides = whole }) t (cc h) (λ _. refl)
play_grows s t (Expect goal) h = expects_grows s t goal h
play_grows s t (Ask question) h = grows_same _ s t (asked_same s t question h) (λ _. refl)

-- ---- where a line begins

-- the stage there, where the last record is w
abbrev at : Rehearsal → Option Played → Played
at w None = uncut (empty w.setting w.cells)
at w (Some p) = p

record IsPlaced (w : Rehearsal) (s u : Standing) (line : Result Line Misread) : Type 0 where
  pub own : List Step
  pub is : at w u.played ≡ stage_behind (at w s.played) line own
  pub allowed : AreAllowed (at w s.played).rehearsal own
  pub so : EachIsAllowed (at w s.played).rehearsal → IsLine (at w s.played) line own

made_empty : (h : Heading) (o : Option ℕ) (p : Played) (w : Rehearsal) → made_of h o ≡ Ok p → p.rehearsal.setting ≡ w.setting →
    p.rehearsal.cells ≡ w.cells → uncut (empty w.setting w.cells) ≡ p
made_empty h None p w is setting cells = absurd (cc)
made_empty h (Some n) p w is setting cells =
    let same : p ≡ made_with h n = sym (cc is) in
    ap (λ (s : Setting). uncut (empty s w.cells)) (sym setting) ∙ ap (λ c. uncut (empty p.rehearsal.setting c)) (sym cells)
    ∙ subst (λ (q : Played). uncut (empty q.rehearsal.setting q.rehearsal.cells) ≡ q) (sym same) refl

begins : (h : Heading) (o : Option Played) (p : Played) (w : Rehearsal) → played_or_made h o ≡ Ok p → p.rehearsal.setting ≡ w.setting →
    p.rehearsal.cells ≡ w.cells → at w o ≡ p
begins h None p w is setting cells = made_empty h h.group p w is setting cells
begins h (Some q) p w is setting cells = cc is

in_placed : (w : Rehearsal) (s u : Standing) (play : Play) (p q : Played) (rest : List Step) → played_of s ≡ Ok p →
    played p play ≡ Ok q → u ≡ record s { played = Some q } → behind (at w u.played).rehearsal rest ≡ w →
    IsPlaced w s u (Ok (Plays play))
unfolding played_of
in_placed w s u play p q rest of by now end =
    let g = play_grows p q play by in
    let at_u : at w u.played ≡ q = ap (λ (v : Standing). at w v.played) now in
    let last : behind q.rehearsal rest ≡ w = ap (λ (v : Played). behind v.rehearsal rest) (sym at_u) ∙ end in
    let setting : p.rehearsal.setting ≡ w.setting =
    sym (ap (λ (v : Played). v.rehearsal.setting) g.is) ∙ ap (λ (v : Rehearsal). v.setting) last in
    let cells : p.rehearsal.cells ≡ w.cells =
    sym (ap (λ (v : Played). v.rehearsal.cells) g.is) ∙ ap (λ (v : Rehearsal). v.cells) last in
    let at_s : at w s.played ≡ p = begins s.heading s.played p w of setting cells in
    record {
      own = g.steps;
      is = at_u ∙ g.is ∙ ap (λ v. stage_behind {E = Misread} v (Ok (Plays play)) g.steps) (sym at_s);
      allowed = subst (λ (v : Played). AreAllowed v.rehearsal g.steps) (sym at_s) g.allowed;
      so = subst (λ (v : Played). EachIsAllowed v.rehearsal → IsPlay v play g.steps) (sym at_s) g.so;
    }

in_world_on : (w : Rehearsal) (s u : Standing) (play : Play) (p : Played) (rest : List Step) (r : Result Played LineFault) →
    played_of s ≡ Ok p → played p play ≡ r → in_world s r ≡ Ok u → behind (at w u.played).rehearsal rest ≡ w →
    IsPlaced w s u (Ok (Plays play))
in_world_on w s u play p rest (Ok q) of by h end =
    let same : record s { played = Some q } ≡ u = cc h in
    in_placed w s u play p q rest of by (sym same) end
in_world_on w s u play p rest (Err fault) of by h end = absurd (cc h)

play_placed : (w : Rehearsal) (s u : Standing) (play : Play) (rest : List Step) (r : Result Played LineFault) → played_of s ≡ r →
    after_play s play r ≡ Ok u → behind (at w u.played).rehearsal rest ≡ w → IsPlaced w s u (Ok (Plays play))
play_placed w s u play rest (Ok p) of h end = in_world_on w s u play p rest (played p play) of refl h end
play_placed w s u play rest (Err fault) of h end = absurd (cc h)

given_still : (s u : Standing) (o : Option Heading) → headed s o ≡ Ok u → u.played ≡ s.played
given_still s u None h = absurd (cc h)
given_still s u (Some heading) h =
    ap (λ (v : Standing). v.played) (if_free (is_some s.played) (record s { heading = heading }) u h).1

still : (w : Rehearsal) (s u : Standing) → u.played ≡ s.played → at w u.played ≡ with_steps (at w s.played) []
still w s u same = ap (at w) same ∙ ap (with_record (at w s.played)) (sym (nothing_behind (at w s.played).rehearsal))

line_placed : (w : Rehearsal) (s u : Standing) (line : Line) (rest : List Step) → taken s line ≡ Ok u →
    behind (at w u.played).rehearsal rest ≡ w → IsPlaced w s u (Ok line)
line_placed w s u Blank rest h end = record { own = []; is = still w s u (cc h); allowed = tt; so = λ whole. refl }
line_placed w s u (Given given) rest h end =
    record { own = []; is = still w s u (given_still s u (given_in s.heading given) h); allowed = tt; so = λ whole. refl }
line_placed w s u (Plays play) rest h end = play_placed w s u play rest (played_of s) refl h end

told_placed : (w : Rehearsal) (s u : Standing) (r : Result Line Misread) (rest : List Step) → told_if s r ≡ Ok u →
    behind (at w u.played).rehearsal rest ≡ w → IsPlaced w s u r
told_placed w s u (Ok line) rest h end = line_placed w s u line rest (plainly s u line (taken s line) h) end
told_placed w s u (Err misread) rest h end = absurd (cc h)

-- ---- all lines

record AreAll (w : Rehearsal) (s : Standing) (lines : List (List ℕ)) : Type 0 where
  pub places : List (List Step)
  pub is : behind (at w s.played).rehearsal (joined places) ≡ w
  pub allowed : AreAllowed (at w s.played).rehearsal (joined places)
  pub are : EachIsAllowed (at w s.played).rehearsal → ArePlaces (at w s.played) lines places

ended_with : (h : Heading) (o : Option Played) (w : Rehearsal) → record_in (played_or_made h o) ≡ Ok w → behind (at w o).rehearsal [] ≡ w
ended_with h (Some p) w is =
    let same : p.rehearsal ≡ w = cc is in
    nothing_behind p.rehearsal ∙ same
ended_with h None w is = ended_made h.group is
  where
    ended_made : (n : Option ℕ) → record_in (made_of h n) ≡ Ok w → behind (empty w.setting w.cells) [] ≡ w
    ended_made None is = absurd (cc is)
    ended_made (Some n) is =
        let same : (made_with h n).rehearsal ≡ w = cc is in
        subst (λ v. behind (empty v.setting v.cells) [] ≡ v) same refl

one_placed : (w : Rehearsal) (s u : Standing) (line : List ℕ) (lines : List (List ℕ)) → told_if s (line_in line) ≡ Ok u →
    AreAll w u lines → AreAll w s (line ∷ lines)
one_placed w s u line lines h more =
    let here = told_placed w s u (line_in line) (joined more.places) h more.is in
    let before = (at w s.played).rehearsal in
    let on : (at w u.played).rehearsal ≡ behind before here.own = ap (λ (v : Played). v.rehearsal) here.is in
    record {
      places = here.own ∷ more.places;
      is = sym (both_behind before here.own (joined more.places)) ∙ ap (λ v. behind v (joined more.places)) (sym on) ∙ more.is;
      allowed = allowed_both here.own (joined more.places) before here.allowed
          (subst (λ v. AreAllowed v (joined more.places)) on more.allowed);
      are = λ whole. (
        here.so whole,
        subst (λ v. ArePlaces v lines more.places) here.is
            (more.are (whole_behind before (at w u.played).rehearsal here.own on here.allowed whole)),
      );
    }

line_over_placed : (w : Rehearsal) (s : Standing) (n : ℕ) (line : List ℕ) (lines : List (List ℕ)) (r : Result Standing Explained) →
    told_if s (line_in line) ≡ r → ((u : Standing) (m : ℕ) → Makes u m lines w → AreAll w u lines) →
    finished (go_on (line_over (record { standing = s; number = n }) line r) (λ v. after_lines v lines)) ≡ Ok w →
    AreAll w s (line ∷ lines)
line_over_placed w s n line lines (Ok u) is more h = one_placed w s u line lines is (more u (n + 1) h)
line_over_placed w s n line lines (Err e) is more h = absurd (cc h)

all_placed : (lines : List (List ℕ)) (w : Rehearsal) (s : Standing) (n : ℕ) → Makes s n lines w → AreAll w s lines
unfolding after_line told played_of
all_placed [] w s n h = record {
  places = [];
  is = ended_with s.heading s.played w (ends_at n (world_of s) w h);
  allowed = tt;
  are = λ whole. tt;
}
all_placed (line ∷ lines) w s n h =
    line_over_placed w s n line lines (told_if s (line_in line)) refl (λ u m. all_placed lines w u m) h

pub placed : (text : List ℕ) (w : Rehearsal) → schedule text ≡ Ok w → HasPlaces w (lines_of text)
unfolding schedule start
placed text w h =
    let all = all_placed (lines_of text) w start 0 h in
    let steps : joined all.places ≡ w.steps = ap (λ (v : Rehearsal). v.steps) all.is in
    record {
      places = all.places;
      all = steps;
      allowed = subst (λ l. AreAllowed (empty w.setting w.cells) l) steps all.allowed;
      are = all.are tt;
    }
