-- Schedules without the lines that play nothing.
use Rattle.std.proofs.Common.{◌≡◌, ℕ, ◌+◌, Bool, true, false, List, [], ◌∷◌, refl, ap, sym, ◌∙◌, subst, arith}
use Rattle.std.specs.Prelude.{if◌then◌else◌, Option, Some, None, Result, Ok, Err, is_some}
use Rattle.ct_model.specs.Rehearsal.{Rehearsal}
use Rattle.ct_grammar.specs.Texts.{lines_of}
use Rattle.ct_grammar.specs.declared.given.Given.{Given as GivenNumber}
use Rattle.ct_grammar.specs.declared.goal.Goal.{Goal}
use Rattle.ct_grammar.specs.declared.line.Line.{Line}
use Rattle.ct_grammar.specs.declared.line.Line.TheVariants.{Blank, Given, Play as Plays}
use Rattle.ct_grammar.specs.declared.play.Play.{Play}
use Rattle.ct_grammar.specs.declared.play.Play.TheVariants.{Expect, Ask}
use Rattle.ct_grammar.specs.declared.question.Question.{Question}
use Rattle.ct_grammar.specs.declared.term.Term.{Term}
use Rattle.ct_play.specs.Acting.{go_on}
use Rattle.ct_play.specs.Expecting.{expected, unless_unmet}
use Rattle.ct_play.specs.Played.{Played}
use Rattle.ct_play.specs.Playing.{asked, played}
use Rattle.ct_play.specs.declared.line_fault.LineFault.{LineFault}
use Rattle.ct_play.specs.declared.line_fault.LineFault.TheVariants.{Settled}
use Rattle.ct_judging.specs.Judging.{after_play, in_world, taken}
use Rattle.ct_judging.specs.Reading.{line_in}
use Rattle.ct_judging.specs.Schedule.{after_line, after_lines, beginning, finished, line_over, schedule, world_at}
use Rattle.ct_judging.specs.Standing.{Standing, given_in, headed, made_of, played_of, played_or_made, record_in, start, world_of}
use Rattle.ct_judging.specs.Telling.{Explained, explained, told, told_if}
use Rattle.ct_judging.specs.declared.heading.Heading.{Heading}
use Rattle.ct_laws.specs.Schedules.{asks, is_silent, plays_nothing, spoken}
use Rattle.ct_laws.specs.Sessions.{text_of}
use Rattle.ct_laws.proofs.Plain.{ArePlain, ended, lines_ended, plain_if, plain_lines}
use Rattle.ct_laws.proofs.Taking.{Makes, made_last, made_more}

-- ---- a question, an expectation

pub unless_same : (s t : Played) (o : Option Term) → unless_unmet s o ≡ Ok t → t ≡ s
unless_same s t None h = cc
unless_same s t (Some term) h = absurd (cc h)

pub expected_same : (s t : Played) (goal : Goal) → expected s goal ≡ Ok t → t ≡ s
unfolding expected
expected_same s t goal h = grind arith

pub asked_same : (s t : Played) (question : Question) → asked s question ≡ Ok t → t ≡ s
asked_same s t question h = grind arith

asks_same : (s t : Played) (play : Play) → asks play ≡ true → played s play ≡ Ok t → t ≡ s
asks_same s t (Expect goal) h e = expected_same s t goal e
asks_same s t (Ask question) h e = asked_same s t question e
asks_same s t play h e = absurd (cc h)

-- ---- where a schedule stands without such lines

-- the same, but that the world may not be made yet
record Lags (s t : Standing) : Type 0 where
  pub heading : t.heading ≡ s.heading
  pub played : (p : Played) → s.played ≡ Some p → played_of t ≡ Ok p
  pub none : s.played ≡ None → t.played ≡ None

same_played : (s t : Standing) → Lags s t → (o : Option Played) → s.played ≡ o → played_of t ≡ played_of s
unfolding played_of
same_played s t lags (Some p) is = lags.played p is ∙ sym (ap (played_or_made s.heading) is)
same_played s t lags None is =
    ap (λ o. played_or_made t.heading o) (lags.none is) ∙ ap (λ (h : Heading). made_of h h.group) lags.heading
    ∙ sym (ap (played_or_made s.heading) is)

played_same : (s t : Standing) → Lags s t → played_of t ≡ played_of s
played_same s t lags = same_played s t lags s.played refl

-- both go on to this world
lags_on : (s t : Standing) (q : Played) → Lags s t → Lags (record s { played = Some q }) (record t { played = Some q })
unfolding played_of
lags_on s t q lags = record { heading = lags.heading; played = λ p is. cc is; none = λ is. is }

-- the one without such a line stays
lags_still : (s t : Standing) (p : Played) → Lags s t → played_of s ≡ Ok p → Lags (record s { played = Some p }) t
lags_still s t p lags is = record {
  heading = lags.heading;
  played = λ q same. let own : p ≡ q = cc same in played_same s t lags ∙ is ∙ ap Ok own;
  none = λ same. absurd (cc same);
}

-- ---- a line

-- where the schedule with all lines stands, and the one without those that play nothing
record IsTaken (u : Standing) (r : Result Standing Explained) : Type 0 where
  pub after : Standing
  pub on : r ≡ Ok after
  pub lags : Lags u after

abbrev IsFollowed : Bool → Standing → Standing → Result Standing Explained → Type 0
IsFollowed true u t r = Lags u t
IsFollowed false u t r = IsTaken u r

pub plainly : (s u : Standing) (line : Line) (r : Result Standing LineFault) → explained s line r ≡ Ok u → r ≡ Ok u
plainly s u line (Ok t) h = cc h
plainly s u line (Err fault) h = absurd (cc h)

pub if_free : (c : Bool) (s u : Standing) → (if c then Err Settled else Ok s) ≡ Ok u → (c ≡ false) × (u ≡ s)
if_free true s u h = absurd (cc h)
if_free false s u h = (refl, cc h)

not_made : (o : Option Played) → is_some o ≡ false → o ≡ None
not_made None h = refl
not_made (Some p) h = absurd (cc h)

headed_on : (s t u : Standing) (given : GivenNumber) (o : Option Heading) → Lags s t → given_in s.heading given ≡ o →
    headed s o ≡ Ok u → IsTaken u (explained t (Given given) (taken t (Given given)))
headed_on s t u given None lags is h = absurd (cc h)
headed_on s t u given (Some heading) lags is h =
    let free = if_free (is_some s.played) (record s { heading = heading }) u h in
    let same : given_in t.heading given ≡ Some heading = ap (λ (g : Heading). given_in g given) lags.heading ∙ is in
    let none : t.played ≡ None = lags.none (not_made s.played free.0) in
    let after : Standing = record t { heading = heading } in
    let on : taken t (Given given) ≡ Ok after =
    ap (headed t) same ∙ ap (λ o. if is_some o then Err Settled else Ok after) none in
    record {
      after = after;
      on = ap (explained t (Given given)) on;
      lags = subst (λ v. Lags v after) (sym free.1) (record {
        heading = refl;
        played = λ p there. absurd (cc (sym free.0 ∙ ap (λ (o : Option Played). is_some o) there));
        none = λ _. none;
      });
    }

asked_on : (c : Bool) (s t u : Standing) (play : Play) (p q : Played) → Lags s t → played_of s ≡ Ok p → played p play ≡ Ok q →
    asks play ≡ c → u ≡ record s { played = Some q } → IsFollowed c u t (explained t (Plays play) (taken t (Plays play)))
asked_on true s t u play p q lags is by silent h =
    let same : u ≡ record s { played = Some p } = h ∙ ap (λ (x : Played). record s { played = Some x }) (asks_same p q play silent by) in
    subst (λ v. Lags v t) (sym same) (lags_still s t p lags is)
asked_on false s t u play p q lags is by spoken h =
    let after : Standing = record t { played = Some q } in
    let on : taken t (Plays play) ≡ Ok after =
    ap (after_play t play) (played_same s t lags ∙ is) ∙ ap (in_world t) by in
    record {
      after = after;
      on = ap (explained t (Plays play)) on;
      lags = subst (λ v. Lags v after) (sym h) (lags_on s t q lags);
    }

in_on : (s t u : Standing) (play : Play) (p : Played) (r : Result Played LineFault) → Lags s t → played_of s ≡ Ok p →
    played p play ≡ r → in_world s r ≡ Ok u → IsFollowed (asks play) u t (explained t (Plays play) (taken t (Plays play)))
in_on s t u play p (Err fault) lags is by h = absurd (cc h)
in_on s t u play p (Ok q) lags is by h =
    let same : record s { played = Some q } ≡ u = cc h in
    asked_on (asks play) s t u play p q lags is by refl (sym same)

play_on : (s t u : Standing) (play : Play) (r : Result Played LineFault) → Lags s t → played_of s ≡ r → after_play s play r ≡ Ok u →
    IsFollowed (asks play) u t (explained t (Plays play) (taken t (Plays play)))
play_on s t u play (Err fault) lags is h = absurd (cc h)
play_on s t u play (Ok p) lags is h = in_on s t u play p (played p play) lags is refl h

line_on : (s t u : Standing) (line : Line) → Lags s t → taken s line ≡ Ok u →
    IsFollowed (plays_nothing line) u t (explained t line (taken t line))
line_on s t u Blank lags h =
    let same : s ≡ u = cc h in
    subst (λ v. Lags v t) same lags
line_on s t u (Given given) lags h = headed_on s t u given (given_in s.heading given) lags refl h
line_on s t u (Plays play) lags h = play_on s t u play (played_of s) lags refl h

told_on : (s t u : Standing) (r : _) → Lags s t → told_if s r ≡ Ok u → IsFollowed (is_silent r) u t (told_if t r)
told_on s t u (Ok line) lags h = line_on s t u line lags (plainly s u line (taken s line) h)
told_on s t u (Err misread) lags h = absurd (cc h)

-- ---- all lines

-- what these lines lead to, they lead to without those that play nothing
abbrev IsKeptBy : List (List ℕ) → Rehearsal → Type 0
IsKeptBy lines w = (s t : Standing) (n m : ℕ) → Lags s t → Makes s n lines w → Makes t m (ended (spoken lines)) w

kept_by : (c : Bool) (line : List ℕ) (lines : List (List ℕ)) (w : Rehearsal) → IsKeptBy lines w → (t u : Standing) (n m : ℕ) →
    IsFollowed c u t (told t line) → Makes u n lines w → Makes t m (ended (if c then spoken lines else line ∷ spoken lines)) w
unfolding told
kept_by true line lines w more t u n m followed h = more u t n m followed h
kept_by false line lines w more t u n m followed h =
    made_more t followed.after m line (ended (spoken lines)) w followed.on (more u followed.after n (m + 1) followed.lags h)

over_line : (s t : Standing) (n m : ℕ) (line : List ℕ) (lines : List (List ℕ)) (w : Rehearsal) → IsKeptBy lines w → Lags s t →
    (r : Result Standing Explained) → told_if s (line_in line) ≡ r →
    finished (go_on (line_over (record { standing = s; number = n }) line r) (λ u. after_lines u lines)) ≡ Ok w →
    Makes t m (ended (spoken (line ∷ lines))) w
unfolding told
over_line s t n m line lines w more lags (Ok u) is h =
    kept_by (is_silent (line_in line)) line lines w more t u (n + 1) m (told_on s t u (line_in line) lags is) h
over_line s t n m line lines w more lags (Err e) is h = absurd (cc h)

pub ends_at : (n : ℕ) (r : Result Rehearsal LineFault) (w : Rehearsal) → world_at n r ≡ Ok w → r ≡ Ok w
ends_at n (Ok v) w h = cc h
ends_at n (Err fault) w h = absurd (cc h)

all_kept : (lines : List (List ℕ)) (w : Rehearsal) → IsKeptBy lines w
unfolding after_line told
all_kept [] w s t n m lags h =
    made_last t m w (ap record_in (played_same s t lags) ∙ ends_at n (world_of s) w h)
all_kept (line ∷ lines) w s t n m lags h =
    over_line s t n m line lines w (all_kept lines w) lags (told_if s (line_in line)) refl h

plain_spoken : (lines : List (List ℕ)) → ArePlain lines → ArePlain (spoken lines)
plain_spoken [] p = tt
plain_spoken (line ∷ lines) p = plain_if (is_silent (line_in line)) line (spoken lines) p.0 (plain_spoken lines p.1)

lags_not : (s : Standing) → Lags s s
unfolding played_of
lags_not s = record { heading = refl; played = λ p is. ap (played_or_made s.heading) is; none = λ is. is }

pub silent : (text : List ℕ) (w : Rehearsal) → schedule text ≡ Ok w → schedule (text_of (spoken (lines_of text))) ≡ Ok w
unfolding schedule
silent text w h =
    let lines = lines_of text in
    ap (λ l. finished (after_lines beginning l)) (lines_ended (spoken lines) (plain_spoken lines (plain_lines text)))
    ∙ all_kept lines w start start 0 0 (lags_not start) h
