-- The lines that a session takes make a schedule.
use Rattle.std.proofs.Common.{◌≡◌, ℕ, ◌+◌, Bool, true, false, List, [], ◌∷◌, length, refl, ap, sym, ◌∙◌, subst}
use Rattle.std.specs.Prelude.{nat_lt, if◌then◌else◌, Result, Ok, Err, is_err}
use Rattle.ct_model.specs.Rehearsal.{Rehearsal}
use Rattle.std.specs.Str.{chars, is_utf8}
use Rattle.ct_grammar.specs.Lines.{line_of, of_words}
use Rattle.ct_grammar.specs.Texts.{text_in}
use Rattle.ct_grammar.specs.Words.{all_words, words_of}
use Rattle.ct_grammar.specs.declared.line.Line.{Line}
use Rattle.ct_play.specs.Acting.{go_on}
use Rattle.ct_play.specs.declared.line_fault.LineFault.{LineFault}
use Rattle.ct_judge.specs.Answers.{is_refused, or_before, standing_after}
use Rattle.ct_judging.specs.Judging.{taken}
use Rattle.ct_judging.specs.Reading.{line_in}
use Rattle.ct_judging.specs.Schedule.{Progress, after_line, after_lines, beginning, finished, line_over, schedule, world_at}
use Rattle.ct_judge.specs.Sessions.{line_if, opening, session}
use Rattle.ct_judging.specs.Standing.{Standing, start, world_of}
use Rattle.ct_judging.specs.Telling.{Explained, explained, told, told_if}
use Rattle.ct_judge.specs.declared.session.TheConstants.{LONGEST}
use Rattle.ct_laws.specs.Sessions.{accepted, lines_heard, text_of}
use Rattle.ct_laws.proofs.Hearing.{session_is, standing_behind}
use Rattle.ct_laws.proofs.Plain.{ArePlain, ended, lines_ended, plain_heard, plain_if}

-- ---- a line

left_as : (s : Standing) (line : Line) (r : Result Standing LineFault) → is_err r ≡ true → or_before s (explained s line r) ≡ s
left_as s line (Ok t) h = absurd (cc)
left_as s line (Err fault) h = refl

refused_so : (s : Standing) (r : _) → is_refused s r ≡ true → standing_after s r ≡ s
refused_so s (Ok line) h = left_as s line (taken s line) h
refused_so s (Err misread) h = refl

-- a line that is refused changes nothing
pub unchanged : (s : Standing) (line : List ℕ) → is_refused s (line_if line) ≡ true → standing_after s (line_if line) ≡ s
unchanged s line h = refused_so s (line_if line) h

taken_as : (s : Standing) (line : Line) (r : Result Standing LineFault) → is_err r ≡ false →
    explained s line r ≡ Ok (or_before s (explained s line r))
taken_as s line (Ok t) h = refl
taken_as s line (Err fault) h = absurd (cc)

told_as : (s : Standing) (r : _) → is_refused s r ≡ false → told_if s r ≡ Ok (standing_after s r)
told_as s (Ok line) h = taken_as s line (taken s line) h
told_as s (Err misread) h = absurd (cc)

short_as : (c : Bool) (s : Standing) (t r : _) → is_refused s t ≡ true → is_refused s (if c then t else r) ≡ false →
    told_if s r ≡ Ok (standing_after s (if c then t else r))
short_as true s t r long h = absurd (cc)
short_as false s t r long h = told_as s r h

accepted_on : (s : Standing) (line : List ℕ) → is_refused s (line_if line) ≡ false → told s line ≡ Ok (standing_after s (line_if line))
unfolding line_if told
accepted_on s line h = short_as (nat_lt LONGEST (length line)) s _ (line_in line) refl h

-- ---- a schedule of what was taken

blank : (s : Standing) → told s [] ≡ Ok s
unfolding told line_in text_in is_utf8 chars line_of of_words words_of all_words
blank s = refl

-- a schedule of these lines behind this makes this record
abbrev pub Makes : Standing → ℕ → List (List ℕ) → Rehearsal → Type 0
Makes s n lines w = finished (after_lines (record { standing = s; number = n }) lines) ≡ Ok w

pub made_last : (s : Standing) (n : ℕ) (w : Rehearsal) → world_of s ≡ Ok w → Makes s n ([] ∷ []) w
unfolding after_line
made_last s n w h =
    ap (λ (r : Result Standing Explained). finished (go_on (line_over (record { standing = s; number = n }) [] r) (λ u. Ok u))) (blank s)
    ∙ ap (world_at (n + 1)) h

pub made_more : (s t : Standing) (n : ℕ) (line : List ℕ) (lines : List (List ℕ)) (w : Rehearsal) → told s line ≡ Ok t →
    Makes t (n + 1) lines w → Makes s n (line ∷ lines) w
unfolding after_line
made_more s t n line lines w on h =
    let here : Progress = record { standing = s; number = n } in
    ap (λ (r : Result Standing Explained). finished (go_on (line_over here line r) (λ u. after_lines u lines))) on ∙ h

plain_accepted : (lines : List (List ℕ)) (s : Standing) → ArePlain lines → ArePlain (accepted s lines)
plain_accepted [] s p = tt
plain_accepted (line ∷ lines) s p =
    let after = standing_after s (line_if line) in
    plain_if (is_refused s (line_if line)) line (accepted after lines) p.0 (plain_accepted lines after p.1)

-- what was taken of these lines makes the record that they lead to
abbrev AreTaken : List (List ℕ) → Rehearsal → Type 0
AreTaken lines w = (s : Standing) (n : ℕ) → world_of (standing_behind s lines) ≡ Ok w → Makes s n (ended (accepted s lines)) w

made_if : (c : Bool) (s : Standing) (n : ℕ) (line : List ℕ) (lines : List (List ℕ)) (w : Rehearsal) →
    is_refused s (line_if line) ≡ c → AreTaken lines w → world_of (standing_behind (standing_after s (line_if line)) lines) ≡ Ok w →
    (let later = accepted (standing_after s (line_if line)) lines in Makes s n (ended (if c then later else line ∷ later)) w)
made_if true s n line lines w is more h =
    let after = standing_after s (line_if line) in
    subst (λ t. Makes t n (ended (accepted after lines)) w) (unchanged s line is) (more after n h)
made_if false s n line lines w is more h =
    let after = standing_after s (line_if line) in
    made_more s after n line (ended (accepted after lines)) w (accepted_on s line is) (more after (n + 1) h)

made : (lines : List (List ℕ)) (w : Rehearsal) → AreTaken lines w
made [] w s n h = made_last s n w h
made (line ∷ lines) w s n h = made_if (is_refused s (line_if line)) s n line lines w refl (made lines w) h

pub scheduled : (input : List ℕ) (w : Rehearsal) → world_of (session opening input).hearing.standing ≡ Ok w →
    schedule (text_of (accepted start (lines_heard input))) ≡ Ok w
unfolding schedule
scheduled input w h =
    let lines = lines_heard input in
    ap (λ l. finished (after_lines beginning l)) (lines_ended (accepted start lines) (plain_accepted lines start (plain_heard input)))
    ∙ made lines w start 0 (ap world_of (sym (session_is input).standing) ∙ h)
