-- One line more of a schedule.
use Rattle.std.proofs.Common.{◌≡◌, ◌+◌, ℕ, Bool, true, false, not, List, [], ◌∷◌, ◌++◌, ap, sym, refl, ◌∙◌, subst, Some, None, Ok, Err}
use Rattle.std.proofs.Common.{Option, Result, append_assoc, append-nil, get_or, arith}
use Rattle.std.specs.Prelude.{◌&&◌, is_ok}
use Rattle.std.specs.Str.{IsUtf8, is_utf8}
use Rattle.std.proofs.lemmas.Bool.Decides.{nat_tests}
use Rattle.std.proofs.lemmas.List.Elements.{All-nil}
use Rattle.std.proofs.lemmas.Str.{IsUtf8-nil, is_utf8-from_IsUtf8}
use Rattle.std.proofs.lemmas.List.Sums.{AllPass-from_list_all}
use Rattle.std.proofs.lemmas.List.Splits.{slice_split_at, slice_split_none}
use Rattle.ct_grammar.specs.declared.line.Line.{Line}
use Rattle.ct_grammar.specs.declared.goal.Goal.{Goal}
use Rattle.ct_grammar.specs.declared.line.Line.TheVariants.{Blank, Play as Plays}
use Rattle.ct_grammar.specs.declared.misfit.Misfit.{Misfit}
use Rattle.ct_grammar.specs.declared.play.Play.{Play}
use Rattle.ct_grammar.specs.declared.play.Play.TheVariants.{Expect}
use Rattle.ct_grammar.specs.declared.term.Term.{Term}
use Rattle.ct_grammar.specs.Lines.{line_of}
use Rattle.ct_grammar.specs.Sides.{whole}
use Rattle.ct_model.specs.Rehearsal.{Rehearsal}
use Rattle.ct_play.specs.Acting.{go_on}
use Rattle.ct_play.specs.Expecting.{all_known, expected, unless_unmet, unmet}
use Rattle.ct_play.specs.Goals.{uncut}
use Rattle.ct_play.specs.Played.{Played}
use Rattle.ct_play.specs.Playing.{played}
use Rattle.ct_play.specs.declared.line_fault.LineFault.{LineFault}
use Rattle.ct_judging.specs.Judging.{taken}
use Rattle.ct_grammar.specs.Texts.{is_feed, lines_of, text_in}
use Rattle.ct_judging.specs.Reading.{begins_record, line_in}
use Rattle.ct_judging.specs.Schedule.{Progress, Stopped, after_line, after_lines, beginning, finished, schedule}
use Rattle.ct_judging.specs.Standing.{Standing, played_of, start}
use Rattle.ct_judging.specs.Telling.{told}
use Rattle.ct_listing.specs.Goals.{IsExpecting, goal_line, if_taken, is_met_in, is_taken, line_if}
use Rattle.ct_listing.specs.Leading.{AddsLine, Leads, LeadsTo, comment_text, one_line}
use Rattle.ct_print.specs.Lines.{line_text}
use Rattle.ct_print.specs.Writable.{IsWritable}
use Rattle.ct_listing.proofs.Comments.{line_before}
use Rattle.ct_listing.proofs.Pieces.{line_append}
use Rattle.ct_print.proofs.LinesRead.{read_back}

-- ---- a line

-- what its bytes come to
after_read : (s t : Standing) (n : ℕ) (bytes : List ℕ) (line : Line) → is_utf8 bytes ≡ true → begins_record bytes ≡ false →
    line_of bytes ≡ Ok line → taken s line ≡ Ok t →
    after_line (record { standing = s; number = n }) bytes ≡ Ok (record { standing = t; number = n + 1 })
unfolding after_line told line_in text_in
after_read s t n bytes line utf8 brace reads took = rw (utf8, brace, reads, took) refl

-- it ends at its line feed
one_first : (bytes rest : List ℕ) → one_line bytes ≡ true → lines_of (bytes ++ 10 ∷ rest) ≡ bytes ∷ lines_of rest
unfolding lines_of
one_first bytes rest h =
    slice_split_at is_feed bytes 10 rest (λ k d l. other (get_or bytes k d) (AllPass-from_list_all (λ c. not (is_feed c)) bytes h k d l))
    refl
  where
    other : (c : ℕ) → not (is_feed c) ≡ true → is_feed c ≡ false
    other c h = grind (arith, nat_tests)

bytes_on : (text bytes : List ℕ) (s t : Standing) → (h : LeadsTo text s) → one_line bytes ≡ true →
    after_line (record { standing = s; number = h.number }) bytes ≡ Ok (record { standing = t; number = h.number + 1 }) →
    LeadsTo (text ++ (bytes ++ 10 ∷ [])) t
bytes_on text bytes s t h one took = record {
  number = h.number + 1;
  ahead = λ rest.
      ap (λ l. after_lines beginning (lines_of l)) (append_assoc text (bytes ++ 10 ∷ []) rest
      ∙ ap (λ (l : List ℕ). text ++ l) (append_assoc bytes (10 ∷ []) rest))
      ∙ h.ahead (bytes ++ 10 ∷ rest)
      ∙ ap (after_lines (record { standing = s; number = h.number })) (one_first bytes rest one)
      ∙ ap (λ (r : Result Progress Stopped). go_on r (λ u. after_lines u (lines_of rest))) took;
}

-- ---- with a remark behind it

comment_line : (remark : List ℕ) → one_line remark ≡ true → one_line (comment_text remark) ≡ true
comment_line [] h = refl
comment_line (c ∷ cs) h = h

reads_on : (line : Line) (remark : List ℕ) → IsWritable line → line_of (line_text line ++ comment_text remark) ≡ Ok line
reads_on line [] fits = ap line_of (append-nil (line_text line)) ∙ read_back line fits
reads_on line (c ∷ cs) fits = line_before (line_text line) (c ∷ cs) ∙ read_back line fits

-- a line that is taken
pub line_on : (old new : List ℕ) (line : Line) (s t : Standing) → LeadsTo old s → AddsLine old new (line_text line) → IsWritable line →
    one_line (line_text line) ≡ true → ((rest : List ℕ) → begins_record rest ≡ false → begins_record (line_text line ++ rest) ≡ false) →
    taken s line ≡ Ok t → LeadsTo new t
line_on old new line s t h adds fits one brace took =
    let bytes : List ℕ = line_text line ++ comment_text adds.remark in
    subst (λ l. LeadsTo l t) (sym adds.is)
    (bytes_on old bytes s t h (line_append (line_text line) (comment_text adds.remark) one (comment_line adds.remark adds.one))
    (after_read s t h.number bytes line adds.utf8 (brace (comment_text adds.remark) (no_record adds.remark))
    (reads_on line adds.remark fits) took))
  where
    no_record : (remark : List ℕ) → begins_record (comment_text remark) ≡ false
    no_record [] = refl
    no_record (c ∷ cs) = refl

-- a line that is played
pub play_on : (old new : List ℕ) (play : Play) (w v : Played) → Leads old w → AddsLine old new (line_text (Plays play)) →
    IsWritable (Plays play) → one_line (line_text (Plays play)) ≡ true →
    ((rest : List ℕ) → begins_record rest ≡ false → begins_record (line_text (Plays play) ++ rest) ≡ false) →
    played w play ≡ Ok v → v.sides ≡ w.sides → Leads new v
unfolding played_of
play_on old new play w v h adds fits one brace took same = record {
  standing = record h.standing { played = Some v };
  there = line_on old new (Plays play) h.standing (record h.standing { played = Some v }) h.there adds fits one brace (rw (h.world, took)
      refl);
  world = refl;
  uncut = same ∙ h.uncut;
}

-- ---- a line that expects a goal

-- an expectation changes nothing
expected_taken : (s : Played) (goal : Goal) → is_ok (expected s goal) ≡ true → expected s goal ≡ Ok s
unfolding expected
expected_taken s goal e = by_terms (all_known s.rehearsal.setting.members goal) (unmet s goal) e
  where
    by_terms : (known : Result (Unit {0}) LineFault) (first : Option Term) → is_ok (go_on known (λ _. unless_unmet s first)) ≡ true →
        go_on known (λ _. unless_unmet s first) ≡ Ok s
    by_terms (Ok u) None e = refl
    by_terms (Ok u) (Some term) e = absurd (cc)
    by_terms (Err fault) first e = absurd (cc)

goal_on : (old new line : List ℕ) (w : Played) (goal : Goal) → Leads old w → is_utf8 line ≡ true → begins_record line ≡ false →
    one_line line ≡ true → line_of line ≡ Ok (Plays (Expect goal)) → expected w goal ≡ Ok w → new ≡ old ++ (line ++ 10 ∷ []) → Leads new w
unfolding played_of
goal_on old new line w goal h utf8 brace one reads met is =
    let after : Standing = record h.standing { played = Some w } in
    record {
      standing = after;
      there = subst (λ l. LeadsTo l after) (sym is)
          (bytes_on old line h.standing after h.there one
          (after_read h.standing after h.there.number line (Plays (Expect goal)) utf8 brace reads (rw (h.world, met) refl)));
      world = refl;
      uncut = h.uncut;
    }

-- a line that is taken
taken_on : (old new line : List ℕ) (w : Played) → Leads old w → is_utf8 line ≡ true → begins_record line ≡ false →
    is_taken w line ≡ true → new ≡ old ++ (line ++ 10 ∷ []) → Leads new w
taken_on old new line w h utf8 brace taken is = by_one (one_line line) refl taken
  where
    by_line : (r : Result Line Misfit) → one_line line ≡ true → line_of line ≡ r → is_met_in w r ≡ true → Leads new w
    by_line (Ok (Plays (Expect goal))) one reads met =
        goal_on old new line w goal h utf8 brace one reads (expected_taken w goal met) is
    by_line _ one reads met = absurd (cc)

    by_one : (b : Bool) → one_line line ≡ b → b && is_met_in w (line_of line) ≡ true → Leads new w
    by_one true one met = by_line (line_of line) one refl met
    by_one false one met = absurd (cc)

-- the line, where it is taken
pub line_if_on : (old new line : List ℕ) (taken : Bool) (w : Played) (goal : Goal) → Leads old w → IsUtf8 line → line ≡ goal_line goal →
    taken ≡ is_taken w line → new ≡ old ++ line_if taken line → Leads new w
line_if_on old new line true w goal h utf8 same taken is =
    taken_on old new line w h (is_utf8-from_IsUtf8 line utf8) (ap begins_record same) (sym taken) is
line_if_on old new line false w goal h utf8 same taken is = subst (λ l. Leads l w) (sym (is ∙ append-nil old)) h

-- ---- the beginning and the end

-- of no text
pub leads_start : LeadsTo [] start
leads_start = record { number = 0; ahead = λ rest. refl }

last_line : (s : Standing) (n : ℕ) → after_lines (record { standing = s; number = n }) (lines_of [])
    ≡ Ok (record { standing = s; number = n + 1 })
unfolding lines_of line_text
last_line s n =
    ap (after_lines (record { standing = s; number = n })) (slice_split_none is_feed [] (All-nil _))
    ∙ ap (λ (r : Result Progress Stopped). go_on r (λ u. Ok u)) (after_read s s n [] Blank (is_utf8-from_IsUtf8 [] IsUtf8-nil) refl
    (read_back Blank tt) refl)

pub leads_end : (text : List ℕ) (w : Played) → Leads text w → schedule text ≡ Ok w.rehearsal
unfolding schedule
leads_end text w h =
    ap (λ (l : List ℕ). finished (after_lines beginning (lines_of l))) (sym (append-nil text))
    ∙ ap finished (h.there.ahead [] ∙ last_line h.standing h.there.number) ∙ rw h.world refl

-- ---- a goal behind the schedule

same_stage : (s : Played) (w : Rehearsal) → s.rehearsal ≡ w → s.sides ≡ whole → s ≡ uncut w
same_stage s w e f = λ i. record { rehearsal = e i; sides = f i }

leads_whole : (text : List ℕ) (s : Played) (w : Rehearsal) → Leads text s → s.rehearsal ≡ w → schedule text ≡ Ok w
leads_whole text s w h same = leads_end text s h ∙ ap Ok same

pub leads_parts : (before text : List ℕ) (s : Played) (w : Rehearsal) (goal : Goal) → Leads before s → s.rehearsal ≡ w →
    text ≡ before ++ if_taken s (goal_line goal) → IsExpecting goal w text
leads_parts before text s w goal h same is = (
  before,
  leads_whole before s w h same,
  is ∙ ap (λ (u : Played). before ++ if_taken u (goal_line goal)) (same_stage s w same h.uncut),
)
