-- Schedules, line by line.
use Rattle.std.proofs.Common.{◌≡◌, ℕ, ◌+◌, ◌<◌, ◌≤◌, List, [], ◌∷◌, length, take, drop, Ok, Err, Result, ap, sym, subst, ◌∙◌, string_bytes}
use Rattle.std.proofs.Common.{Option, Some, None, arith, length-take}
use Rattle.std.specs.List.{position}
use Rattle.std.specs.Prelude.{IfSome, IsOk, min}
use Rattle.ct_streams.specs.Streams.{read_part}
use Rattle.ct_grammar.specs.Texts.{is_feed, lines_of}
use Rattle.ct_grammar.proofs.LineFeeds.{first_line, only_line}
use Rattle.ct_play.specs.Acting.{go_on}
use Rattle.ct_judge.specs.Schedule.{IsFaultIn, IsLeftAt, IsOfLine, before_fault}
use Rattle.ct_judging.specs.Schedule.{Progress, Stopped, after_line, after_lines}
use Rattle.ct_judging.specs.Schedule.{finished, world_at}
use Rattle.ct_judge.specs.Schedule.{or_stay}
use Rattle.ct_judging.specs.Standing.{world_of}
use Rattle.ct_judge.specs.declared.recording.TheConstants.{MAX_LEN}
use Rattle.ct_judge.specs.declared.record_fault.RecordFault.{RecordFault}
use Rattle.ct_judge.specs.declared.record_fault.RecordFault.TheVariants.{Line, Read, Write}

stop_on : {A B : Type 0} (r : Result A Stopped) (f : A → Result B Stopped) (e : Stopped) → r ≡ Err e → go_on r f ≡ Err e
stop_on (Ok x) f e h = absurd (cc)
stop_on (Err other) f e h =
    let same : other ≡ e = cc in
    ap Err same

-- a fault stays the fault of all
pub stop_fault : {A B : Type 0} (r : Result A Stopped) (f : A → Result B Stopped) (fault : RecordFault) → IsFaultIn r fault →
    IsFaultIn (go_on r f) fault
stop_fault r f (Line at fault text) h = stop_on r f (record { at = at; fault = fault; text = string_bytes text }) h
stop_fault r f Read h = h
stop_fault r f Write h = h
stop_fault r f _ h = tt

finish_on : (r : Result Progress Stopped) (e : Stopped) → r ≡ Err e → finished r ≡ Err e
finish_on (Ok x) e h = absurd (cc)
finish_on (Err other) e h =
    let same : other ≡ e = cc in
    ap Err same

pub finish_fault : (r : Result Progress Stopped) (fault : RecordFault) → IsFaultIn r fault → IsFaultIn (finished r) fault
finish_fault r (Line at fault text) h = finish_on r (record { at = at; fault = fault; text = string_bytes text }) h
finish_fault r Read h = h
finish_fault r Write h = h
finish_fault r _ h = tt

-- ---- one line more

module _ (t : Progress) (text : List ℕ) where
  pub line_on : (u : Progress) (i : ℕ) → position is_feed text ≡ Some i → after_line t (take i text) ≡ Ok u →
      after_lines t (lines_of text) ≡ after_lines u (lines_of (drop (i + 1) text))
  line_on u i at h =
      ap (after_lines t) (first_line text i at)
      ∙ ap (λ (r : Result Progress Stopped). go_on r (λ v. after_lines v (lines_of (drop (i + 1) text)))) h

  pub line_fault : (fault : RecordFault) (i : ℕ) → position is_feed text ≡ Some i → IsFaultIn (after_line t (take i text)) fault →
      IsFaultIn (after_lines t (lines_of text)) fault
  line_fault fault i at h =
      subst (λ (l : List (List ℕ)). IsFaultIn (after_lines t l) fault) (sym (first_line text i at))
      (stop_fault (after_line t (take i text)) (λ v. after_lines v (lines_of (drop (i + 1) text))) fault h)

  pub last_on : (u : Progress) → position is_feed text ≡ None → after_line t text ≡ Ok u → after_lines t (lines_of text) ≡ Ok u
  last_on u at h = ap (after_lines t) (only_line text at) ∙ ap (λ (r : Result Progress Stopped). go_on r (λ v. Ok v)) h

  pub last_fault : (fault : RecordFault) → position is_feed text ≡ None → IsFaultIn (after_line t text) fault →
      IsFaultIn (after_lines t (lines_of text)) fault
  last_fault fault at h =
      subst (λ (l : List (List ℕ)). IsFaultIn (after_lines t l) fault) (sym (only_line text at))
      (stop_fault (after_line t text) (λ v. Ok v) fault h)

-- ---- where the lines are left

all_taken : (lines : List (List ℕ)) (t u : Progress) → after_lines t lines ≡ Ok u → before_fault t lines ≡ u
all_taken [] t u h = cc
all_taken (line ∷ lines) t u h =
    let on : go_on (after_line t line) (λ v. after_lines v lines) ≡ Ok u → or_stay t (after_line t line) (λ v. before_fault v lines) ≡ u =
    elim (after_line t line) as (λ r. go_on r (λ v. after_lines v lines) ≡ Ok u → or_stay t r (λ v. before_fault v lines) ≡ u) [
      | Ok v ↦ λ e. all_taken lines v u e
      | Err stop ↦ λ e. absurd (cc e)
    ] in
    on h

module _ (t : Progress) (text : List ℕ) where
  pub before_on : (u : Progress) (i : ℕ) → position is_feed text ≡ Some i → after_line t (take i text) ≡ Ok u →
      before_fault t (lines_of text) ≡ before_fault u (lines_of (drop (i + 1) text))
  before_on u i at h =
      ap (before_fault t) (first_line text i at)
      ∙ ap (λ (r : Result Progress Stopped). or_stay t r (λ v. before_fault v (lines_of (drop (i + 1) text)))) h

  stays_at : (lines : List (List ℕ)) (line : List ℕ) (then : Progress) (fault : RecordFault) → lines_of text ≡ line ∷ lines →
      IsFaultIn (after_line t line) fault → IsLeftAt t then fault → IsLeftAt (before_fault t (lines_of text)) then fault
  stays_at lines line then (Line at fault words) cut h left =
      left ∙ sym (ap (before_fault t) cut ∙ ap (λ (r : Result Progress Stopped). or_stay t r (λ v. before_fault v lines)) h)
  stays_at lines line then _ cut h left = tt

  pub left_at : (then : Progress) (fault : RecordFault) (i : ℕ) → position is_feed text ≡ Some i →
      IsFaultIn (after_line t (take i text)) fault → IsLeftAt t then fault → IsLeftAt (before_fault t (lines_of text)) then fault
  left_at then fault i at h left = stays_at (lines_of (drop (i + 1) text)) (take i text) then fault (first_line text i at) h left

  pub left_last : (then : Progress) (fault : RecordFault) → position is_feed text ≡ None →
      IsFaultIn (after_line t text) fault → IsLeftAt t then fault → IsLeftAt (before_fault t (lines_of text)) then fault
  left_last then fault at h left = stays_at [] text then fault (only_line text at) h left

pub ruleset by_line = (line_on, line_fault, last_on, last_fault, left_at, left_last)

-- ---- the end of a text

pub ok_end : (r : Result Progress Stopped) (u : Progress) → r ≡ Ok u → IsOk (world_at u.number (world_of u.standing)) → IsOk (finished r)
ok_end r u is h = subst (λ (v : Result Progress Stopped). IsOk (finished v)) (sym is) h

pub fault_end : (r : Result Progress Stopped) (u : Progress) (fault : RecordFault) → r ≡ Ok u →
    IsFaultIn (world_at u.number (world_of u.standing)) fault → IsFaultIn (finished r) fault
fault_end r u fault is h = subst (λ (v : Result Progress Stopped). IsFaultIn (finished v) fault) (sym is) h

pub left_here : (here t : Progress) (fault : RecordFault) → IsLeftAt here t fault → IsOfLine fault → t ≡ here
left_here here t (Line at fault words) left of = left
left_here here t _ left of = absurd of

pub told_here : (lines : List (List ℕ)) (t u : Progress) → after_lines t lines ≡ Ok u → u ≡ before_fault t lines
told_here lines t u h = sym (all_taken lines t u h)

pub ruleset to_end = (finish_fault, ok_end, fault_end, left_here, told_here)

-- ---- how long the input is

pub long_input : (left : Option (List ℕ)) (read bytes : List ℕ) → bytes ≡ read → IfSome left (λ input. read ≡ read_part input) →
    MAX_LEN < length bytes → IfSome left (λ input. MAX_LEN < length input)
unfolding read_part
long_input None read bytes same part long = tt
long_input (Some input) read bytes same part long =
    let count : length bytes ≡ min 67108865 (length input) = ap length (same ∙ part) ∙ length-take 67108865 input in
    omega (arith, count, long)

pub short_input : (left : Option (List ℕ)) (read bytes : List ℕ) → bytes ≡ read → IfSome left (λ input. read ≡ read_part input) →
    length bytes ≤ MAX_LEN → IfSome left (λ input. length input ≤ MAX_LEN)
unfolding read_part
short_input None read bytes same part short = tt
short_input (Some input) read bytes same part short =
    let count : length bytes ≡ min 67108865 (length input) = ap length (same ∙ part) ∙ length-take 67108865 input in
    omega (arith, count, short)
