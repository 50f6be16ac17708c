-- The texts of logs, line by line.
use Rattle.std.proofs.Common.{◌≡◌, ℕ, ◌+◌, List, [], ◌∷◌, take, drop, Ok, Err, Result, ap, sym, subst, refl, ◌∙◌, Option, Some, None}
use Rattle.std.specs.List.{position}
use Rattle.ct_grammar.specs.Texts.{is_feed, lines_of}
use Rattle.ct_grammar.proofs.LineFeeds.{first_line, only_line}
use Rattle.ct_play.specs.Acting.{go_on}
use Rattle.ct_merge.specs.Texts.{IsFaultIn, LogSoFar, Unread, after_line, after_lines, but_last, whole_lines}
use Rattle.ct_merge.specs.declared.log_fault.LogFault.{LogFault}
use Rattle.ct_merge.specs.declared.log_fault.LogFault.TheVariants.{Line, Memory}

stop_on : (r : Result LogSoFar Unread) (f : LogSoFar → Result LogSoFar Unread) (e : Unread) → r ≡ Err e → go_on r f ≡ Err e
stop_on (Ok x) f e h = absurd (cc)
stop_on (Err other) f e h =
    let same : other ≡ e = cc in
    ap Err same

-- a fault stays the fault of all
stop_fault : (r : Result LogSoFar Unread) (f : LogSoFar → Result LogSoFar Unread) (fault : LogFault) → IsFaultIn r fault →
    IsFaultIn (go_on r f) fault
stop_fault r f (Line at why) h = stop_on r f (record { at = at; why = why }) h
stop_fault r f Memory h = tt

-- ---- the lines that a feed ends

-- a text has a line
record SomeLine (lines : List (List ℕ)) : Type 0 where
  first : List ℕ
  others : List (List ℕ)
  is : lines ≡ first ∷ others

line_by : (text : List ℕ) (place : Option ℕ) → position is_feed text ≡ place → SomeLine (lines_of text)
line_by text None at = record { first = text; others = []; is = only_line text at }
line_by text (Some i) at = record { first = take i text; others = lines_of (drop (i + 1) text); is = first_line text i at }

longer : (line : List ℕ) (lines : List (List ℕ)) → SomeLine lines → but_last (line ∷ lines) ≡ line ∷ but_last lines
longer line lines some = subst (λ (l : List (List ℕ)). but_last (line ∷ l) ≡ line ∷ but_last l) (sym some.is) refl

whole_first : (text : List ℕ) (i : ℕ) → position is_feed text ≡ Some i →
    whole_lines text ≡ take i text ∷ whole_lines (drop (i + 1) text)
unfolding whole_lines
whole_first text i at =
    let rest : List ℕ = drop (i + 1) text in
    ap but_last (first_line text i at) ∙ longer (take i text) (lines_of rest) (line_by rest (position is_feed rest) refl)

whole_none : (text : List ℕ) → position is_feed text ≡ None → whole_lines text ≡ []
unfolding whole_lines
whole_none text at = ap but_last (only_line text at)

-- ---- one line more

module _ (p : ℕ) (t : LogSoFar) (text : List ℕ) where
  pub line_on : (u : LogSoFar) (i : ℕ) → position is_feed text ≡ Some i → after_line p t (take i text) ≡ Ok u →
      after_lines p t (whole_lines text) ≡ after_lines p u (whole_lines (drop (i + 1) text))
  line_on u i at h =
      ap (after_lines p t) (whole_first text i at)
      ∙ ap (λ (r : Result LogSoFar Unread). go_on r (λ v. after_lines p v (whole_lines (drop (i + 1) text)))) h

  pub line_fault : (fault : LogFault) (i : ℕ) → position is_feed text ≡ Some i → IsFaultIn (after_line p t (take i text)) fault →
      IsFaultIn (after_lines p t (whole_lines text)) fault
  line_fault fault i at h =
      subst (λ (l : List (List ℕ)). IsFaultIn (after_lines p t l) fault) (sym (whole_first text i at))
      (stop_fault (after_line p t (take i text)) (λ v. after_lines p v (whole_lines (drop (i + 1) text))) fault h)

  pub none_on : position is_feed text ≡ None → after_lines p t (whole_lines text) ≡ Ok t
  none_on at = ap (after_lines p t) (whole_none text at)

pub ruleset by_line = (line_on, line_fault, none_on)
