-- Where the lines of a schedule lead that is written line by line.
use Rattle.std.specs.Prelude.{◌≡◌, ℕ, Bool, true, not, List, [], ◌∷◌, ◌++◌, Ok}
use Rattle.std.specs.List.{list_all}
use Rattle.std.specs.Str.{is_utf8}
use Rattle.ct_grammar.specs.Sides.{whole}
use Rattle.ct_play.specs.Played.{Played}
use Rattle.ct_grammar.specs.Texts.{is_feed, lines_of}
use Rattle.ct_judging.specs.Schedule.{after_lines, beginning}
use Rattle.ct_judging.specs.Standing.{Standing, played_of}

-- ---- lines

-- no byte of the text ends a line
abbrev pub one_line : List ℕ → Bool
one_line text = list_all (λ c. not (is_feed c)) text

-- a remark, as a comment behind a line; nothing where there is none
abbrev pub comment_text : List ℕ → List ℕ
comment_text [] = []
comment_text (c ∷ cs) = 32 ∷ 35 ∷ 32 ∷ c ∷ cs

-- the line joins the text, with some remark of one line behind it and a line feed
pub record AddsLine (old new line : List ℕ) : Type 0 where
  pub remark : List ℕ
  pub one : one_line remark ≡ true
  pub utf8 : is_utf8 (line ++ comment_text remark) ≡ true
  pub is : new ≡ old ++ ((line ++ comment_text remark) ++ 10 ∷ [])

-- ---- where they lead

-- whatever stands behind the lines of the text, after them a schedule stands here
pub record LeadsTo (text : List ℕ) (s : Standing) : Type 0 where
  pub number : ℕ
  pub ahead : (rest : List ℕ) →
      after_lines beginning (lines_of (text ++ rest)) ≡ after_lines (record { standing = s; number = number }) (lines_of rest)

-- the same, where nothing is cut and the record is this one
pub record Leads (text : List ℕ) (w : Played) : Type 0 where
  pub standing : Standing
  pub there : LeadsTo text standing
  pub world : played_of standing ≡ Ok w
  pub uncut : w.sides ≡ whole
