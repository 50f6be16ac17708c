-- What is written of the lines of a schedule: one line each, which is no record.
use Rattle.std.proofs.Common.{◌≡◌, ℕ, true, false, List, [], ◌∷◌, ◌++◌, refl, ap, ◌∙◌, append_assoc, append-nil}
use Rattle.std.specs.Prelude.{decimal, codes}
use Rattle.ct_grammar.specs.declared.act.Act.{Act}
use Rattle.ct_grammar.specs.declared.fact.Fact.{Fact}
use Rattle.ct_grammar.specs.declared.given.Given.{Given}
use Rattle.ct_grammar.specs.declared.given.Given.TheVariants.{Members, Cells, Batch}
use Rattle.ct_grammar.specs.declared.line.Line.TheVariants.{Given as Gives, Play as Plays}
use Rattle.ct_grammar.specs.declared.play.Play.TheVariants.{Act as Acts, Expect}
use Rattle.ct_grammar.specs.declared.who.Who.TheVariants.{One}
use Rattle.ct_grammar.specs.Words.{text_of}
use Rattle.ct_judging.specs.Reading.{begins_record}
use Rattle.ct_print.specs.Acts.{act_text}
use Rattle.ct_print.specs.Facts.{fact_text}
use Rattle.ct_print.specs.Goals.{claim_text, goal_text, term_text, when_text, whom_text}
use Rattle.ct_print.specs.Lines.{given_text, line_text, play_text}
use Rattle.ct_print.specs.Members.{who_text}
use Rattle.ct_listing.specs.Expecting.{IsLone, fact_goal}
use Rattle.ct_listing.specs.Leading.{one_line}
use Rattle.ct_listing.proofs.Pieces.{decimal_piece, no_brace}
use Rattle.ct_listing.proofs.OneLine.{act_line, decimal_line, two_lines}

pub acts_line : (p : ℕ) (act : Act) → IsLone act → one_line (line_text (Plays (Acts (One p) act))) ≡ true
unfolding line_text play_text who_text
acts_line p act h = two_lines (decimal p) (act_text act) (decimal_line p) (act_line act h)

pub acts_brace : (p : ℕ) (act : Act) (rest : List ℕ) → begins_record (line_text (Plays (Acts (One p) act)) ++ rest) ≡ false
unfolding line_text play_text who_text
acts_brace p act rest =
    ap begins_record (append_assoc (decimal p) (32 ∷ act_text act) rest) ∙ no_brace (decimal p) (32 ∷ act_text act ++ rest)
    (decimal_piece p)

fact_goal_text : (p : ℕ) (fact : Fact) → goal_text (fact_goal p fact) ≡ text_of (decimal p ∷ fact_text fact ∷ [])
unfolding goal_text term_text when_text whom_text claim_text
fact_goal_text p fact = append-nil (text_of (decimal p ∷ fact_text fact ∷ []))

pub expect_line : (p : ℕ) (fact : Fact) → one_line (fact_text fact) ≡ true →
    one_line (line_text (Plays (Expect (fact_goal p fact)))) ≡ true
unfolding line_text play_text
expect_line p fact h =
    ap (λ (goal : List ℕ). one_line (text_of (codes "expect" ∷ goal ∷ []))) (fact_goal_text p fact)
    ∙ two_lines (decimal p) (fact_text fact) (decimal_line p) h

pub expect_brace : (p : ℕ) (fact : Fact) (rest : List ℕ) → begins_record (line_text (Plays (Expect (fact_goal p fact))) ++ rest) ≡ false
unfolding line_text play_text
expect_brace p fact rest = refl

pub given_line : (given : Given) → one_line (line_text (Gives given)) ≡ true
unfolding line_text given_text
given_line (Members n) = decimal_line n
given_line (Cells k) = decimal_line k
given_line (Batch b) = decimal_line b

pub given_brace : (given : Given) (rest : List ℕ) → begins_record (line_text (Gives given) ++ rest) ≡ false
unfolding line_text given_text
given_brace (Members n) rest = refl
given_brace _ rest = refl
