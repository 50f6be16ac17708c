-- Lines that are read can be written.
use Rattle.std.proofs.Common.{ℕ, ◌≤◌, List, [], ◌∷◌}
use Rattle.std.specs.Prelude.{Option, Some, None, IfOk, IfSome}
use Rattle.ct_grammar.specs.declared.who.Who.{Who}
use Rattle.ct_grammar.specs.Lines.{played_of, lone_number, heading_of, named, worded, begun, of_words, line_of}
use Rattle.ct_grammar.specs.Numbers.{max_u8}
use Rattle.ct_grammar.specs.Questions.{lone_member, short_question, question_of}
use Rattle.ct_grammar.specs.Who.{who_of}
use Rattle.ct_grammar.specs.Words.{Word, words_of}
use Rattle.ct_print.specs.Writable.{WhoFits, PlayFits, QuestionFits, IsWritable}
use Rattle.ct_print.proofs.CutsFit.{cut_fits}
use Rattle.ct_print.proofs.GoalsFit.{goal_fits}
use Rattle.ct_print.proofs.TurnsFit.{done_fits}
use Rattle.ct_print.proofs.Readable.{steps, Gives, who_fits, number_first_fits, member_first_fits}

member_fits : (words : List Word) → Gives (lone_member words) (λ p. p ≤ max_u8)
unfolding lone_member
member_fits words Q k = search (steps, member_first_fits) depth 7

number_fits : (low high : ℕ) (what : _) (words : List Word) →
    Gives (lone_number low high what words) (λ n. (low ≤ n) × (n ≤ high))
unfolding lone_number
number_fits low high what words Q k = search (steps, number_first_fits) depth 7

-- at most this high
number_upto : (high : ℕ) (what : _) (words : List Word) → Gives (lone_number 0 high what words) (λ n. n ≤ high)
number_upto high what words Q k = number_fits 0 high what words Q (λ n h. k n h.1)

question_fits : (name : Word) (words : List Word) → Gives (question_of name words) QuestionFits
unfolding question_of short_question
question_fits name words Q k = search (steps, member_fits) depth 14

played_fits : (name : Word) (words : List Word) → Gives (played_of name words) PlayFits
unfolding played_of
played_fits name words Q k = search (steps, member_fits, cut_fits, question_fits) depth 8

heading_fits : (name : Word) (words : List Word) → IfOk (named name words) IsWritable
unfolding named heading_of
heading_fits name words = search (steps, number_upto, number_fits, played_fits) depth 8

worded_fits : (words : List Word) → IfOk (worded words) IsWritable
unfolding worded
worded_fits [] = tt
worded_fits (name ∷ words) = search (steps, goal_fits, heading_fits)

words_fit : (words : List Word) → IfOk (of_words words) IsWritable
unfolding of_words begun
words_fit [] = tt
words_fit (name ∷ words) = go (who_of name) (who_fits name)
  where
    go : (who : Option Who) → IfSome who WhoFits → IfOk (begun who name words) IsWritable
    go None h = worded_fits (name ∷ words)
    go (Some who) h = search (steps, done_fits)

-- a line that is read can be written
pub readable : (bytes : List ℕ) → IfOk (line_of bytes) IsWritable
unfolding line_of
readable bytes = words_fit (words_of bytes)
