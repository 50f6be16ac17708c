-- Lines, written and read.
use Rattle.std.proofs.Common.{◌≡◌, ℕ, ◌<◌, ◌≤◌, ◌^◌, false, List, [], ◌∷◌, ◌++◌, refl, sym, ap, ◌∙◌, arith, append-nil}
use Rattle.std.specs.Prelude.{codes, decimal, Ok}
use Rattle.ct_names.specs.declared.limit.TheConstants.{MAX_BOUND, MAX_CELLS, MAX_MEMBERS}
use Rattle.ct_grammar.specs.declared.act.Act.{Act}
use Rattle.ct_grammar.specs.declared.act.Act.TheVariants.{Submit}
use Rattle.ct_grammar.specs.declared.goal.Goal.{Goal}
use Rattle.ct_grammar.specs.declared.given.Given.{Given}
use Rattle.ct_grammar.specs.declared.given.Given.TheVariants.{Members, Cells, Batch}
use Rattle.ct_grammar.specs.declared.line.Line.{Line}
use Rattle.ct_grammar.specs.declared.line.Line.TheVariants.{Blank, Given as Gives, Play as Plays}
use Rattle.ct_grammar.specs.declared.play.Play.{Play}
use Rattle.ct_grammar.specs.declared.play.Play.TheVariants.{Act as Acts, Stated, Turns, Settle, Until, Cut, Heal, Expect, Ask}
use Rattle.ct_grammar.specs.declared.question.Question.{Question}
use Rattle.ct_grammar.specs.declared.question.Question.TheVariants.{Enabled, Next, State, Waiting, Report, Record, Limits}
use Rattle.ct_grammar.specs.declared.statement.Statement.{Statement}
use Rattle.ct_grammar.specs.declared.who.Who.{Who}
use Rattle.ct_grammar.specs.Leading.{over}
use Rattle.ct_grammar.specs.Lines.{settled_or_acted, done_by, played_of, lone_number, heading_of, named, worded, begun, of_words, line_of}
use Rattle.ct_grammar.specs.Misfits.{told}
use Rattle.ct_grammar.specs.Numbers.{max_u8, max_u32, number_of, members_of}
use Rattle.ct_grammar.specs.Questions.{lone_member, short_question, question_of}
use Rattle.ct_grammar.specs.Stated.{taken, acted}
use Rattle.ct_grammar.specs.Turns.{suspected, set_alone, lone_suspected, counted, behind_until, watched, until_of, says_until, turns_of}
use Rattle.ct_grammar.specs.Turns.{settle_of}
use Rattle.ct_grammar.specs.Who.{who_of}
use Rattle.ct_grammar.specs.Words.{Word, all_words}
use Rattle.ct_print.specs.Acts.{act_text}
use Rattle.ct_print.specs.Goals.{goal_text}
use Rattle.ct_print.specs.Lines.{given_text, question_text, suspecting_text, play_text, line_text}
use Rattle.ct_print.specs.Members.{set_text, who_text}
use Rattle.ct_print.specs.Statements.{statement_text}
use Rattle.ct_print.specs.Writable.{IsSet, WhoFits, ActFits, GoalFits, GivenFits, QuestionFits, PlayFits, IsWritable}
use Rattle.ct_print.specs.Writable.{StatementFits, IsStatedOf}
use Rattle.ct_print.proofs.ActsRead.{number_is_first, member_is_first, whole_is_first, set_is_first, act_back, from_first}
use Rattle.ct_print.proofs.CutsRead.{cut_words, cut_reads, cut_back}
use Rattle.ct_print.proofs.FactsRead.{who_back}
use Rattle.ct_print.proofs.Numeric.{decimal_numeric, numeric_other}
use Rattle.ct_print.proofs.NoAnd.{as_read, number_says, whole_says, spoken}
use Rattle.ct_print.proofs.Spoken.{act_words, act_says, set_says, some_length, some_set, who_reads}
use Rattle.ct_print.proofs.StatementsRead.{statement_words, statement_reads, no_sender, taken_back}
use Rattle.ct_print.proofs.TermsRead.{goal_words, goal_reads, goal_back}
use Rattle.ct_print.proofs.TextWords.{Reads, beside, word_before, word_reads, words_from}

-- ---- words

abbrev pub given_words : Given → List Word
given_words (Members n) = codes "members" ∷ decimal n ∷ []
given_words (Cells n) = codes "cells" ∷ decimal n ∷ []
given_words (Batch n) = codes "batch" ∷ decimal n ∷ []

abbrev pub question_words : Question → List Word
question_words (Enabled p) = codes "enabled" ∷ decimal p ∷ []
question_words (Next p) = codes "next" ∷ decimal p ∷ []
question_words (State p) = codes "state" ∷ decimal p ∷ []
question_words (Waiting p) = codes "waiting" ∷ decimal p ∷ []
question_words Report = codes "report" ∷ []
question_words Record = codes "record" ∷ []
question_words Limits = codes "limits" ∷ []

abbrev pub suspecting_words : List ℕ → List Word
suspecting_words [] = []
suspecting_words (p ∷ ps) = codes "suspecting" ∷ set_text (p ∷ ps) ∷ []

abbrev pub play_words : Play → List Word
play_words (Acts who act) = who_text who ∷ act_words act
play_words (Stated who act said) = who_text who ∷ (act_words act ++ statement_words said)
play_words (Turns who n set) = who_text who ∷ codes "turns" ∷ decimal n ∷ suspecting_words set
play_words (Settle who set) = who_text who ∷ codes "settle" ∷ suspecting_words set
play_words (Until who set goal) = who_text who ∷ codes "turns" ∷ (suspecting_words set ++ (codes "until" ∷ goal_words goal))
play_words (Cut sides) = codes "cut" ∷ cut_words sides
play_words Heal = codes "heal" ∷ []
play_words (Expect goal) = codes "expect" ∷ goal_words goal
play_words (Ask question) = question_words question

abbrev pub line_words : Line → List Word
line_words Blank = []
line_words (Gives given) = given_words given
line_words (Plays play) = play_words play

given_reads : (given : Given) → GivenFits given → Reads (given_text given) (given_words given)
unfolding given_text
given_reads (Members n) h = word_before (codes "members") _ _ refl (number_says n (omega arith)).reads
given_reads (Cells n) h = word_before (codes "cells") _ _ refl (number_says n (omega arith)).reads
given_reads (Batch n) h = word_before (codes "batch") _ _ refl (number_says n (omega arith)).reads

question_reads : (question : Question) → QuestionFits question → Reads (question_text question) (question_words question)
unfolding question_text
question_reads Report h = search (as_read, spoken)
question_reads _ h = search (as_read, spoken)

-- behind a text
suspecting_reads : (text : List ℕ) (words : List Word) (set : List ℕ) → IsSet set → Reads text words →
    Reads (text ++ suspecting_text set) (words ++ suspecting_words set)
unfolding suspecting_text
suspecting_reads text words [] h k = rw (append-nil text, append-nil words) k
suspecting_reads text words (p ∷ ps) h k =
    rw (some_length p ps)
    (beside text (codes "suspecting" ++ 32 ∷ set_text (p ∷ ps)) words (codes "suspecting" ∷ set_text (p ∷ ps) ∷ []) k
    (word_before (codes "suspecting") _ _ refl (set_says (p ∷ ps) (some_set p ps h)).reads))

who_and : (who : Who) (text : List ℕ) (words : List Word) → WhoFits who → Reads text words →
    Reads (who_text who ++ 32 ∷ text) (who_text who ∷ words)
who_and who text words h k = beside (who_text who) text (who_text who ∷ []) words (who_reads who h) k

all_reads : (goal : Goal) → GoalFits goal → Reads (goal_text goal) (goal_words goal)
unfolding goal_text
all_reads goal h = goal_reads goal h

play_reads : (play : Play) → PlayFits play → Reads (play_text play) (play_words play)
unfolding play_text
play_reads (Acts who act) h = who_and who _ _ h.0 (act_says act h.1).reads
play_reads (Stated who act said) h =
    who_and who _ _ h.0 (beside (act_text act) (statement_text said) (act_words act) (statement_words said) (act_says act h.1).reads
    (statement_reads said h.2))
play_reads (Turns who n set) h =
    suspecting_reads _ (who_text who ∷ codes "turns" ∷ decimal n ∷ []) set h.2
    (who_and who _ _ h.0 (word_before (codes "turns") _ _ refl (whole_says n h.1).reads))
play_reads (Settle who set) h =
    suspecting_reads _ (who_text who ∷ codes "settle" ∷ []) set h.1 (who_and who _ _ h.0 (word_reads (codes "settle") refl))
play_reads (Until who set goal) h =
    beside _ _ ((who_text who ∷ codes "turns" ∷ []) ++ suspecting_words set) _
    (suspecting_reads _ (who_text who ∷ codes "turns" ∷ []) set h.1 (who_and who _ _ h.0 (word_reads (codes "turns") refl)))
    (word_before (codes "until") _ _ refl (all_reads goal h.2))
play_reads _ h = search (word_before, word_reads, cut_reads, all_reads, question_reads)

line_reads : (line : Line) → IsWritable line → Reads (line_text line) (line_words line)
unfolding line_text all_words
line_reads Blank h = record { all = refl; plain = refl }
line_reads (Gives given) h = given_reads given h
line_reads (Plays play) h = play_reads play h

-- ---- what members do

begun_by : (who : Who) (words : List Word) (play : Play) → WhoFits who → done_by who words ≡ Ok play →
    of_words (who_text who ∷ words) ≡ Ok (Plays play)
unfolding of_words begun
begun_by who words play h e = rw (who_back who h, e) refl

act_done : (who : Who) (act : Act) (words : List Word) →
    done_by who (act_words act ++ words) ≡ told (act_words act ++ words) (acted who (act_words act ++ words))
unfolding done_by settled_or_acted
act_done who (Submit command) words = refl
act_done who _ words = refl

act_taken : (who : Who) (act : Act) (words : List Word) → ActFits act → from_first words ≡ false →
    done_by who (act_words act ++ words) ≡ told (act_words act ++ words) (taken who act words)
unfolding acted
act_taken who act words h e = act_done who act words ∙ ap (told (act_words act ++ words)) taking
  where
    taking : acted who (act_words act ++ words) ≡ taken who act words
    taking = rw (act_back act _ words h e) refl

alone_taken : (who : Who) (act : Act) → ActFits act → done_by who (act_words act) ≡ Ok (Acts who act)
unfolding taken
alone_taken who act h = ap (done_by who) (sym (append-nil (act_words act))) ∙ act_taken who act [] h refl

stated_taken : (who : Who) (act : Act) (said : Statement) → ActFits act → StatementFits said → IsStatedOf act said →
    done_by who (act_words act ++ statement_words said) ≡ Ok (Stated who act said)
stated_taken who act said h k l =
    act_taken who act (statement_words said) h (no_sender said)
    ∙ ap (told (act_words act ++ statement_words said)) (taken_back who act said k l)

-- ---- turns

suspected_alone : (set : List ℕ) → IsSet set → lone_suspected (suspecting_words set) ≡ Ok set
unfolding lone_suspected set_alone over
suspected_alone [] h = refl
suspected_alone (p ∷ ps) h = rw (set_is_first (p ∷ ps) [] (some_set p ps h)) refl

turns_taken : (who : Who) (n : ℕ) (set : List ℕ) → n ≤ max_u32 → IsSet set →
    done_by who (codes "turns" ∷ decimal n ∷ suspecting_words set) ≡ Ok (Turns who n set)
unfolding done_by turns_of says_until counted
turns_taken who n set h k =
    let numeric = decimal_numeric n (omega arith) in
    rw (
      numeric_other (decimal n) 115 _ refl numeric,
      numeric_other (decimal n) 117 _ refl numeric,
      whole_is_first n _ (suspecting_words set) h,
      suspected_alone set k,
    ) refl

settle_taken : (who : Who) (set : List ℕ) → IsSet set → done_by who (codes "settle" ∷ suspecting_words set) ≡ Ok (Settle who set)
unfolding done_by settled_or_acted settle_of
settle_taken who set h = rw (suspected_alone set h) refl

until_taken : (who : Who) (set : List ℕ) (goal : Goal) → IsSet set → GoalFits goal →
    done_by who (codes "turns" ∷ (suspecting_words set ++ (codes "until" ∷ goal_words goal))) ≡ Ok (Until who set goal)
unfolding done_by turns_of says_until until_of watched suspected behind_until
until_taken who [] goal h k = rw (goal_back goal k) refl
until_taken who (p ∷ ps) goal h k =
    rw (set_is_first (p ∷ ps) (codes "until" ∷ goal_words goal) (some_set p ps h), goal_back goal k) refl

-- ---- lines

member_alone : (p : ℕ) → p ≤ max_u8 → lone_member (decimal p ∷ []) ≡ Ok p
unfolding lone_member over
member_alone p h = rw (member_is_first p _ [] h) refl

number_alone : (low high n : ℕ) (what : _) → high < 2 ^ 64 → low ≤ n → n ≤ high → lone_number low high what (decimal n ∷ []) ≡ Ok n
unfolding lone_number over
number_alone low high n what h l m = rw (number_is_first low high n what [] h l m) refl

given_back : (given : Given) → GivenFits given → of_words (given_words given) ≡ Ok (Gives given)
unfolding of_words who_of members_of number_of begun worded named heading_of
given_back (Members n) h = rw (number_alone 1 MAX_MEMBERS n _ (omega arith) h.0 h.1) refl
given_back (Cells n) h = rw (number_alone 0 MAX_CELLS n _ (omega arith) (omega arith) h) refl
given_back (Batch n) h = rw (number_alone 1 MAX_BOUND n _ (omega arith) h.0 h.1) refl

question_back : (question : Question) → QuestionFits question → of_words (question_words question) ≡ Ok (Plays (Ask question))
unfolding of_words who_of members_of number_of begun worded named heading_of played_of question_of short_question over
question_back Report h = refl
question_back _ h = first_of (search, simp member_alone)

play_back : (play : Play) → PlayFits play → of_words (play_words play) ≡ Ok (Plays play)
unfolding of_words who_of members_of number_of begun worded named heading_of played_of over
play_back (Acts who act) h = begun_by who (act_words act) (Acts who act) h.0 (alone_taken who act h.1)
play_back (Stated who act said) h =
    begun_by who (act_words act ++ statement_words said) (Stated who act said) h.0 (stated_taken who act said h.1 h.2 h.3)
play_back (Turns who n set) h = begun_by who _ (Turns who n set) h.0 (turns_taken who n set h.1 h.2)
play_back (Settle who set) h = begun_by who _ (Settle who set) h.0 (settle_taken who set h.1)
play_back (Until who set goal) h = begun_by who _ (Until who set goal) h.0 (until_taken who set goal h.1 h.2)
play_back (Cut sides) h = rw (cut_back sides h) refl
play_back Heal h = refl
play_back (Expect goal) h = rw (goal_back goal h) refl
play_back (Ask question) h = question_back question h

line_back : (line : Line) → IsWritable line → of_words (line_words line) ≡ Ok line
unfolding of_words
line_back Blank h = refl
line_back (Gives given) h = given_back given h
line_back (Plays play) h = play_back play h

-- what is written of a line is read as that line
pub read_back : (line : Line) → IsWritable line → line_of (line_text line) ≡ Ok line
unfolding line_of
read_back line h = rw (words_from (line_text line) (line_words line) (line_reads line h), line_back line h) refl
