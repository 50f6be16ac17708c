-- Lines.
use Rattle.std.specs.Prelude.{ℕ, length, List, [], ◌∷◌, Option, Some, None, Result, Ok, Err, codes, if◌then◌else◌}
use Rattle.std.specs.Str.{bytes_eq}
use Rattle.ct_names.specs.declared.limit.TheConstants.{MAX_BOUND, MAX_CELLS, MAX_MEMBERS}
use Rattle.ct_grammar.specs.declared.act.Act.TheVariants.{Crash}
use Rattle.ct_grammar.specs.declared.given.Given.TheVariants.{Members, Cells, Batch}
use Rattle.ct_grammar.specs.declared.line.Line.{Line}
use Rattle.ct_grammar.specs.declared.line.Line.TheVariants.{Blank, Given as Gives, Play as Plays}
use Rattle.ct_grammar.specs.declared.misfit.Misfit.{Misfit}
use Rattle.ct_grammar.specs.declared.play.Play.{Play}
use Rattle.ct_grammar.specs.declared.play.Play.TheVariants.{Act as Acts, Cut, Heal, Expect, Ask}
use Rattle.ct_grammar.specs.declared.unfit.Unfit.{Unfit}
use Rattle.ct_grammar.specs.declared.unfit.Unfit.TheVariants.{End, Word as Other}
use Rattle.ct_grammar.specs.declared.wanted.Wanted.{Wanted}
use Rattle.ct_grammar.specs.declared.wanted.Wanted.TheVariants.{Doing, Set, GroupSize, CellCount, Bound, Nothing}
use Rattle.ct_grammar.specs.declared.who.Who.{Who}
use Rattle.ct_grammar.specs.declared.who.Who.TheVariants.{One}
use Rattle.ct_grammar.specs.Words.{Word, words_of}
use Rattle.ct_grammar.specs.Unfits.{◌>>=◌, map_ok}
use Rattle.ct_grammar.specs.Numbers.{has_comma}
use Rattle.ct_grammar.specs.Leading.{number_first, over}
use Rattle.ct_grammar.specs.Who.{who_of}
use Rattle.ct_grammar.specs.Stated.{acted}
use Rattle.ct_grammar.specs.Turns.{turns_of, settle_of}
use Rattle.ct_grammar.specs.Goals.{goal_in}
use Rattle.ct_grammar.specs.Cuts.{cut_of}
use Rattle.ct_grammar.specs.Questions.{lone_member, alone, question_of}
use Rattle.ct_grammar.specs.Misfits.{told}

-- what stands behind the members and is not `turns`: `settle` or an act
unfoldable pub settled_or_acted : Who → List Word → Result Play Unfit
settled_or_acted who [] = Err (End Doing)
settled_or_acted who (name ∷ words) = if bytes_eq name (codes "settle") then settle_of who words else acted who (name ∷ words)

-- what stands behind the members: `turns`, `settle` or an act
unfoldable pub done_by : Who → List Word → Result Play Misfit
done_by who [] = told [] (settled_or_acted who [])
done_by who (name ∷ words) =
    if bytes_eq name (codes "turns") then turns_of who words else told (name ∷ words) (settled_or_acted who (name ∷ words))

-- a crash, a cut or its end; otherwise a question
unfoldable pub played_of : Word → List Word → Result Play Unfit
played_of name words =
    if bytes_eq name (codes "crash") then map_ok (λ p. Acts (One p) Crash) (lone_member words) else (
    if bytes_eq name (codes "cut") then map_ok Cut (cut_of words) else (
    if bytes_eq name (codes "heal") then alone Heal words else map_ok Ask (question_of name words)))

-- a number from low to high, alone
unfoldable pub lone_number : ℕ → ℕ → Wanted → List Word → Result ℕ Unfit
lone_number low high wanted words = do
  r ← number_first low high wanted words
  _ ← over Nothing r.1
  Ok r.0

-- the size of the group, the number of cells, the bound on a proposal; otherwise what is played
unfoldable pub heading_of : Word → List Word → Result Line Unfit
heading_of name words =
    if bytes_eq name (codes "members") then map_ok (λ n. Gives (Members n)) (lone_number 1 MAX_MEMBERS GroupSize words) else (
    if bytes_eq name (codes "cells") then map_ok (λ n. Gives (Cells n)) (lone_number 0 MAX_CELLS CellCount words) else (
    if bytes_eq name (codes "batch") then map_ok (λ n. Gives (Batch n)) (lone_number 1 MAX_BOUND Bound words) else (
    map_ok Plays (played_of name words))))

-- no list of members, which this word is not; otherwise a number of the group, and the others
unfoldable pub named : Word → List Word → Result Line Unfit
named name words = if has_comma name then Err (Other (length words) Set) else heading_of name words

-- what is expected; otherwise a line that another word of its own begins
unfoldable pub worded : List Word → Result Line Misfit
worded [] = Ok Blank
worded (name ∷ words) =
    if bytes_eq name (codes "expect") then map_ok (λ goal. Plays (Expect goal)) (goal_in words) else told (name ∷ words) (named name words)

-- what members do, where the first word names some; otherwise what that word begins
unfoldable pub begun : Option Who → Word → List Word → Result Line Misfit
begun None name words = worded (name ∷ words)
begun (Some who) name words = map_ok Plays (done_by who words)

-- the line of these words, or why it is not understood
unfoldable pub of_words : List Word → Result Line Misfit
of_words [] = Ok Blank
of_words (name ∷ words) = begun (who_of name) name words

-- what the line says, or why it is not understood
unfoldable pub line_of : List ℕ → Result Line Misfit
line_of line = of_words (words_of line)
