-- Why lines are not understood.
use Rattle.std.specs.Prelude.{ℕ, ◌-◌, List, [], ◌∷◌, ◌++◌, Option, Some, None, codes, decimal, length, nat_le, slice_get, unwrap_or}
use Rattle.std.specs.Prelude.{Result, Ok, Err, if◌then◌else◌}
use Rattle.std.specs.List.{concat}
use Rattle.ct_grammar.specs.declared.misfit.Misfit.{Misfit}
use Rattle.ct_grammar.specs.declared.misfit.TheConstants.{LONGEST_WORD}
use Rattle.ct_grammar.specs.declared.unfit.Unfit.{Unfit}
use Rattle.ct_grammar.specs.declared.unfit.Unfit.TheVariants.{End, Word as Other}
use Rattle.ct_grammar.specs.declared.wanted.Wanted.{Wanted}
use Rattle.ct_grammar.specs.declared.wanted.Wanted.TheVariants.{Act}
use Rattle.ct_grammar.specs.Words.{Word}
use Rattle.ct_grammar.specs.Places.{told_at}
use Rattle.ct_grammar.specs.Near.{near_name}

-- what does not fit among these words
unfoldable pub misfit_of : List Word → Unfit → Misfit
misfit_of words (End wanted) = record { word = None; wanted = wanted }
misfit_of words (Other behind wanted) = record { word = Some (unwrap_or (slice_get words (length words - 1 - behind)) []); wanted = wanted }

-- what the words say, or why they are not understood
abbrev pub told : {A : Type 0} → List Word → Result A Unfit → Result A Misfit
told words (Ok x) = Ok x
told words (Err unfit) = Err (misfit_of words unfit)

-- a comma before each name
abbrev pub more_names : List Word → List ℕ
more_names [] = []
more_names (name ∷ names) = codes ", " ++ (name ++ more_names names)

-- the names, with commas between them
abbrev pub names_text : List Word → List ℕ
names_text [] = []
names_text (name ∷ names) = codes " " ++ (name ++ more_names names)

-- the names that could stand there, where they are told
unfoldable pub listed_text : Wanted → List ℕ
listed_text wanted = if (told_at wanted).is_listed then codes ":" ++ names_text (told_at wanted).names else []

-- the name that is near to the word, or else the names that could stand there
abbrev pub near_text : Option Word → Wanted → List ℕ
near_text (Some name) wanted = concat (codes "; " ∷ name ∷ codes "?" ∷ [])
near_text None wanted = listed_text wanted

unfoldable pub hint_text : Word → Wanted → List ℕ
hint_text word wanted = near_text (near_name word (told_at wanted).names) wanted

-- the same of a word that names no act
abbrev pub act_hint : Word → List ℕ
act_hint word = hint_text word Act

-- the word; of a long one how many bytes it has
unfoldable pub shown_word : Word → List ℕ
shown_word word =
    if nat_le (length word) LONGEST_WORD then word else concat (codes "a word of " ∷ decimal (length word) ∷ codes " bytes" ∷ [])

-- what is said of a word that does not fit
unfoldable pub word_text : Word → Wanted → List ℕ
word_text word wanted = concat (shown_word word ∷ codes " " ∷ (told_at wanted).denied ∷ hint_text word wanted ∷ [])

-- what is said of the line's end
abbrev pub end_text : Wanted → List ℕ
end_text wanted = concat (codes "the line ends where " ∷ (told_at wanted).due ∷ codes " is due" ∷ [])

abbrev pub text_at : Option Word → Wanted → List ℕ
text_at None wanted = end_text wanted
text_at (Some word) wanted = word_text word wanted

-- what is wrong with the line, as `recieve is no act; receive?` or `the line ends where an act is due`
unfoldable pub misfit_text : Misfit → List ℕ
misfit_text misfit = text_at misfit.word misfit.wanted
