-- What is read of the options that `clap` found.
use Rattle.std.specs.Prelude.{◌≡◌, ◌==◌, ◌≢◌, ℕ, Bool, true, false, List, [], ◌∷◌, ◌++◌, length, map, codes}
use Rattle.std.specs.Prelude.{Option, Some, None, option_map}
use Rattle.std.specs.List.{after_first, join_by, position_or_len}
use Rattle.std.specs.Str.{bytes_eq}
use Rattle.std.proofs.Common.{◌∙◌, ap, arith, refl, sym}
use Rattle.std.proofs.lemmas.List.Folds.{flat_map-map}
use Rattle.std.proofs.lemmas.Slice.Eq.{bytes_eq-Decides}
use Rattle.std.proofs.Math.ListN.{drop_of_length-le}
use Rattle.std.proofs.lemmas.List.{append_assoc, append-nil}
use Rattle.clap.specs.Words.{Text, first_value, matched_of, raw_values, rows_of}
use Rattle.clap.specs.declared.parser.matches.Found.{Found}
use Rattle.clap.proofs.WalkLemmas.{first_value-rows, raw_values-rows}
use Rattle.ct_grammar.specs.declared.misfit.Misfit.{Misfit}
use Rattle.ct_grammar.specs.Misfits.{misfit_text}
use Rattle.ct_streams.specs.Arguments.{◌>>=◌, whole_in}
use Rattle.ct_walk.specs.declared.sight.Sight.{Sight}
use Rattle.ct_walk.specs.Line.{goal_in, goal_or_none, joined, no_goal_line, seeds_in, seeds_or_line}
use Rattle.ct_walk.specs.Sights.{sight_by, sight_of}

pub found_goal : (f : Found) (n : ℕ) (name : Text) (texts : Option (List Text)) → texts ≡ option_map raw_values (matched_of f name) →
    goal_or_none n name texts ≡ goal_in (rows_of f) n name
found_goal f n name texts found = ap (goal_or_none n name) (found ∙ raw_values-rows f name)

pub found_seeds : (f : Found) (text : Option Text) → text ≡ first_value f (codes "seeds") →
    seeds_or_line text ≡ seeds_in (rows_of f)
found_seeds f text found = ap seeds_or_line (found ∙ first_value-rows f (codes "seeds"))

is_other : (kind word : Text) → kind ≢ word → bytes_eq kind word ≡ false
is_other kind word other = go (bytes_eq kind word) refl
  where
    go : (b : Bool) → bytes_eq kind word ≡ b → bytes_eq kind word ≡ false
    go false e = e
    go true e = absurd (other ((bytes_eq-Decides kind word).0 e))

-- no space stands in the text
pub no_space : (text : Text) → position_or_len (λ c. c == 32) text ≡ length text → None ≡ sight_of text
unfolding sight_of whole_in
no_space text none =
    let behind : after_first (λ c. c == 32) text ≡ [] = drop_of_length-le text (omega arith) in
    rw behind refl

abbrev the_none : Option Sight
the_none = None

pub other_kind : (kind number : Text) → kind ≢ codes "round" → kind ≢ codes "decided" → None ≡ sight_by kind number
other_kind kind number round decided =
    rw (is_other kind (codes "decided") decided, is_other kind (codes "round") round) (go (whole_in 1 4294967295 number))
  where
    go : (n : Option ℕ) → None ≡ (n >>= λ n. the_none)
    go None = refl
    go (Some n) = refl

pub joined_is : {X : Type 0} (f : X → Text) (words : List X) → join_by f (codes " ") words ≡ joined (map f words)
joined_is f [] = refl
joined_is f (word ∷ words) = ap (λ more. f word ++ more) (sym (flat_map-map (λ (text : Text). codes " " ++ text) f words))

abbrev said : Text
said = codes ": not understood: "

-- the front of the line, and what is wrong
pub line_is : (name text front : Text) (misfit : Misfit) → front ≡ codes "--" ++ (name ++ (codes " " ++ (text ++ said))) →
    front ++ misfit_text misfit ≡ no_goal_line name text misfit
line_is name text front misfit is =
    let wrong = misfit_text misfit in
    ap (λ s. s ++ wrong) is
    ∙ ap (λ s. codes "--" ++ s)
    (append_assoc name (codes " " ++ (text ++ said)) wrong
    ∙ ap (λ s. name ++ (codes " " ++ s)) (append_assoc text said wrong ∙ ap (λ s. text ++ (said ++ s)) (sym (append-nil wrong))))
