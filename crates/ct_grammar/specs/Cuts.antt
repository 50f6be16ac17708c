-- Cuts.
use Rattle.std.specs.Prelude.{ℕ, List, [], ◌∷◌, length, Result, Err, codes, if◌then◌else◌}
use Rattle.std.specs.Option.{ok_or}
use Rattle.std.specs.Str.{bytes_eq}
use Rattle.ct_grammar.specs.declared.unfit.Unfit.{Unfit}
use Rattle.ct_grammar.specs.declared.unfit.Unfit.TheVariants.{End, Word as Other}
use Rattle.ct_grammar.specs.declared.wanted.Wanted.TheVariants.{Side, Bar}
use Rattle.ct_grammar.specs.Words.{Word}
use Rattle.ct_grammar.specs.Unfits.{◌>>=◌}
use Rattle.ct_grammar.specs.Sides.{whole}
use Rattle.ct_grammar.specs.Sides.{with_set}

-- the sides, where also the members of each set are on one; a bar stands between each two sets
abbrev pub with_sets : List ℕ → List Word → Result (List ℕ) Unfit
with_sets sides [] = Err (End Side)
with_sets sides (set ∷ []) = ok_or (with_set sides set) (Other 0 Side)
with_sets sides (set ∷ bar ∷ words) = do
  named ← ok_or (with_set sides set) (Other (length (bar ∷ words)) Side)
  if bytes_eq bar (codes "|") then with_sets named words else Err (Other (length words) Bar)

-- the sides of a cut
unfoldable pub cut_of : List Word → Result (List ℕ) Unfit
cut_of words = with_sets whole words
