-- Names that an input gives to what there is none of.
use Rattle.std.specs.Prelude.{ℕ, Bool, ◌&&◌, List, [], ◌∷◌, length, nat_le, codes, decimal, if◌then◌else◌}
use Rattle.std.specs.List.{concat, list_all}
use Rattle.ct_grammar.specs.declared.misfit.TheConstants.{LONGEST_WORD}

-- a sign of ASCII, and no space
abbrev pub is_printed : ℕ → Bool
is_printed c = nat_le 33 c && nat_le c 126

-- it has some bytes and not many, each a sign of ASCII
abbrev pub is_plain : List ℕ → Bool
is_plain name = nat_le 1 (length name) && (nat_le (length name) LONGEST_WORD && list_all is_printed name)

-- the name between the marks; of another how many bytes it has
abbrev pub given_text : List ℕ → List ℕ → List ℕ → List ℕ
given_text mark kind name =
    if is_plain name then concat (mark ∷ name ∷ mark ∷ [])
    else concat (codes "a " ∷ kind ∷ codes " of " ∷ decimal (length name) ∷ codes " bytes" ∷ [])
