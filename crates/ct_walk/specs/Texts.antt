-- What texts name that are given for the options of walks.
use Rattle.std.specs.Prelude.{◌==◌, ◌&&◌, Bool, false, Option, Some, None, [], ◌∷◌, drop, option_map, if◌then◌else◌}
use Rattle.clap.specs.Words.{Text}
use Rattle.ct_streams.specs.Arguments.{◌>>=◌, whole_in}
use Rattle.ct_walk.specs.declared.call.Seeds.{Seeds}

-- the text begins with two points
abbrev pub begins_with_points : Text → Bool
begins_with_points [] = false
begins_with_points (a ∷ []) = false
begins_with_points (a ∷ b ∷ rest) = (a == 46) && (b == 46)

-- what stands before the first two points of the text, and what stands after them
abbrev pub cut : Text → Option (Text × Text)
cut [] = None
cut (c ∷ rest) =
    if begins_with_points (c ∷ rest) then Some ([], drop 1 rest) else option_map (λ parts. (c ∷ parts.0, parts.1)) (cut rest)

-- the seeds from the number before the points to the one after them, which is no smaller
unfoldable pub seeds_of : Text → Option Seeds
seeds_of text = do
  parts ← cut text
  first ← whole_in 0 4294967295 parts.0
  last ← whole_in first 4294967295 parts.1
  Some (record { first = first; last = last })
