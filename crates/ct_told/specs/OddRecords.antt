-- What is wrong with a record as a whole: of these faults the first that it has.
--
-- 1. It is no object.
-- 2. It has no key "version", or there is no whole number there.
-- 3. It has a key that records of its version don't have; of several the first in the order of their bytes.
-- 4. Of batch (in version 3 alone), cells, n and steps, in this order, one is missing, or has another value than is wanted.
use Rattle.std.specs.Prelude.{ℕ, Bool, not, ◌==◌, ◌&&◌, ◌||◌, List, [], ◌∷◌, codes, decimal, Option, Some, None, is_some}
use Rattle.std.specs.Prelude.{option_and_then, if◌then◌else◌}
use Rattle.std.specs.List.{concat}
use Rattle.std.specs.Str.{bytes_eq}
use Rattle.serde_json.specs.Data.{Data, Members, no_members, member}
use Rattle.serde_json.specs.Find.{get, as_number, as_u64, as_object}
use Rattle.ct_names.specs.declared.limit.TheConstants.{MAX_BOUND, MAX_CELLS, MAX_MEMBERS}
use Rattle.ct_records.specs.Script.{whole_of}
use Rattle.ct_told.specs.declared.key.Key.{Key}
use Rattle.ct_told.specs.declared.key.Key.TheVariants.{Batch, Cells, Members as Group, Steps}
use Rattle.ct_told.specs.GivenNames.{given_text}

-- ---- keys

abbrev pub key_text : Key → List ℕ
key_text Batch = codes "batch"
key_text Cells = codes "cells"
key_text Group = codes "n"
key_text Steps = codes "steps"

-- records of the version have the key
abbrev pub is_key : ℕ → List ℕ → Bool
is_key version key =
    bytes_eq key (codes "cells") || (bytes_eq key (codes "n") || (bytes_eq key (codes "steps") || (bytes_eq key (codes "version")
    || ((version == 3) && bytes_eq key (codes "batch")))))

-- the first of the keys that records of the version don't have
abbrev pub first_unknown : ℕ → Members → Option (List ℕ)
first_unknown version no_members = None
first_unknown version (member key d ms) = if is_key version key then first_unknown version ms else Some key

-- the key has a whole number in the range
abbrev pub has_number : Key → ℕ → ℕ → Data → Bool
has_number key low high d = is_some (option_and_then (whole_of low high) (get (key_text key) d))

-- the first of the keys that is missing or has another value than is wanted, where one is
abbrev pub first_odd : ℕ → Data → Key
first_odd version d =
    if (version == 3) && not (has_number Batch 1 MAX_BOUND d) then Batch else (
    if not (has_number Cells 0 MAX_CELLS d) then Cells else (
    if not (has_number Group 1 MAX_MEMBERS d) then Group else Steps))

-- ---- the line

abbrev pub versions_line : List ℕ
versions_line = codes "record: version 1, 2 or 3 is wanted"

abbrev pub missing_line : List ℕ → List ℕ
missing_line key = concat (codes "record: no key \"" ∷ key ∷ codes "\"" ∷ [])

abbrev pub unknown_line : ℕ → List ℕ → List ℕ
unknown_line version key =
    concat (codes "record: " ∷ given_text (codes "\"") (codes "key") key ∷ codes " is no key of version " ∷ decimal version ∷ [])

abbrev pub range_line : Key → ℕ → ℕ → List ℕ
range_line key low high =
    concat (codes "record: " ∷ key_text key ∷ codes ": " ∷ decimal low ∷ codes " to " ∷ decimal high ∷ codes " is wanted" ∷ [])

abbrev pub wanted_line : Key → List ℕ
wanted_line Batch = range_line Batch 1 MAX_BOUND
wanted_line Cells = range_line Cells 0 MAX_CELLS
wanted_line Group = range_line Group 1 MAX_MEMBERS
wanted_line Steps = codes "record: steps: a list is wanted"

-- of a key that is missing or has another value
unfoldable pub odd_line : Key → Data → List ℕ
odd_line key d = if is_some (get (key_text key) d) then wanted_line key else missing_line (key_text key)

abbrev pub keys_line : ℕ → Option (List ℕ) → Data → List ℕ
keys_line version (Some key) d = unknown_line version key
keys_line version None d = odd_line (first_odd version d) d

abbrev pub in_version : Option ℕ → Members → Data → List ℕ
in_version None ms d = versions_line
in_version (Some version) ms d = keys_line version (first_unknown version ms) d

abbrev pub with_version : Option Data → Members → Data → List ℕ
with_version None ms d = missing_line (codes "version")
with_version (Some v) ms d = in_version (option_and_then as_u64 (as_number v)) ms d

abbrev pub in_object : Option Members → Data → List ℕ
in_object None d = codes "record: not an object"
in_object (Some ms) d = with_version (get (codes "version") d) ms d

unfoldable pub whole_line : Data → List ℕ
whole_line d = in_object (as_object d) d
