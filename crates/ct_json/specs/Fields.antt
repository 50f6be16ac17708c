-- Values of JSON: how they are put together, and what is written of them.
use Rattle.std.specs.Prelude.{◌≡◌, ℕ, List, [], ◌∷◌, ◌++◌, codes, flat_map, map}
use Rattle.json.specs.Print.{quoted}
use Rattle.serde_json.specs.Data.{Data, array, object, Items, no_items, item, Members, no_members, member}
use Rattle.serde_json.specs.Written.{compact_text}

-- a key and its value
abbrev pub Field : Type 0
Field = List ℕ × Data

abbrev pub members_of : List Field → Members
members_of [] = no_members
members_of (field ∷ fields) = member field.0 field.1 (members_of fields)

-- the object with these keys
abbrev pub object_of : List Field → Data
object_of fields = object (members_of fields)

abbrev pub items_of : List Data → Items
items_of [] = no_items
items_of (value ∷ values) = item value (items_of values)

-- the array of these values
abbrev pub array_of : List Data → Data
array_of values = array (items_of values)

-- the array of what stands for each of these
abbrev pub array_by : {A : Type 0} → (A → Data) → List A → Data
array_by value xs = array_of (map value xs)

-- ---- texts

-- between quotes a text stands as it is
abbrev pub IsPlain : List ℕ → Type 0
IsPlain text = quoted text ≡ 34 ∷ (text ++ codes "\"")

-- keys and their values inside an object, each behind a comma
abbrev pub fields_text : List Field → List ℕ
fields_text [] = []
fields_text (field ∷ fields) = 44 ∷ (quoted field.0 ++ 58 ∷ (compact_text field.1 ++ fields_text fields))

-- an object up to the bracket that closes it
abbrev pub opened : List Field → List ℕ
opened [] = codes "{"
opened (field ∷ fields) = 123 ∷ (quoted field.0 ++ 58 ∷ (compact_text field.1 ++ fields_text fields))

-- a value and a line feed
abbrev pub line_text : Data → List ℕ
line_text value = compact_text value ++ codes "\n"

abbrev pub lines_text : List Data → List ℕ
lines_text values = flat_map line_text values
