-- When a text of JSON is read as a value.
use Rattle.std.specs.Prelude.{◌≡◌, ℕ, List, [], ◌∷◌, Some, ⊤}
use Rattle.serde_json.specs.Data.{Data, null, boolean, number, string, array, object}
use Rattle.serde_json.specs.Data.{Items, no_items, item, Members, no_members, member, put}
use Rattle.serde_json.specs.Read.{read}
use Rattle.serde_json.specs.Written.{IsInOrder}

-- the value with the keys of each of its objects in rising order, as `serde_json` keeps them
abbrev mutual
  pub in_order : Data → Data
  in_order null = null
  in_order (boolean b) = boolean b
  in_order (number n) = number n
  in_order (string s) = string s
  in_order (array ds) = array (items_in_order ds)
  in_order (object ms) = object (members_in_order ms no_members)

  pub items_in_order : Items → Items
  items_in_order no_items = no_items
  items_in_order (item d ds) = item (in_order d) (items_in_order ds)

  pub members_in_order : Members → Members → Members
  members_in_order no_members found = found
  members_in_order (member k d ms) found = members_in_order ms (put k (in_order d) found)

-- the text is read as one value, which is this one; and it has each key and each entry of it once, in their order here
pub record IsRead (text : List ℕ) (d : Data) : Type 0 where
  pub value : read text ≡ Some (in_order d)
  pub order : IsInOrder text d

-- each of these texts is read so, as one of these values
abbrev pub AreRead : List (List ℕ) → List Data → Type 0
AreRead [] [] = ⊤
AreRead [] (d ∷ values) = ⊥
AreRead (text ∷ texts) [] = ⊥
AreRead (text ∷ texts) (d ∷ values) = IsRead text d × AreRead texts values
