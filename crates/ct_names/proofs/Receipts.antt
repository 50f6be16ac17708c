-- One more message at the end of a list.
use Rattle.std.proofs.Common.{◌≡◌, not, ◌&&◌, ◌||◌, List, [], ◌∷◌, ◌++◌, filter, refl, arith}
use Rattle.std.specs.Prelude.{if◌then◌else◌}
use Rattle.std.proofs.lemmas.List.Elements.{filter-append}
use Rattle.std.proofs.lemmas.List.{append-nil}
use Rattle.std.proofs.lemmas.List.Folds.{list_any-append}
use Rattle.ct_names.specs.Message.{Message}
use Rattle.ct_names.specs.Order.{is_message}
use Rattle.ct_names.specs.Value.{has, first_occurrences}
use Rattle.ct_names.proofs.Values.{same_message}

-- what the longer list has
pub has-push : (list : List Message) (x m : Message) → has (list ++ x ∷ []) m ≡ (has list m || is_message x m)
has-push list x m = grind (arith, list_any-append (λ other. is_message other m) list (x ∷ []))

-- a message that is kept is there, and isn't x
has-without : (x m : Message) (list : List Message) → has (filter (λ other. not (is_message x other)) list) m
    ≡ (has list m && not (is_message x m))
has-without x m [] = refl
has-without x m (y ∷ list) = grind (arith, same_message x y, same_message y m, has-without x m list)

-- one more message joins the first occurrences where it isn't there
pub first_occurrences-push : (list : List Message) (m : Message) →
    first_occurrences (list ++ m ∷ []) ≡ (if has (first_occurrences list) m then first_occurrences list else first_occurrences list ++ m
    ∷ [])
first_occurrences-push [] m = refl
first_occurrences-push (x ∷ list) m = grind (
  arith,
  first_occurrences-push list m,
  has-without x m (first_occurrences list),
  filter-append (λ other. not (is_message x other)) (first_occurrences list) (m ∷ []),
  append-nil (filter (λ other. not (is_message x other)) (first_occurrences list)),
)
