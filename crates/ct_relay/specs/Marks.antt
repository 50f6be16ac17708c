-- Marks that tell of most messages and decisions whether they were taken: of each number, from 0 on, the origins that have a
-- mark. For a decision the instance is the number, and the round is the origin.
use Rattle.std.specs.Prelude.{◌≡◌, ℕ, Bool, true, ◌&&◌, nat_lt, if◌then◌else◌, Option, Some, None, List, length}
use Rattle.std.specs.Prelude.{slice_index_or, slice_set, []}
use Rattle.std.specs.List.{list_any}
use Rattle.ct_names.specs.Group.{is_member}
use Rattle.ct_names.specs.MemberSet.{has_member, with_member}
use Rattle.ct_names.specs.Membership.{IsWithoutRepeats}
use Rattle.ct_names.specs.declared.limit.TheConstants.{MAX_MEMBERS}
use Rattle.ct_relay.specs.declared.known.Known.{Known}
use Rattle.ct_relay.specs.declared.relay_id.RelayId.{RelayId}
use Rattle.ct_relay.specs.declared.relay_id.RelayId.TheVariants.{Data, Dec}
use Rattle.ct_relay.specs.Taken.{is_id}

-- there is a place for it
abbrev pub covers : List (List ℕ) → ℕ → ℕ → Bool
covers marks origin number = nat_lt number (length marks) && is_member MAX_MEMBERS origin

-- whether it has a mark, where they cover it
abbrev pub told : List (List ℕ) → ℕ → ℕ → Option Bool
told marks origin number =
    if covers marks origin number then Some (has_member (slice_index_or marks number []) origin) else None

-- the marks and one more, where they cover it
abbrev pub with_mark : List (List ℕ) → ℕ → ℕ → List (List ℕ)
with_mark marks origin number =
    if covers marks origin number then slice_set marks number (with_member (slice_index_or marks number []) origin) else marks

-- the same of what is relayed: messages by number and origin, decisions by instance and round
abbrev pub covers_id : Known → RelayId → Bool
covers_id known (Data origin number) = covers known.messages origin number
covers_id known (Dec instance round) = covers known.decisions round instance

abbrev pub told_of : Known → RelayId → Option Bool
told_of known (Data origin number) = told known.messages origin number
told_of known (Dec instance round) = told known.decisions round instance

abbrev pub with_mark_of : Known → RelayId → Known
with_mark_of known (Data origin number) =
    record { messages = with_mark known.messages origin number; decisions = known.decisions }
with_mark_of known (Dec instance round) =
    record { messages = known.messages; decisions = with_mark known.decisions round instance }

-- the marks tell of what they cover whether it is in the order of first receipt, and the others have what is not covered.
-- They may have of the rest what was taken before it was covered
pub record IsKept (order : List RelayId) (known : Known) (others : List RelayId) : Type 0 where
  pub once : IsWithoutRepeats order
  pub taken : (id : RelayId) → list_any (is_id id) others ≡ true → list_any (is_id id) order ≡ true
  pub covered : (id : RelayId) (b : Bool) → told_of known id ≡ Some b → b ≡ list_any (is_id id) order
  pub uncovered : (id : RelayId) → told_of known id ≡ None → list_any (is_id id) others ≡ list_any (is_id id) order
