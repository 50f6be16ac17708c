-- What the marks tell after one more was taken.
use Rattle.std.proofs.Common.{◌≡◌, ℕ, Bool, true, false, Option, ◌||◌, ◌&&◌, ◌==◌, List, []}
use Rattle.std.proofs.Common.{arith, set, length-set}
use Rattle.std.specs.Prelude.{option_map, slice_index_or}
use Rattle.std.proofs.lemmas.Bool.Decides.{nat_tests}
use Rattle.std.proofs.Math.Bool.{and_comm}
use Rattle.std.proofs.lemmas.List.{get_or-set_same, get_or-set_other}
use Rattle.ct_names.specs.Group.{is_member}
use Rattle.ct_names.specs.MemberSet.{has_member, with_member}
use Rattle.ct_names.specs.declared.limit.TheConstants.{MAX_MEMBERS}
use Rattle.ct_names.proofs.Groups.{member_from_one, member_to_n}
use Rattle.ct_names.proofs.MemberSets.{has_member-filter, in-everyone}
use Rattle.ct_relay.specs.declared.known.Known.{Known}
use Rattle.ct_relay.specs.declared.relay_id.RelayId.{RelayId}
use Rattle.ct_relay.specs.declared.relay_id.RelayId.TheVariants.{Data, Dec}
use Rattle.ct_relay.specs.Taken.{is_id}
use Rattle.ct_relay.specs.Marks.{told, with_mark, told_of, with_mark_of}

-- a set with one more member has it and what it had
has_member-with : (set : List ℕ) (one p : ℕ) → is_member MAX_MEMBERS p ≡ true →
    has_member (with_member set one) p ≡ ((p == one) || has_member set p)
has_member-with set one p is =
    has_member-filter (λ q. (q == one) || has_member set q) p
    (in-everyone p (member_from_one MAX_MEMBERS p is, member_to_n MAX_MEMBERS p is))

module _ (marks : List (List ℕ)) (origin number o n : ℕ) where
  abbrev set_here : List ℕ
  set_here = with_member (slice_index_or marks number []) origin

  told-added : told (with_mark marks origin number) o n
      ≡ option_map (λ t. t || ((o == origin) && (n == number))) (told marks o n)
  told-added = grind (
    arith,
    nat_tests,
    length-set marks number set_here,
    get_or-set_same marks number set_here [],
    get_or-set_other marks number n set_here [],
    has_member-with (slice_index_or marks number []) origin o,
  )

pub no-more : (told : Option Bool) → told ≡ option_map (λ t. t || false) told
no-more told = grind arith

-- what they tell after one was noted
pub told-with_mark : (known : Known) (id x : RelayId) →
    told_of (with_mark_of known id) x ≡ option_map (λ b. b || is_id x id) (told_of known x)
told-with_mark known (Data origin number) (Data o n) =
    told-added known.messages origin number o n
told-with_mark known (Data origin number) (Dec k r) = no-more (told known.decisions r k)
told-with_mark known (Dec instance round) (Data o n) = no-more (told known.messages o n)
told-with_mark known (Dec instance round) (Dec k r) =
    grind (arith, told-added known.decisions round instance r k, and_comm (r == round) (k == instance))
