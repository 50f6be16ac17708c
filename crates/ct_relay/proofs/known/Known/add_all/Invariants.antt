use Rattle.std.proofs.Common.{◌≡◌, ◌||◌, take}
use Rattle.std.specs.Prelude.{option_map}
use Rattle.std.specs.List.{list_any}
use Rattle.ct_relay.specs.declared.relay_id.RelayId.{RelayId}
use Rattle.ct_relay.specs.Marks.{told_of}
use Rattle.ct_relay.specs.Taken.{is_id}
use Rattle.ct_relay.proofs.known.Known.add_all.Given as goal

abbrev pub invariant-loop-id : goal.invariant-loop-id
invariant-loop-id l =
    (id : RelayId) → told_of l.self id ≡ option_map (λ b. b || list_any (is_id id) (take l.id-index l.ids)) (told_of l.fn.self id)
