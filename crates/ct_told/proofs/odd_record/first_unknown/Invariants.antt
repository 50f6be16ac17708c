use Rattle.std.proofs.Common.{◌≡◌}
use Rattle.serde_json.specs.View.{members_view}
use Rattle.ct_told.specs.OddRecords.{first_unknown}
use Rattle.ct_told.proofs.odd_record.first_unknown.Given as goal

-- the first such key is among the members that are left
abbrev pub invariant-loop-key : goal.invariant-loop-key
invariant-loop-key l =
    first_unknown l.version (members_view l.key-iterator) ≡ first_unknown l.version (members_view l.fn.members.entries)
