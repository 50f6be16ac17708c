use Rattle.ct_records.proofs.Common.{◌≡◌, ◌++◌, string_bytes, first_members}
use Rattle.ct_records.proofs.reporting.push_members.Given as goal

abbrev pub invariant-loop-i : goal.invariant-loop-i
invariant-loop-i l = string_bytes l.text ≡ string_bytes l.fn.text ++ first_members l.world.rehearsal l.i
