use Rattle.std.proofs.Common.{◌≡◌, ◌++◌}
use Rattle.std.specs.Prelude.{flat_map, string_bytes}
use Rattle.ct_show.specs.Facts.{first_heard, heard_text}
use Rattle.ct_show.proofs.facts.push_all_heard.Given as goal

abbrev pub invariant-loop-i : goal.invariant-loop-i
invariant-loop-i l =
    string_bytes l.text
    ≡ string_bytes l.fn.text ++ flat_map (heard_text l.before l.after) (first_heard l.world.rehearsal l.member l.i)
